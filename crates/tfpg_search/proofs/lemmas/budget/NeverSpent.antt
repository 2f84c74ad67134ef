-- A budget that is enough is never spent.
use Rattle.std.proofs.Common.{◌≡◌, ◌≢◌, ℕ, ◌+◌, ◌*◌, ◌<◌, ◌≤◌, List, [], ◌∷◌, ◌++◌, length, Option, Some, None, refl, sym, ap, subst, arith, length-append}
use Rattle.std.specs.Prelude.{All, AllPairs, Contains, map}
use Rattle.std.proofs.lemmas.List.{map-append, length-map}
use Rattle.std.proofs.lemmas.List.Sums.{count_by-le-length}
use Rattle.std.proofs.lemmas.List.Elements.{All-nil, All-cons, All-append, All-weaker}
use Rattle.tfpg_log.specs.Log.{now_of}
use Rattle.tfpg_evidence.specs.declared.clause_name.ClauseName.{ClauseName}
use Rattle.tfpg_evidence.specs.declared.step.Step.{Step}
use Rattle.tfpg_evidence.specs.declared.step.Step.TheVariants.{Split, Cycle, Again}
use Rattle.tfpg_clause.specs.Trees.{Judged, is_split, split_count}
use Rattle.tfpg_clause.specs.Paths.{new_split, with_step, MovesTo}
use Rattle.tfpg_clause.specs.declared.path.PathSplit.{PathSplit}
use Rattle.tfpg_search.specs.Enough.{IsEventTime, IsNameAt, IsEnough}
use Rattle.tfpg_search.specs.inside.Picks.{IsAllowed}
use Rattle.tfpg_search.specs.inside.ClauseLaws.{ClauseLaws}
use Rattle.tfpg_search.specs.inside.Moves.{IsSearchStepAt, Leads, LeadsTo}
use Rattle.tfpg_search.proofs.lemmas.steps.DistinctNames.{split_name, names_after, AreDistinct}
use Rattle.tfpg_search.proofs.lemmas.steps.RightSteps.{after_step, distinct_path}
use Rattle.tfpg_base.proofs.lemmas.lists.Pigeons.{length-le_contained}
use Rattle.tfpg_search.proofs.lemmas.budget.Measure.{weight, weight_some, weight_limit, AreFew, split_lowers, closing_lowers}
use Rattle.tfpg_search.proofs.lemmas.steps.PathAfter.{Moved, moved_by}
use Rattle.tfpg_clause.specs.Case.{Case}

module _ (laws : ClauseLaws) (case : Case) (now_is : IsEventTime case.log (now_of case.log)) (budget : ℕ) (enough : IsEnough case.graph case.log budget) where
  abbrev a : ℕ
  a = 2 * enough.maximum + 3

  abbrev n : ℕ
  n = length enough.names

  a_some : 1 ≤ a
  a_some = omega arith

  -- the names on the path are among those that there are
  abbrev pub AreNames : List PathSplit → Type 0
  AreNames path = All (IsNameAt case.graph case.log) (map split_name path)

  -- The path is that of the present leaf of some steps.
  record AreLedTo (path : List PathSplit) (earlier : List Judged) : Type 0 where
    leads : LeadsTo case earlier (Some path)
    names : AreNames path

  few_splits : (path : List PathSplit) → All (IsAllowed case.graph case.log) path → AreFew a a_some path
  few_splits path allowed = All-weaker (IsAllowed case.graph case.log) (λ (f : PathSplit). f.alternatives < a) (λ f is. laws.few case.graph case.log enough.maximum enough.incoming.within f.name f.alternatives is) path allowed

  few : (path : List PathSplit) (earlier : List Judged) → AreLedTo path earlier → AreFew a a_some path
  few path earlier stands = few_splits path stands.leads.3

  short_names : (names : List ClauseName) → AllPairs ◌≢◌ names → All (IsNameAt case.graph case.log) names → length names ≤ n
  short_names names distinct are =
      length-le_contained names enough.names distinct (All-weaker (IsNameAt case.graph case.log) (Contains enough.names) (λ name is. (enough.names_are.exact name).1 is) names are)

  short : (path : List PathSplit) (earlier : List Judged) → AreLedTo path earlier → length path ≤ n
  short path earlier stands =
      let distinct : AreDistinct path = distinct_path laws case path earlier stands.leads.0 stands.leads.1 in
      omega (arith, length-map path split_name, short_names (map split_name path) distinct stands.names)

  -- ---- one step

  -- After a step the path is that of the present leaf of the lengthened steps, and the measure is lower.
  record Lower (path : List PathSplit) (earlier : List Judged) (step : Step) (after : List PathSplit) : Type 0 where
    stands : AreLedTo after (with_step earlier case.log step)
    lower : weight a a_some after n + 1 ≤ weight a a_some path n

  closing_step : (path : List PathSplit) (earlier : List Judged) → AreLedTo path earlier → (step : Step) (after : List PathSplit) → split_count (step ∷ []) ≡ 0
      → MovesTo case path step (Some after) → IsSearchStepAt case path step → Lower path earlier step after
  closing_step path earlier stands step after closes goes is =
      let moved : Moved path after = moved_by case path after step closes goes in
      record {
        stands = record {
          leads = after_step laws case path earlier stands.leads step (Some after) goes is;
          names = names_after (IsNameAt case.graph case.log) path after moved stands.names;
        };
        lower = closing_lowers a a_some path after n (short path earlier stands) moved;
      }

  step_lowers : (path : List PathSplit) (earlier : List Judged) → AreLedTo path earlier → (step : Step) (after : List PathSplit) → MovesTo case path step (Some after) → IsSearchStepAt case path step → Lower path earlier step after
  step_lowers path earlier stands (Split name) after goes live =
      let count : ℕ = goes.0 in
      let split : PathSplit = new_split name count in
      let same : path ++ split ∷ [] ≡ after = (let is : Some after ≡ Some (path ++ split ∷ []) = goes.2 in cc) in
      let violated = live.0.first.violated in
      let own : IsNameAt case.graph case.log name =
      record { clause = violated.clause; allowed = violated.allowed; horizon = subst (IsEventTime case.log) (sym live.0.first.at_now) now_is } in
      let names : AreNames (path ++ split ∷ []) =
      subst (All (IsNameAt case.graph case.log)) (sym (map-append split_name path (split ∷ [])))
      (All-append (IsNameAt case.graph case.log) (map split_name path) (name ∷ []) stands.names (All-cons (IsNameAt case.graph case.log) name [] own (All-nil (IsNameAt case.graph case.log)))) in
      let stands_after : AreLedTo after (with_step earlier case.log (Split name)) =
      record { leads = after_step laws case path earlier stands.leads (Split name) (Some after) goes live; names = subst AreNames same names } in
      record {
        stands = stands_after;
        lower =
            subst (λ (fs : List PathSplit). weight a a_some fs n + 1 ≤ weight a a_some path n) same
            (split_lowers a a_some path name count n
            (omega (arith, short after (with_step earlier case.log (Split name)) stands_after, ap length same, length-append path (split ∷ [])))
            (omega (arith, laws.some case.graph case.log name count goes.1))
            (laws.few case.graph case.log enough.maximum enough.incoming.within name count goes.1));
      }
  step_lowers path earlier stands (Cycle reasons) after goes simple = closing_step path earlier stands (Cycle reasons) after refl goes simple
  step_lowers path earlier stands Again after goes reusable = closing_step path earlier stands Again after refl goes reusable

  -- ---- all steps

  -- Steps that lead to a leaf lower the measure by as much as there are.
  record Lowered (path : List PathSplit) (steps : List Step) (after : List PathSplit) : Type 0 where
    short_after : length after ≤ n
    lower : weight a a_some after n + length steps ≤ weight a a_some path n

  abbrev Lowers : List Step → Type 0
  Lowers steps =
      (path : List PathSplit) (earlier : List Judged) → AreLedTo path earlier → (after : List PathSplit) → Leads case (Some path) steps (Some after) → Lowered path steps after

  lowered_from : (steps : List Step) → Lowers steps → (path : List PathSplit) (earlier : List Judged) → AreLedTo path earlier → (step : Step) (next : Option (List PathSplit))
      → MovesTo case path step next → IsSearchStepAt case path step → (after : List PathSplit) → Leads case next steps (Some after) → Lowered path (step ∷ steps) after
  lowered_from [] others path earlier stands step None goes is after leads = cc
  lowered_from (other ∷ steps) others path earlier stands step None goes is after leads = absurd leads
  lowered_from steps others path earlier stands step (Some middle) goes is after leads =
      let one = step_lowers path earlier stands step middle goes is in
      let more = others middle (with_step earlier case.log step) one.stands after leads in
      record { short_after = more.short_after; lower = omega (arith, one.lower, more.lower) }

  lowered : (steps : List Step) → Lowers steps
  lowered [] path earlier stands after leads =
      let same : path ≡ after = cc in
      subst (Lowered path []) same (record { short_after = short path earlier stands; lower = omega arith })
  lowered (step ∷ steps) path earlier stands after leads = lowered_from steps (lowered steps) path earlier stands step leads.0 leads.1 leads.2 after leads.3

  splits_among : (steps : List Step) → split_count steps ≤ length steps
  splits_among steps = count_by-le-length is_split steps

  -- So these are fewer splits than the budget.
  pub not_spent : (path : List PathSplit) (earlier : List Judged) → LeadsTo case earlier (Some path) → AreNames path → (steps : List Step) (after : List PathSplit)
      → Leads case (Some path) steps (Some after) → split_count steps ≡ budget → ⊥
  not_spent path earlier leads_here names steps after leads spent =
      let stands : AreLedTo path earlier = record { leads = leads_here; names = names } in
      let low = lowered steps path earlier stands after leads in
      omega (
        arith,
        low.lower,
        weight_some a a_some after n low.short_after,
        weight_limit a a_some path n leads_here.2 (few path earlier stands) (short path earlier stands),
        enough.enough,
        splits_among steps,
        spent,
      )
