-- Whether times solve what holds at the leaf of a path is decided, and what two lists of times solve their greater items do.
use Rattle.std.proofs.Common.{◌≡◌, ℕ, zero, suc, ◌+◌, ◌<◌, ◌≤◌, Bool, List, length, Option, Some, None, refl, sym, ap, subst, ◌∙◌, inl, inr, ⊎_elim, arith, pos}
use Rattle.std.specs.Prelude.{◌-ℤ◌, All, slice_index}
use Rattle.std.specs.Bool.{then_some}
use Rattle.std.proofs.lemmas.Bool.{cases_lt, lt-ltb}
use Rattle.std.proofs.lemmas.Int.{ints, by_lt_z}
use Rattle.std.proofs.lemmas.List.{get_or_past}
use Rattle.tfpg_base.specs.declared.limits.TheConstants.{NEVER}
use Rattle.tfpg_base.specs.declared.constraint.Constraint.{Constraint}
use Rattle.tfpg_base.specs.Constraint.{Meets, value_of}
use Rattle.tfpg_base.specs.Bounds.{at_most, at_least}
use Rattle.tfpg_base.proofs.lemmas.lists.Decided.{IsDecided, all_below, both_decided, same_decided, le_decided, all_members_decided}
use Rattle.tfpg_base.proofs.lemmas.lists.Elements.{All-at, All-from_members}
use Rattle.tfpg_graph.specs.Graph.{Tfpg}
use Rattle.tfpg_log.specs.Log.{Logbook, IsLogOf}
use Rattle.tfpg_evidence.specs.declared.reason.Reason.{Reason}
use Rattle.tfpg_evidence.specs.declared.reason.Reason.TheVariants.{Zero, Top, Unreached, From, Upto, Quiet, Pick}
use Rattle.tfpg_clause.specs.Case.{Case, case_of}
use Rattle.tfpg_clause.specs.Facts.{fact}
use Rattle.tfpg_clause.specs.Trees.{Chosen, stated}
use Rattle.tfpg_clause.specs.Paths.{chosen_on}
use Rattle.tfpg_clause.specs.inside.MarkedTrees.{picked_on, stated_on}
use Rattle.tfpg_clause.proofs.lemmas.trees.Unmarked.{picked_same, stated_same}
use Rattle.tfpg_clause.specs.declared.path.PathSplit.{PathSplit}
use Rattle.tfpg_clause.proofs.lemmas.constraints.BoundsMet.{met_at_most, says_at_most, met_at_least, says_at_least}
use Rattle.tfpg_clause.proofs.lemmas.constraints.OneLowOneHigh.{low_there, high_there}
use Rattle.tfpg_search.specs.inside.Picks.{picks_of}
use Rattle.tfpg_search.specs.Solutions.{SolvesAt}
use Rattle.tfpg_search.proofs.lemmas.facts.FactsAdded.{BoundsBelow, BoundsAbove, fact_bounds}
use Rattle.tfpg_search.proofs.lemmas.leaves.PicksOfPath.{picks_have}
use Rattle.tfpg_search.proofs.lemmas.solutions.GreaterItems.{greater_items, length-greater_items, Meets-greater_items}

-- ---- one constraint

pub Meets-decided : (times : List ℕ) (constraint : Constraint) → IsDecided (Meets times constraint)
Meets-decided times constraint =
    let difference = value_of times constraint.left -ℤ value_of times constraint.right in
    by_lt_z constraint.most difference (λ greater. inr (λ met. omega (arith, ints, greater, met))) (λ within. inl within)

-- whether times meet a constraint, where there is one, is decided
met_if_there : (times : List ℕ) (found : Option Constraint) → IsDecided ((constraint : Constraint) → found ≡ Some constraint → Meets times constraint)
met_if_there times None = inl (λ constraint is. absurd cc)
met_if_there times (Some there) = elim (Meets-decided times there) [
  | inl met ↦ inl (λ constraint is. (let same : there ≡ constraint = cc in subst (Meets times) same met))
  | inr fails ↦ inr (λ all. fails (all there refl))
]

module _ (case : Case) (path : List Chosen) where
  -- what solves meets what each reason states there
  pub stated_met : (times : List ℕ) → SolvesAt case path times → (reason : Reason) (constraint : Constraint) → stated case path reason ≡ Some constraint → Meets times constraint
  stated_met times solves (Pick split number) constraint is = solves.picks split number constraint is
  stated_met times solves (Zero node) constraint is = solves.facts (Zero node) constraint is
  stated_met times solves (Top node) constraint is = solves.facts (Top node) constraint is
  stated_met times solves (Unreached node horizon) constraint is = solves.facts (Unreached node horizon) constraint is
  stated_met times solves (From event) constraint is = solves.facts (From event) constraint is
  stated_met times solves (Upto event) constraint is = solves.facts (Upto event) constraint is
  stated_met times solves (Quiet event node) constraint is = solves.facts (Quiet event node) constraint is

  -- the greater items of two solutions are one
  pub greater_solves : (xs ys : List ℕ) → SolvesAt case path xs → SolvesAt case path ys → SolvesAt case path (greater_items xs ys)
  greater_solves xs ys one other =
      let same : length xs ≡ length ys = one.one_each ∙ sym other.one_each in
      record {
        one_each = length-greater_items xs ys ∙ one.one_each;
        facts = λ reason constraint is. Meets-greater_items xs ys constraint same (one.facts reason constraint is) (other.facts reason constraint is);
        picks = λ split number constraint is. Meets-greater_items xs ys constraint same (one.picks split number constraint is) (other.picks split number constraint is);
      }

  -- a solution has no time past never
  pub solution_in_range : (times : List ℕ) → SolvesAt case path times → (node : ℕ) → slice_index times node ≤ NEVER
  solution_in_range times solves node = elim (cases_lt node (length case.graph.nodes)) [
    | inl within ↦
        says_at_most times node NEVER
        (solves.facts (Top node) (at_most node (pos NEVER)) (ap (λ (b : Bool). then_some b (at_most node (pos NEVER))) (lt-ltb node (length case.graph.nodes) within)))
    | inr past ↦ omega (arith, get_or_past times node 0 (omega (arith, past, solves.one_each)))
  ]

module _ (graph : Tfpg) (log : Logbook) (reach : List ℕ) (of : IsLogOf graph log) (path : List PathSplit) where
  abbrev case : Case
  case = case_of graph log reach

  -- the time of the node keeps the bounds that facts give it
  record KeepsFacts (node : ℕ) (times : List ℕ) : Type 0 where
    above : (reason : Reason) (bound : ℕ) → fact case reason ≡ Some (at_least node bound) → bound ≤ slice_index times node
    below : (reason : Reason) (bound : ℕ) → fact case reason ≡ Some (at_most node (pos bound)) → slice_index times node ≤ bound

  facts_decided : (times : List ℕ) (node : ℕ) → IsDecided (node < length graph.nodes → KeepsFacts node times)
  facts_decided times node = elim (cases_lt node (length graph.nodes)) [
    | inl within ↦ (
        let low = low_there graph log reach node within in
        let high = high_there graph log reach node within in
        same_decided ((low.0 ≤ slice_index times node) × (slice_index times node ≤ high.0)) (node < length graph.nodes → KeepsFacts node times)
        (λ both _. record {
          above = λ reason bound is. omega (arith, both.0, low.1.greatest reason bound is);
          below = λ reason bound is. omega (arith, both.1, high.1.least reason bound is);
        })
        (λ keeps. ((keeps within).above low.1.reason low.0 low.1.stated, (keeps within).below high.1.reason high.0 high.1.stated))
        (both_decided (low.0 ≤ slice_index times node) (slice_index times node ≤ high.0) (le_decided low.0 (slice_index times node)) (le_decided (slice_index times node) high.0)))
    | inr past ↦ inl (λ within. absurd (omega (arith, past, within)))
  ]

  -- what the reason states is met
  abbrev IsMetBy : List ℕ → Reason → Type 0
  IsMetBy times reason = (constraint : Constraint) → stated_on case path reason ≡ Some constraint → Meets times constraint

  -- solving, by nodes and by the picks of the path
  abbrev PartsOf : List ℕ → Type 0
  PartsOf times =
      ((length graph.nodes ≤ length times) × (length times ≤ length graph.nodes))
      × (((node : ℕ) → node < length graph.nodes → node < length graph.nodes → KeepsFacts node times) × All (IsMetBy times) (picks_of graph log path))

  parts_decided : (times : List ℕ) → IsDecided (PartsOf times)
  parts_decided times =
      both_decided ((length graph.nodes ≤ length times) × (length times ≤ length graph.nodes))
      (((node : ℕ) → node < length graph.nodes → node < length graph.nodes → KeepsFacts node times) × All (IsMetBy times) (picks_of graph log path))
      (both_decided (length graph.nodes ≤ length times) (length times ≤ length graph.nodes) (le_decided (length graph.nodes) (length times)) (le_decided (length times) (length graph.nodes)))
      (both_decided ((node : ℕ) → node < length graph.nodes → node < length graph.nodes → KeepsFacts node times) (All (IsMetBy times) (picks_of graph log path))
      (all_below (λ node. node < length graph.nodes → KeepsFacts node times) (facts_decided times) (length graph.nodes))
      (all_members_decided (IsMetBy times) (λ reason. met_if_there times (stated_on case path reason)) (picks_of graph log path)))

  fact_met : (times : List ℕ) → PartsOf times → (reason : Reason) (constraint : Constraint) → fact case reason ≡ Some constraint → Meets times constraint
  fact_met times parts reason constraint is = ⊎_elim
      (λ (low : BoundsBelow graph constraint).
      subst (Meets times) (sym low.is) (met_at_least times low.node low.bound ((parts.1.0 low.node low.within low.within).above reason low.bound (is ∙ ap Some low.is))))
      (λ (high : BoundsAbove graph constraint).
      subst (Meets times) (sym high.is) (met_at_most times high.node high.bound ((parts.1.0 high.node high.within high.within).below reason high.bound (is ∙ ap Some high.is))))
      (fact_bounds graph log of reach constraint reason is)

  pick_met : (times : List ℕ) → PartsOf times → (split number : ℕ) (constraint : Constraint) → picked_on graph log path split number ≡ Some constraint → Meets times constraint
  pick_met times parts zero number constraint is = absurd cc
  pick_met times parts (suc before) number constraint is =
      let same : 1 + before ≡ suc before = omega arith in
      let have = picks_have graph log 1 path before number constraint is in
      All-at (IsMetBy times) (picks_of graph log path) have.0 (Pick (suc before) number) parts.1.1 (have.1 ∙ ap (λ (n : ℕ). Some (Pick n number)) same) constraint is

  -- Whether times solve is decided.
  pub solves_decided : (times : List ℕ) → IsDecided (SolvesAt case (chosen_on path) times)
  solves_decided times =
      same_decided (PartsOf times) (SolvesAt case (chosen_on path) times)
      (λ parts. record { one_each = omega (arith, parts.0.0, parts.0.1); facts = fact_met times parts; picks = λ split number constraint is. pick_met times parts split number constraint (sym (picked_same graph log path split number) ∙ is) })
      (λ solves. (
        (omega (arith, solves.one_each), omega (arith, solves.one_each)),
        (
          λ node within _. record {
            above = λ reason bound is. says_at_least times node bound (solves.facts reason (at_least node bound) is);
            below = λ reason bound is. says_at_most times node bound (solves.facts reason (at_most node (pos bound)) is);
          },
          All-from_members (IsMetBy times) (picks_of graph log path) (λ reason member constraint is. stated_met case (chosen_on path) times solves reason constraint ((λ i. stated_same case path i reason) ∙ is)),
        ),
      ))
      (parts_decided times)
