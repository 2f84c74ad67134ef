-- Where steps are a refutation, no trace explains the log: its numbers meet some alternative at each split, and so they lead down the
-- tree to a leaf all of whose constraints they meet, which cannot be.
use Rattle.std.proofs.Common.{◌≡◌, ℕ, zero, suc, ◌+◌, ◌<◌, List, [], ◌∷◌, ◌++◌, length, Option, Some, None, refl, sym, ap, subst, ◌∙◌, inl, inr, arith}
use Rattle.std.specs.Prelude.{All, Contains, slice_get, option_map, option_and_then}
use Rattle.std.proofs.lemmas.Int.{ints}
use Rattle.std.proofs.lemmas.Option.{option_and_then_some}
use Rattle.std.proofs.lemmas.List.Elements.{All-head, All-tail, Contains-append_left, Contains-append_right}
use Rattle.std.proofs.lemmas.List.{length-append}
use Rattle.tfpg_base.specs.Choice.{item_at}
use Rattle.tfpg_base.specs.declared.constraint.Constraint.{Constraint}
use Rattle.tfpg_base.specs.declared.activation.Activation.{Activation}
use Rattle.tfpg_graph.specs.Graph.{Tfpg}
use Rattle.tfpg_graph.specs.Reach.{IsReach}
use Rattle.tfpg_graph.specs.Valid.{IsValid}
use Rattle.tfpg_graph.proofs.lemmas.zero_cycle.ZeroRanks.{HasZeroOrder-valid}
use Rattle.tfpg_log.specs.Log.{Logbook, GoesOn, IsLogOf, IsOrdered, now_of, first_events}
use Rattle.tfpg_log.specs.Explains.{Explains, Fits}
use Rattle.tfpg_evidence.specs.declared.clause_name.ClauseName.{ClauseName}
use Rattle.tfpg_evidence.specs.declared.reason.Reason.{Reason}
use Rattle.tfpg_evidence.specs.declared.reason.Reason.TheVariants.{Zero, Top, Unreached, From, Upto, Quiet, Pick}
use Rattle.tfpg_evidence.specs.declared.step.Step.TheVariants.{Split, Cycle, Again}
use Rattle.tfpg_base.specs.Constraint.{Meets}
use Rattle.tfpg_base.proofs.lemmas.lists.Choices.{Contains-each_of_only}
use Rattle.tfpg_base.proofs.lemmas.lists.Elements.{All-at, All-front, All-back, All-from_members, slice_get-contains}
use Rattle.tfpg_base.proofs.lemmas.lists.Written.{slice_get-push_cases}
use Rattle.tfpg_clause.specs.Facts.{fact}
use Rattle.tfpg_clause.specs.Clauses.{alternatives, count_of, constraint_at, MeetsClause}
use Rattle.tfpg_clause.specs.Case.{Case, case_of, case_at}
use Rattle.tfpg_clause.specs.Trees.{Judged, Tree, Leaf, Branch, Subtrees, NoMore, Next, Reused, Chosen, TreePlace, StepPlace, how_many, reasons_in, reasons_in_all, root, place_in, step_at, places, places_from, picked, stated, IsClosedLeaf, IsReusable, IsRight, IsRefutation}
use Rattle.tfpg_clause.proofs.lemmas.traces.TraceAgrees.{of_trace}
use Rattle.tfpg_clause.proofs.lemmas.constraints.CycleNotNegative.{not_negative}
use Rattle.tfpg_clause.proofs.lemmas.traces.FactsMet.{fact_is_met}
use Rattle.tfpg_clause.proofs.lemmas.rules.RulesMet.{clause_is_met}
use Rattle.tfpg_clause.proofs.lemmas.logs.StaysAllowed.{fact_stays}
use Rattle.tfpg_clause.proofs.lemmas.trees.TreesStay.{first_to_whole, count_stays, picked_stays, refutation_stays}
use Rattle.tfpg_clause.proofs.lemmas.traces.NumbersOfTrace.{numbers_of_trace}

module _ (case : Case) (ordered : IsOrdered case.log) (numbers : List ℕ)
    (facts : (reason : Reason) (constraint : Constraint) → fact case reason ≡ Some constraint → Meets numbers constraint) where
  -- the numbers meet each constraint that is picked on the path
  abbrev MeetsPath : List Chosen → Type 0
  MeetsPath path =
      (split number : ℕ) (constraint : Constraint) → picked case.graph case.log path split number ≡ Some constraint
      → Meets numbers constraint

  -- the numbers meet each constraint that a pick among the reasons states
  abbrev MeetsCited : List Chosen → List Reason → Type 0
  MeetsCited path reasons =
      (split number : ℕ) (constraint : Constraint) → Contains reasons (Pick split number)
      → picked case.graph case.log path split number ≡ Some constraint → Meets numbers constraint

  module _ (path : List Chosen) (seen : ℕ) (reasons : List Reason) (cited : MeetsCited path reasons) where
    fact_met : (reason : Reason) (constraint : Constraint) → fact (case_at case seen) reason ≡ Some constraint → Meets numbers constraint
    fact_met reason constraint is =
        facts reason constraint
        (fact_stays case.graph (first_events case.log seen) case.log ordered (first_to_whole case.log seen) case.reach reason constraint is)

    stated_met : (reason : Reason) (constraint : Constraint) → Contains reasons reason
        → stated (case_at case seen) path reason ≡ Some constraint → Meets numbers constraint
    stated_met (Pick split number) constraint member is =
        cited split number constraint member
        (picked_stays (case_at case seen) case.log ordered (first_to_whole case.log seen) path split number constraint is)
    stated_met (Zero node) constraint member is = fact_met (Zero node) constraint is
    stated_met (Top node) constraint member is = fact_met (Top node) constraint is
    stated_met (Unreached node horizon) constraint member is = fact_met (Unreached node horizon) constraint is
    stated_met (From event) constraint member is = fact_met (From event) constraint is
    stated_met (Upto event) constraint member is = fact_met (Upto event) constraint is
    stated_met (Quiet event node) constraint member is = fact_met (Quiet event node) constraint is

    -- Numbers that meet all facts and all that its reasons pick close no leaf.
    pub no_cited_leaf : IsClosedLeaf (case_at case seen) path reasons → ⊥
    no_cited_leaf closed =
        let all : All (Meets numbers) closed.constraints =
        All-from_members (Meets numbers) closed.constraints
        (λ constraint member.
        let from = Contains-each_of_only (stated (case_at case seen) path) reasons closed.constraints constraint closed.hold member in
        stated_met from.0 constraint from.1 from.2) in
        let most = not_negative numbers closed.constraints closed.negative_cycle.chained all in
        let least = closed.negative_cycle.negative in
        omega (arith, ints)

  -- Numbers that meet all facts and all that is picked on its path close no leaf.
  pub no_leaf : (path : List Chosen) (seen : ℕ) (reasons : List Reason) → MeetsPath path → IsClosedLeaf (case_at case seen) path reasons → ⊥
  no_leaf path seen reasons met closed =
      no_cited_leaf path seen reasons (λ split number constraint member is. met split number constraint is) closed

  module _
      (clauses : (name : ClauseName) (clause : List (List Constraint)) → alternatives case.graph case.log name ≡ Some clause
      → MeetsClause numbers clause) where
    -- the numbers meet the alternative of this number of an allowed clause
    abbrev MeetsAlternative : ClauseName → ℕ → Type 0
    MeetsAlternative name alternative =
        (number : ℕ) (constraint : Constraint)
        → option_and_then (λ clause. constraint_at clause alternative number) (alternatives case.graph case.log name) ≡ Some constraint
        → Meets numbers constraint

    -- they meet it where they meet its constraints
    alternative_met : (name : ClauseName) (clause : List (List Constraint)) (k : ℕ) (alternative : List Constraint)
        → alternatives case.graph case.log name ≡ Some clause → slice_get clause k ≡ Some alternative → All (Meets numbers) alternative
        → MeetsAlternative name (suc k)
    alternative_met name clause k alternative is at all number constraint pick =
        let of_clause : constraint_at clause (suc k) number ≡ Some constraint =
        sym (ap (option_and_then (λ c. constraint_at c (suc k) number)) is) ∙ pick in
        of_alternative number constraint (sym (ap (option_and_then (λ a. item_at a number)) at) ∙ of_clause)
      where
        of_alternative : (number : ℕ) (constraint : Constraint) → item_at alternative number ≡ Some constraint → Meets numbers constraint
        of_alternative zero constraint here = cc
        of_alternative (suc j) constraint here = All-at (Meets numbers) alternative j constraint all here

    -- the constraint that is picked at a split
    abbrev pick_at : ℕ → Chosen → Option Constraint
    pick_at number taken = option_and_then (λ c. constraint_at c taken.alternative number) (alternatives case.graph case.log taken.name)

    -- the numbers meet an alternative, where some of the reasons picks from it at the end of the path
    abbrev MeetsLast : List Chosen → Chosen → List Reason → Type 0
    MeetsLast path last reasons =
        (number : ℕ) → Contains reasons (Pick (length (path ++ last ∷ [])) number) → MeetsAlternative last.name last.alternative

    -- at one more split they meet what is cited there too
    meets_more : (path : List Chosen) (last : Chosen) (reasons : List Reason) → MeetsCited path reasons → MeetsLast path last reasons
        → MeetsCited (path ++ last ∷ []) reasons
    meets_more path last reasons met own zero number constraint member pick = cc
    meets_more path last reasons met own (suc i) number constraint member pick =
        option_and_then_some (pick_at number) (slice_get (path ++ last ∷ []) i) constraint pick
        (λ taken there rest.
        elim (slice_get-push_cases path last i taken there) [
          | inl before ↦ met (suc i) number constraint member (ap (option_and_then (pick_at number)) before ∙ rest)
          | inr at_last ↦
              let same : suc i ≡ length (path ++ last ∷ []) = omega (arith, at_last.0, length-append path (last ∷ [])) in
              own number (subst (λ (split : ℕ). Contains reasons (Pick split number)) same member) number constraint
              (subst (λ (t : Chosen). pick_at number t ≡ Some constraint) (sym at_last.1) rest)
        ])

    -- fewer reasons cite less
    meets_first : (path : List Chosen) (one other : List Reason) → MeetsCited path (one ++ other) → MeetsCited path one
    meets_first path one other met split number constraint member pick =
        met split number constraint (Contains-append_left one other (Pick split number) member) pick

    meets_others : (path : List Chosen) (one other : List Reason) → MeetsCited path (one ++ other) → MeetsCited path other
    meets_others path one other met split number constraint member pick =
        met split number constraint (Contains-append_right one other (Pick split number) member) pick

    -- the alternative of a clause that they meet
    record MetAlternative (clause : List (List Constraint)) : Type 0 where
      k : ℕ
      alternative : List Constraint
      within : k < length clause
      at : slice_get clause k ≡ Some alternative
      met : All (Meets numbers) alternative

    met_alternative : (clause : List (List Constraint)) → MeetsClause numbers clause → MetAlternative clause
    met_alternative clause meets =
        let there = meets.1 in
        record {
          k = there.0;
          alternative = meets.0;
          within = there.1;
          at = slice_get-contains clause meets.0 there;
          met = meets.2;
        }

    record Allowed (name : ClauseName) (count : ℕ) : Type 0 where
      clause : List (List Constraint)
      is : alternatives case.graph case.log name ≡ Some clause
      many : length clause ≡ count

    allowed_of : (seen : ℕ) (name : ClauseName) (count : ℕ) → count_of case.graph (first_events case.log seen) name ≡ Some count
        → Allowed name count
    allowed_of seen name count counted =
        by (alternatives case.graph case.log name) refl
        (count_stays (case_at case seen) case.log ordered (first_to_whole case.log seen) name count counted)
      where
        by : (found : Option (List (List Constraint))) → alternatives case.graph case.log name ≡ found
            → option_map length found ≡ Some count → Allowed name count
        by None is many = cc
        by (Some clause) is many = let same : length clause ≡ count = cc in record { clause = clause; is = is; many = same }

    -- what picks from a split leaves its next alternative with nothing to reuse
    not_reusable : (path : List Chosen) (taken : Chosen) (next : ℕ) (reasons : List Reason)
        → IsReusable (place_in path taken.name next (Some reasons))
        → (number : ℕ) → Contains reasons (Pick (length (path ++ taken ∷ [])) number) → ⊥
    not_reusable path taken next reasons reusable number member =
        let other : Chosen = record { name = taken.name; alternative = next } in
        let same : length (path ++ taken ∷ []) ≡ length (path ++ other ∷ []) =
        omega (arith, length-append path (taken ∷ []), length-append path (other ∷ [])) in
        reusable number (subst (λ (split : ℕ). Contains reasons (Pick split number)) same member)

    mutual
      -- No numbers meet all facts, all clauses, and what the cycles of a tree cite on its path.
      no_tree : (place : TreePlace) (tree : Tree) → All (IsRight case) (places place tree) → MeetsCited place.path (reasons_in tree) → ⊥
      no_tree place (Leaf seen reasons) right met =
          no_cited_leaf place.path seen reasons met (All-head (IsRight case) (step_at place seen (Cycle reasons) 0) [] right)
      no_tree place (Branch seen name subtrees) right met =
          let first : StepPlace = step_at place seen (Split name) (how_many subtrees) in
          let later : List StepPlace = places_from place.path name 1 None subtrees in
          let allowed = allowed_of seen name (how_many subtrees) (All-head (IsRight case) first later right) in
          let meets = met_alternative allowed.clause (clauses name allowed.clause allowed.is) in
          let number : suc meets.k ≡ 1 + meets.k = omega arith in
          let alternative : MeetsAlternative name (1 + meets.k) =
          subst (MeetsAlternative name) number
          (alternative_met name allowed.clause meets.k meets.alternative allowed.is meets.at meets.met) in
          no_subtrees place.path name 1 None subtrees meets.k (omega (arith, meets.within, allowed.many))
          (All-tail (IsRight case) first later right) met alternative
          (λ reusable. absurd reusable)

      -- The subtree of the alternative that they meet is passed on to, unless an earlier one is reusable.
      no_subtrees : (path : List Chosen) (name : ClauseName) (alternative : ℕ) (before : Option (List Reason)) (subtrees : Subtrees) (k : ℕ)
          → k < how_many subtrees
          → All (IsRight case) (places_from path name alternative before subtrees) → MeetsCited path (reasons_in_all subtrees)
          → MeetsAlternative name (alternative + k)
          → (IsReusable (place_in path name alternative before) → ⊥) → ⊥
      no_subtrees path name alternative before NoMore k within right met meets none = omega arith
      no_subtrees path name alternative before (Reused seen others) k within right met meets none =
          none (All-head (IsRight case) (step_at (place_in path name alternative before) seen Again 0) [] right)
      no_subtrees path name alternative before (Next tree others) zero within right met meets none =
          let own : TreePlace = place_in path name alternative before in
          let taken : Chosen = record { name = name; alternative = alternative } in
          let reasons : List Reason = reasons_in tree in
          let number : alternative + 0 ≡ alternative = omega arith in
          no_tree own tree
          (All-front (IsRight case) (places own tree) (places_from path name (alternative + 1) (Some reasons) others) right)
          (meets_more path taken reasons (meets_first path reasons (reasons_in_all others) met)
          (λ cited member. subst (MeetsAlternative name) number meets))
      no_subtrees path name alternative before (Next tree others) (suc k) within right met meets none =
          let own : TreePlace = place_in path name alternative before in
          let taken : Chosen = record { name = name; alternative = alternative } in
          let reasons : List Reason = reasons_in tree in
          let number : alternative + suc k ≡ alternative + 1 + k = omega arith in
          let later : List StepPlace = places_from path name (alternative + 1) (Some reasons) others in
          no_subtrees path name (alternative + 1) (Some reasons) others k (omega arith)
          (All-back (IsRight case) (places own tree) later right)
          (meets_others path reasons (reasons_in_all others) met) (subst (MeetsAlternative name) number meets)
          (λ reusable.
          no_tree own tree (All-front (IsRight case) (places own tree) later right)
          (meets_more path taken reasons (meets_first path reasons (reasons_in_all others) met)
          (λ cited member. absurd (not_reusable path taken (alternative + 1) reasons reusable cited member))))

    -- So no steps are a refutation.
    pub no_refutation : (steps : List Judged) → IsRefutation case steps → ⊥
    no_refutation steps refutation =
        no_tree root refutation.tree refutation.right (λ split number constraint member pick. none number constraint split pick)
      where
        none : (number : ℕ) (constraint : Constraint) (split : ℕ) → picked case.graph case.log [] split number ≡ Some constraint
            → Meets numbers constraint
        none number constraint zero pick = cc
        none number constraint (suc k) pick = cc

-- Where steps are a refutation at a log, no trace explains a log that goes on from it.
pub no_trace : (graph : Tfpg) (earlier log : Logbook) (set reach : List ℕ) (steps : List Judged) → IsValid graph → IsLogOf graph log
    → IsOrdered log → IsReach graph set reach
    → GoesOn earlier log → IsRefutation (case_of graph earlier reach) steps → Fits graph log set → ⊥
no_trace graph earlier log set reach steps valid of ordered is_reach goes_on refutation fits =
    let trace : List Activation = fits.0 in
    let explains : Explains graph log set trace = fits.1 in
    let numbers = numbers_of_trace graph log set trace ordered explains in
    no_refutation (case_of graph log reach) ordered numbers.0
    (λ reason constraint is. fact_is_met graph log set reach is_reach of ordered trace numbers.0
    (HasZeroOrder-valid graph valid) explains numbers.1 reason constraint is)
    (λ name clause is. clause_is_met graph log trace numbers.0 valid
    (of_trace graph (now_of log) trace numbers.0 explains.by_now numbers.1) explains.rules name clause is)
    steps (refutation_stays (case_of graph earlier reach) log ordered goes_on steps refutation)
