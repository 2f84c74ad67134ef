-- The picks of an alternative are pushed, and popped where it is left.
use Rattle.std.proofs.Common.{◌≡◌, ℕ, zero, suc, ◌+◌, ◌<◌, ◌≤◌, List, [], ◌∷◌, ◌++◌, length, true, false, Option, Some, None, refl, sym, ap, subst, ◌∙◌, arith, append_assoc, length-append}
use Rattle.std.specs.Prelude.{All, slice_get, IsTrue, is_some, option_and_then, Result, Ok, Err, OnOk, OnErr}
use Rattle.std.specs.Option.{option_map_or}
use Rattle.std.proofs.lemmas.Option.{slice_get_within, slice_get_past, get_or_from_slice_get}
use Rattle.std.proofs.lemmas.List.{append-nil}
use Rattle.std.proofs.lemmas.List.Elements.{All-get_or}
use Rattle.tfpg_base.specs.declared.constraint.Constraint.{Constraint}
use Rattle.tfpg_graph.specs.Graph.{Tfpg}
use Rattle.tfpg_log.specs.Log.{Logbook}
use Rattle.tfpg_evidence.specs.declared.reason.Reason.{Reason}
use Rattle.tfpg_evidence.specs.declared.reason.Reason.TheVariants.{Pick}
use Rattle.tfpg_clause.specs.declared.limits.TheConstants.{MAX_CONSTRAINTS}
use Rattle.tfpg_clause.specs.Facts.{fact}
use Rattle.tfpg_clause.specs.Clauses.{alternatives, constraint_at, IsOver, IsSmall}
use Rattle.tfpg_base.specs.Choice.{item_at}
use Rattle.tfpg_graph.specs.Valid.{IsValid}
use Rattle.tfpg_search.proofs.lemmas.leaves.PicksOfPath.{of_split, alternative_of, constraint_in, constraint_in_is, picks_push, length-picks_from}
use Rattle.tfpg_search.specs.inside.ClauseLaws.{ClauseLaws}
use Rattle.tfpg_search.specs.declared.add_fault.AddFault.{AddFault}
use Rattle.tfpg_search.specs.inside.Closing.{Closes}
use Rattle.tfpg_clause.specs.declared.path.PathSplit.{PathSplit}
use Rattle.tfpg_search.specs.inside.Leaf.{Leaf, pick_reasons, IsStated}
use Rattle.tfpg_search.specs.inside.Picks.{constraint_count, picks_from}
use Rattle.tfpg_search.specs.inside.EnteredPicks.{IsNext}
use Rattle.tfpg_search.proofs.lemmas.stated_system.PicksEntered.{IsNext-later}
use Rattle.tfpg_search.specs.inside.Leaving.{constraint_count_at, Leaves, Pushing, PushesOne}
use Rattle.tfpg_search.specs.SearchState.{SearchState}
use Rattle.tfpg_base.proofs.lemmas.lists.Choices.{number_in, number_out}
use Rattle.tfpg_clause.specs.inside.MarkedTrees.{picked_on, stated_on}
use Rattle.tfpg_clause.specs.Case.{Case, case_of}

-- ---- leaving

-- no alternative is left where there are no more
pub leaves_none : (entered : List ℕ) (kept : ℕ) (leaf : Leaf) (count : ℕ) → count ≡ length entered → count ≤ kept → Leaves (slice_get entered kept) leaf leaf
leaves_none entered kept leaf count is not_less =
    subst (λ (o : Option ℕ). Leaves o leaf leaf) (sym (slice_get_past entered kept (omega arith))) refl

-- ---- pushing

-- each constraint on a path is small
pub picked_small : ClauseLaws → (graph : Tfpg) (log : Logbook) → IsValid graph → (path : List PathSplit) (split number : ℕ) (c : Constraint) → picked_on graph log path split number ≡ Some c → IsOver (length graph.nodes) c
picked_small laws graph log valid path zero number c is = cc
picked_small laws graph log valid path (suc k) number c is = by (slice_get path k) is
  where
    in_alternative : (alternative : List Constraint) (p : ℕ) → IsSmall (length graph.nodes) alternative → item_at alternative p ≡ Some c → IsOver (length graph.nodes) c
    in_alternative alternative zero small at = cc
    in_alternative alternative (suc i) small at =
        subst (IsOver (length graph.nodes)) (get_or_from_slice_get alternative i c c at)
        (All-get_or (IsOver (length graph.nodes)) alternative i c (slice_get_within alternative i c at) small.over)

    in_clause : (clause : List (List Constraint)) (chosen : ℕ) → All (IsSmall (length graph.nodes)) clause → constraint_at clause chosen number ≡ Some c → IsOver (length graph.nodes) c
    in_clause clause zero small at = cc
    in_clause clause (suc i) small at = one (slice_get clause i) refl at
      where
        one : (o : Option (List Constraint)) → slice_get clause i ≡ o → option_and_then (λ (alternative : List Constraint). item_at alternative number) o ≡ Some c → IsOver (length graph.nodes) c
        one None there none = cc
        one (Some alternative) there some =
            in_alternative alternative number
            (subst (IsSmall (length graph.nodes)) (get_or_from_slice_get clause i alternative alternative there)
            (All-get_or (IsSmall (length graph.nodes)) clause i alternative (slice_get_within clause i alternative there) small))
            some

    named : (taken : PathSplit) (clause : Option (List (List Constraint))) → alternatives graph log taken.name ≡ clause
        → option_and_then (λ (c : List (List Constraint)). constraint_at c taken.alternative number) clause ≡ Some c → IsOver (length graph.nodes) c
    named taken None there none = cc
    named taken (Some clause) there some = in_clause clause taken.alternative (laws.small graph log taken.name clause valid there) some

    by : (o : Option PathSplit) → option_and_then (λ (taken : PathSplit). option_and_then (λ clause. constraint_at clause taken.alternative number) (alternatives graph log taken.name)) o ≡ Some c
        → IsOver (length graph.nodes) c
    by None none = cc
    by (Some taken) some = named taken (alternatives graph log taken.name) refl some

-- an alternative on a path has at most three constraints
pub few_numbers : ClauseLaws → (graph : Tfpg) (log : Logbook) → IsValid graph → (path : List PathSplit) (split : ℕ) → constraint_count_at graph log path split ≤ MAX_CONSTRAINTS
few_numbers laws graph log valid path zero = omega arith
few_numbers laws graph log valid path (suc k) = by (slice_get path k)
  where
    chosen_few : (o : Option (List Constraint)) → ((alternative : List Constraint) → o ≡ Some alternative → length alternative ≤ MAX_CONSTRAINTS) → option_map_or length o 0 ≤ MAX_CONSTRAINTS
    chosen_few None few = omega arith
    chosen_few (Some alternative) few = few alternative refl

    in_clause : (clause : List (List Constraint)) (number : ℕ) → All (IsSmall (length graph.nodes)) clause → (alternative : List Constraint) → item_at clause number ≡ Some alternative → length alternative ≤ MAX_CONSTRAINTS
    in_clause clause zero small alternative at = cc
    in_clause clause (suc i) small alternative at =
        subst (λ (a : List Constraint). length a ≤ MAX_CONSTRAINTS) (get_or_from_slice_get clause i alternative alternative at)
        (All-get_or (IsSmall (length graph.nodes)) clause i alternative (slice_get_within clause i alternative at) small).few

    named : (taken : PathSplit) (clause : Option (List (List Constraint))) → alternatives graph log taken.name ≡ clause
        → option_map_or length (option_and_then (λ (c : List (List Constraint)). item_at c taken.alternative) clause) 0 ≤ MAX_CONSTRAINTS
    named taken None there = omega arith
    named taken (Some clause) there = chosen_few (item_at clause taken.alternative) (in_clause clause taken.alternative (laws.small graph log taken.name clause valid there))

    by : (o : Option PathSplit) → option_map_or (constraint_count graph log) o 0 ≤ MAX_CONSTRAINTS
    by None = omega arith
    by (Some taken) = named taken (alternatives graph log taken.name) refl

-- a split has a constraint with each number from 1 up to how many it has, and with no other
module _ (graph : Tfpg) (log : Logbook) (path : List PathSplit) where
  numbers_by : (o : Option PathSplit) (number : ℕ)
      → (IsTrue (is_some (of_split graph log o number)) → number ≤ option_map_or (constraint_count graph log) o 0)
      × (of_split graph log o number ≡ None → 1 ≤ number → option_map_or (constraint_count graph log) o 0 < number)
  numbers_by None number = (λ some. cc, λ none low. omega arith)
  numbers_by (Some taken) number =
      let same = constraint_in_is (alternatives graph log taken.name) taken.alternative number in (
        λ some. upto (constraint_in (alternative_of graph log taken) number) refl (subst (λ (o : Option Constraint). IsTrue (is_some o)) same some),
        λ none low. number_out (alternative_of graph log taken) number (sym same ∙ none) low,
      )
    where
      upto : (o : Option Constraint) → constraint_in (alternative_of graph log taken) number ≡ o → IsTrue (is_some o) → number ≤ constraint_count graph log taken
      upto None is some = cc
      upto (Some c) is some = (number_in (alternative_of graph log taken) number c is).1

  pub at_most_there : (split number : ℕ) → IsTrue (is_some (picked_on graph log path split number)) → number ≤ constraint_count_at graph log path split
  at_most_there zero number some = cc
  at_most_there (suc k) number some = (numbers_by (slice_get path k) number).0 some

  pub none_there : (split number : ℕ) → picked_on graph log path split number ≡ None → 1 ≤ number → constraint_count_at graph log path split < number
  none_there zero number none low = omega arith
  none_there (suc k) number none low = (numbers_by (slice_get path k) number).1 none low

module _ (case : Case) (path : List PathSplit) (old : Leaf) where
  abbrev Pushed : Leaf → Type 0
  Pushed new = Pushing case path old new

  -- nothing is pushed, whatever is counted
  pub pushing_same : (new : Leaf) (calls : ℕ) → new ≡ record old { calls = calls } → IsStated (fact case) (stated_on case path) old → Pushed new
  pushing_same new calls same is_stated = subst Pushed (sym same) (record { variables = refl; stated = is_stated; more = ([], sym (append-nil (pick_reasons old))) })

  -- one is pushed
  pub pushing_one : (new : Leaf) (reason : Reason) (c : Constraint) → IsStated (fact case) (stated_on case path) old
      → new.demands.bounds ≡ old.demands.bounds
      → ((facts stated : Reason → Option Constraint) → IsStated facts stated old → stated reason ≡ Some c → IsStated facts stated new)
      → pick_reasons new ≡ pick_reasons old ++ reason ∷ [] → stated_on case path reason ≡ Some c → Pushed new
  pushing_one new reason c is_stated bounds keeps picks states = record {
    variables = ap (λ (bs : List _). length bs) bounds;
    stated = keeps (fact case) (stated_on case path) is_stated states;
    more = (reason ∷ [], picks);
  }

  -- one is pushed, or none at a fault
  pub pushing_by : (new : Leaf) (reason : Reason) (c : Constraint) (result : Result (Unit {0}) AddFault) → IsStated (fact case) (stated_on case path) old
      → new.demands.bounds ≡ old.demands.bounds
      → ((facts stated : Reason → Option Constraint) → IsStated facts stated old → stated reason ≡ Some c → IsStated facts stated new)
      → OnOk result (pick_reasons new ≡ pick_reasons old ++ reason ∷ []) → OnErr result (new ≡ record old { calls = new.calls }) → stated_on case path reason ≡ Some c → Pushed new
  pushing_by new reason c (Ok done) is_stated bounds keeps picks same states = pushing_one new reason c is_stated bounds keeps picks states
  pushing_by new reason c (Err fault) is_stated bounds keeps picks same states = pushing_same new new.calls same is_stated

  -- and more
  pub pushing_on : (middle new : Leaf) → Pushed middle → Pushing case path middle new → Pushed new
  pushing_on middle new one other = record {
    variables = other.variables ∙ one.variables;
    stated = other.stated;
    more = (
      one.more.0 ++ other.more.0,
      other.more.1 ∙ ap (λ (rs : List Reason). rs ++ other.more.0) one.more.1 ∙ append_assoc (pick_reasons old) one.more.0 other.more.0,
    );
  }

-- What holds of the reach and the path of a search holds of those of another one with the same.
-- what holds of the reach and the path of one holds of another with the same
pub at_other : (one other : SearchState) → other.reach ≡ one.reach → other.path ≡ one.path → (P : List ℕ → List PathSplit → Type 0) → P other.reach other.path → P one.reach one.path
at_other one other same_reach same_path P holds = subst (λ (r : List ℕ). P r one.path) same_reach (subst (P other.reach) same_path holds)

-- the next constraint of the alternative has the next number
pub loop_next : (now loop : SearchState) → loop ≡ record now { leaf = loop.leaf } → (split before : ℕ) → pick_reasons loop.leaf ≡ pick_reasons now.leaf ++ picks_from split 1 before
    → IsNext now.entered (length (pick_reasons now.leaf)) split 1 → before < MAX_CONSTRAINTS → IsNext loop.entered (length (pick_reasons loop.leaf)) split (before + 1)
loop_next now loop same split before picks next less =
    let many : length (pick_reasons now.leaf) + before ≡ length (pick_reasons loop.leaf) =
    (let all = ap (λ (rs : List Reason). length rs) picks in
    let both = length-append (pick_reasons now.leaf) (picks_from split 1 before) in
    let more = length-picks_from split 1 before in
    omega arith) in
    subst (λ (es : List ℕ). IsNext es (length (pick_reasons loop.leaf)) split (before + 1)) (sym (ap (λ (s : SearchState). s.entered) same))
    (subst (λ (n : ℕ). IsNext now.entered n split (before + 1)) many (IsNext-later now.entered (length (pick_reasons now.leaf)) before split next less))

-- the picks go on by one more constraint of the alternative
module _ (graph : Tfpg) (log : Logbook) (now loop : SearchState) (same : loop ≡ record now { leaf = loop.leaf })
    (pushing : Pushing (case_of graph log now.reach) now.path now.leaf loop.leaf) where
  loop_path : loop.path ≡ now.path
  loop_path = ap (λ (s : SearchState). s.path) same

  loop_reach : loop.reach ≡ now.reach
  loop_reach = ap (λ (s : SearchState). s.reach) same

  pub loop_stated : IsStated (fact (case_of graph log loop.reach)) (stated_on (case_of graph log loop.reach) loop.path) loop.leaf
  loop_stated =
      at_other loop now (sym loop_reach) (sym loop_path) (λ (r : List ℕ) (fs : List PathSplit). IsStated (fact (case_of graph log r)) (stated_on (case_of graph log r) fs) loop.leaf) pushing.stated

  pub loop_closes : (fault : AddFault) → Closes (stated_on (case_of graph log loop.reach) loop.path) fault → Closes (stated_on (case_of graph log now.reach) now.path) fault
  loop_closes fault closes = at_other now loop loop_reach loop_path (λ (r : List ℕ) (fs : List PathSplit). Closes (stated_on (case_of graph log r) fs) fault) closes

  module _ (new : SearchState) (new_same : new ≡ record loop { leaf = new.leaf }) (step : Pushing (case_of graph log loop.reach) loop.path loop.leaf new.leaf) where
    pub step_same : new ≡ record now { leaf = new.leaf }
    step_same = new_same ∙ ap (λ (s : SearchState). record s { leaf = new.leaf }) same

    pub step_pushing : Pushing (case_of graph log now.reach) now.path now.leaf new.leaf
    step_pushing =
        pushing_on (case_of graph log now.reach) now.path now.leaf loop.leaf new.leaf pushing
        (at_other now loop loop_reach loop_path (λ (r : List ℕ) (fs : List PathSplit). Pushing (case_of graph log r) fs loop.leaf new.leaf) step)

    module _ (split before : ℕ) (picks : pick_reasons loop.leaf ≡ pick_reasons now.leaf ++ picks_from split 1 before) (within : before ≤ constraint_count_at graph log now.path split) where
      pub step_last : PushesOne (picked_on graph log loop.path split (before + 1)) (Pick split (before + 1)) loop.leaf new.leaf false
          → pick_reasons new.leaf ≡ pick_reasons now.leaf ++ picks_from split 1 (constraint_count_at graph log now.path split)
      step_last last =
          let none : picked_on graph log now.path split (before + 1) ≡ None = ap (λ (fs : List PathSplit). picked_on graph log fs split (before + 1)) (sym loop_path) ∙ last.1 in
          let past = none_there graph log now.path split (before + 1) none (omega arith) in
          let all : before ≡ constraint_count_at graph log now.path split = grind arith in
          last.0 ∙ picks ∙ ap (λ (n : ℕ). pick_reasons now.leaf ++ picks_from split 1 n) all

      pub step_picks : PushesOne (picked_on graph log loop.path split (before + 1)) (Pick split (before + 1)) loop.leaf new.leaf true
          → pick_reasons new.leaf ≡ pick_reasons now.leaf ++ picks_from split 1 (before + 1)
      step_picks one =
          let next : suc before ≡ before + 1 = omega arith in
          let last : 1 + before ≡ before + 1 = omega arith in
          one.0
          ∙ ap (λ (rs : List Reason). rs ++ Pick split (before + 1) ∷ []) picks
          ∙ append_assoc (pick_reasons now.leaf) (picks_from split 1 before) (Pick split (before + 1) ∷ [])
          ∙ ap (λ (n : ℕ). pick_reasons now.leaf ++ (picks_from split 1 before ++ Pick split n ∷ [])) (sym last)
          ∙ ap (λ (rs : List Reason). pick_reasons now.leaf ++ rs) (sym (picks_push split 1 before))
          ∙ ap (λ (n : ℕ). pick_reasons now.leaf ++ picks_from split 1 n) next

      pub step_within : PushesOne (picked_on graph log loop.path split (before + 1)) (Pick split (before + 1)) loop.leaf new.leaf true → before + 1 ≤ constraint_count_at graph log now.path split
      step_within one =
          at_most_there graph log now.path split (before + 1) (subst (λ (fs : List PathSplit). IsTrue (is_some (picked_on graph log fs split (before + 1)))) loop_path one.1)

-- all constraints were pushed
pub all_pushed : ClauseLaws → (graph : Tfpg) (log : Logbook) → IsValid graph → (now : SearchState) (leaf : Leaf) (split before : ℕ) → MAX_CONSTRAINTS ≤ before → before ≤ constraint_count_at graph log now.path split
    → pick_reasons leaf ≡ pick_reasons now.leaf ++ picks_from split 1 before → pick_reasons leaf ≡ pick_reasons now.leaf ++ picks_from split 1 (constraint_count_at graph log now.path split)
all_pushed laws graph log valid now leaf split before past within picks =
    let few = few_numbers laws graph log valid now.path split in
    let all : before ≡ constraint_count_at graph log now.path split = grind arith in
    picks ∙ ap (λ (n : ℕ). pick_reasons now.leaf ++ picks_from split 1 n) all
