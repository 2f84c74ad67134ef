-- The bounds that facts give: a loaded system has them, there are no others, and the limit of a round follows.
use Rattle.std.proofs.Common.{◌≡◌, ℕ, zero, suc, ◌+◌, ◌*◌, ◌-◌, ◌<◌, ◌≤◌, List, [], ◌∷◌, length, get_or, replicate, Option, Some, None, refl, sym, ap, subst, ◌∙◌, arith}
use Rattle.std.specs.Prelude.{slice_get, map, option_map, option_and_then, pos}
use Rattle.std.proofs.lemmas.List.{length-map}
use Rattle.std.proofs.lemmas.Grind.{same_number_lists}
use Rattle.std.proofs.lemmas.Option.{same_Some, none-some, slice_get-get_or, slice_get-map, slice_get_within}
use Rattle.tfpg_base.specs.declared.limits.TheConstants.{NEVER}
use Rattle.tfpg_base.specs.declared.constraint.Constraint.{Constraint}
use Rattle.tfpg_base.specs.Bounds.{at_most, at_least}
use Rattle.tfpg_graph.specs.Graph.{Tfpg}
use Rattle.tfpg_log.specs.Log.{Logbook, first_events}
use Rattle.tfpg_evidence.specs.declared.reason.Reason.{Reason}
use Rattle.tfpg_evidence.specs.declared.reason.Reason.TheVariants.{Zero, Top}
use Rattle.tfpg_evidence.specs.declared.step.Step.{Step}
use Rattle.tfpg_clause.specs.Case.{Case, case_of}
use Rattle.tfpg_clause.specs.Facts.{fact, IsLow, IsHigh}
use Rattle.tfpg_diff.specs.VariableBounds.{VariableBounds}
use Rattle.tfpg_diff.specs.declared.why.Why.{Why}
use Rattle.tfpg_diff.specs.declared.why.Why.TheVariants.{Floor, Ceiling, Given}
use Rattle.tfpg_diff.specs.Demands.{Demands, Bounded}
use Rattle.tfpg_diff.specs.SystemState.{widest, unbounded_from}
use Rattle.tfpg_search.specs.SearchState.{SearchState, case_of_search}
use Rattle.tfpg_search.specs.Represents.{RepresentsSome}
use Rattle.tfpg_search.specs.Searched.{call_of}
use Rattle.tfpg_search.specs.Work.{NodeBounds, AreFactBounds, AreBoundsAt, IsWorkLimit, changed_bounds, widest_bounds}
use Rattle.tfpg_search.specs.inside.Facts.{AreFactsIn}
use Rattle.tfpg_search.specs.inside.Leaf.{Leaf, bounds_in, tagged_by, AreBoundsStated}
use Rattle.tfpg_search.specs.inside.Counted.{IsPaid}

-- ---- the bounds of a node

module _ (case : Case) (bounds : NodeBounds) (given : AreFactBounds case bounds) where
  -- the low of a node is its greatest lower bound
  pub low_there : (node time : ℕ) → node < length case.graph.nodes → (reason : Reason) → fact case reason ≡ Some (at_least node time)
      → ((other : Reason) (bound : ℕ) → fact case other ≡ Some (at_least node bound) → bound ≤ time) → slice_get bounds.lows node ≡ Some time
  low_there node time within reason stated greatest =
      let item = get_or bounds.lows node 0 in
      let at : slice_get bounds.lows node ≡ Some item = slice_get-get_or bounds.lows node 0 (let each = given.low_each in omega arith) in
      let low : IsLow case node item = given.low node item at in
      let same : item ≡ time = omega (arith, low.greatest reason time stated, greatest low.reason item low.stated) in
      at ∙ ap Some same

  -- its high is its least upper bound
  pub high_there : (node time : ℕ) → node < length case.graph.nodes → (reason : Reason) → fact case reason ≡ Some (at_most node (pos time))
      → ((other : Reason) (bound : ℕ) → fact case other ≡ Some (at_most node (pos bound)) → time ≤ bound) → slice_get bounds.highs node ≡ Some time
  high_there node time within reason stated least =
      let item = get_or bounds.highs node 0 in
      let at : slice_get bounds.highs node ≡ Some item = slice_get-get_or bounds.highs node 0 (let each = given.high_each in omega arith) in
      let high : IsHigh case node item = given.high node item at in
      let same : item ≡ time = omega (arith, high.least reason time stated, least high.reason item high.stated) in
      at ∙ ap Some same

  -- no other bounds are given
  pub given_alone : (other : NodeBounds) → AreFactBounds case other → bounds ≡ other
  given_alone other also =
      let lows : bounds.lows ≡ other.lows = same_number_lists bounds.lows other.lows (given.low_each ∙ sym also.low_each)
      (λ node within.
      let here : IsLow case node (get_or other.lows node 0) =
      also.low node (get_or other.lows node 0) (slice_get-get_or other.lows node 0 (let one = given.low_each in let each = also.low_each in omega arith)) in
      let there = low_there node (get_or other.lows node 0) (let one = given.low_each in omega arith) here.reason here.stated here.greatest in
      same_Some (get_or bounds.lows node 0) (get_or other.lows node 0) (sym (slice_get-get_or bounds.lows node 0 within) ∙ there)) in
      let highs : bounds.highs ≡ other.highs = same_number_lists bounds.highs other.highs (given.high_each ∙ sym also.high_each)
      (λ node within.
      let here : IsHigh case node (get_or other.highs node 0) =
      also.high node (get_or other.highs node 0) (slice_get-get_or other.highs node 0 (let one = given.high_each in let each = also.high_each in omega arith)) in
      let there = high_there node (get_or other.highs node 0) (let one = given.high_each in omega arith) here.reason here.stated here.least in
      same_Some (get_or bounds.highs node 0) (get_or other.highs node 0) (sym (slice_get-get_or bounds.highs node 0 within) ∙ there)) in
      λ i. record { lows = lows i; highs = highs i }

-- the bounds of a search that has seen so many events are one pair of lists
pub bounds_alone : (case : Case) (seen : ℕ) (one other : NodeBounds) → AreBoundsAt case seen one → AreBoundsAt case seen other → one ≡ other
bounds_alone case zero one other is also = is.unseen refl ∙ sym (also.unseen refl)
bounds_alone case (suc seen) one other is also = given_alone case one (is.given (omega arith)) other (also.given (omega arith))

-- ---- the system

-- what a tag names has a reason
reason_named : (states : Reason → Option Constraint) (reasons : List Reason) (why : Why) (constraint : Constraint) → tagged_by states reasons why ≡ Some constraint
    → (reason : Reason) × (states reason ≡ Some constraint)
reason_named states reasons (Floor node) constraint is = (Zero node, is)
reason_named states reasons (Ceiling node) constraint is = (Top node, is)
reason_named states reasons (Given tag) constraint is = by (slice_get reasons tag) is
  where
    by : (found : Option Reason) → option_and_then states found ≡ Some constraint → (reason : Reason) × (states reason ≡ Some constraint)
    by None is = absurd (none-some constraint is)
    by (Some reason) is = (reason, is)

module _ (case : Case) (leaf : Leaf) (variables : length leaf.demands.bounds ≡ length case.graph.nodes) (stated : AreBoundsStated (fact case) leaf.demands leaf.reasons)
    (facts : (node : ℕ) → node < length case.graph.nodes → AreFactsIn (fact case) leaf.demands node) where
  read_at : (read : VariableBounds → ℕ) (node time : ℕ) → slice_get (map read leaf.demands.bounds) node ≡ Some time
      → (node < length case.graph.nodes) × ((bounds : VariableBounds) × Bounded leaf.demands node bounds × (read bounds ≡ time))
  read_at read node time at =
      let inside : node < length (map read leaf.demands.bounds) = slice_get_within (map read leaf.demands.bounds) node time at in
      let many = length-map leaf.demands.bounds read in
      let bounds = get_or leaf.demands.bounds node (widest 0) in
      let there : Bounded leaf.demands node bounds = slice_get-get_or leaf.demands.bounds node (widest 0) (omega arith) in
      (omega arith, (bounds, there, same_Some (read bounds) time (sym (slice_get-map read leaf.demands.bounds node ∙ ap (option_map read) there) ∙ at)))

  -- bounds that facts state, and that say all facts, are those that the facts give
  pub system_given : AreFactBounds case (bounds_in leaf)
  system_given = record {
    low_each = length-map leaf.demands.bounds (λ (b : VariableBounds). b.floor) ∙ variables;
    high_each = length-map leaf.demands.bounds (λ (b : VariableBounds). b.ceiling) ∙ variables;
    low = λ node time at.
        let found = read_at (λ (b : VariableBounds). b.floor) node time at in
        let named = reason_named (fact case) leaf.reasons found.1.0.floor_why (at_least node found.1.0.floor) (stated.floors node found.1.0 found.1.1) in
        subst (IsLow case node) found.1.2
        (record { reason = named.0; stated = named.1; greatest = (facts node found.0).floors found.1.0 found.1.1 });
    high = λ node time at.
        let found = read_at (λ (b : VariableBounds). b.ceiling) node time at in
        let named = reason_named (fact case) leaf.reasons found.1.0.ceiling_why (at_most node (pos found.1.0.ceiling)) (stated.ceilings node found.1.0 found.1.1) in
        subst (IsHigh case node) found.1.2
        (record { reason = named.0; stated = named.1; least = (facts node found.0).ceilings found.1.0 found.1.1 });
  }

-- bounds that the facts give say all facts
pub given_says : (case : Case) (leaf : Leaf) → AreFactBounds case (bounds_in leaf) → (node : ℕ) → AreFactsIn (fact case) leaf.demands node
given_says case leaf given node = record {
  floors = λ bounds at. (given.low node bounds.floor (slice_get-map (λ (b : VariableBounds). b.floor) leaf.demands.bounds node ∙ ap (option_map (λ (b : VariableBounds). b.floor)) at)).greatest;
  ceilings = λ bounds at. (given.high node bounds.ceiling (slice_get-map (λ (b : VariableBounds). b.ceiling) leaf.demands.bounds node ∙ ap (option_map (λ (b : VariableBounds). b.ceiling)) at)).least;
}

widest_lows : (first count : ℕ) → map (λ (b : VariableBounds). b.floor) (unbounded_from first count) ≡ replicate count 0
widest_lows first zero = refl
widest_lows first (suc count) = ap (λ (ns : List ℕ). 0 ∷ ns) (widest_lows (first + 1) count)

widest_highs : (first count : ℕ) → map (λ (b : VariableBounds). b.ceiling) (unbounded_from first count) ≡ replicate count NEVER
widest_highs first zero = refl
widest_highs first (suc count) = ap (λ (ns : List ℕ). NEVER ∷ ns) (widest_highs (first + 1) count)

-- a new system has the widest bounds
pub new_widest : (demands : Demands) (nodes : ℕ) → demands ≡ record { bounds = unbounded_from 0 nodes; picks = [] } → (reasons : List Reason) (entered : List ℕ) (calls identity : ℕ)
    → bounds_in (record { demands = demands; reasons = reasons; entered = entered; calls = calls; identity = identity }) ≡ widest_bounds nodes
new_widest demands nodes is reasons entered calls identity =
    ap (λ (d : Demands). bounds_in (record { demands = d; reasons = reasons; entered = entered; calls = calls; identity = identity })) is ∙ (λ i. record { lows = widest_lows 0 nodes i; highs = widest_highs 0 nodes i })

-- ---- a round

within_limit : (start end unset_now changed path entered before after limit : ℕ) → end + unset_now + 4 * before ≤ start + (changed + 3 * (path - entered)) + 4 * after + 1
    → entered ≡ path → limit ≡ changed + 4 * ((after - before) + 1) → end ≤ start + limit
within_limit start end unset_now changed path entered before after limit paid all is = omega arith

-- what the call paid keeps within the limit of a round
pub round_within : (graph : Tfpg) (log : Logbook) (old middle new : SearchState) (before after : List Step) (start end : ℕ) → RepresentsSome graph log old
    → middle ≡ record old { seen = length log.events }
    → ((bounds : NodeBounds) → AreFactBounds (case_of_search graph log middle) bounds → IsPaid bounds (call_of middle new before after) start end)
    → (limit : ℕ) → IsWorkLimit (case_of_search graph log old) old.seen (length after - length before) limit → end ≤ start + limit
round_within graph log old middle new before after start end some middle_is pays limit work =
    let paid : IsPaid work.new (call_of old new before after) start end =
    (subst (λ (s : SearchState). (bounds : NodeBounds) → AreFactBounds (case_of_search graph log s) bounds → IsPaid bounds (call_of s new before after) start end) middle_is pays) work.new work.now in
    let same : bounds_in old.leaf ≡ work.old = bounds_alone (case_of graph (first_events log old.seen) old.reach) old.seen (bounds_in old.leaf) work.old some.1.bounds work.before in
    within_limit start end (changed_bounds (bounds_in new.leaf) work.new) (changed_bounds (bounds_in old.leaf) work.new) (length old.path) (length old.entered) (length before) (length after) limit
    paid some.1.all_entered (work.is ∙ ap (λ (b : NodeBounds). changed_bounds b work.new + 4 * ((length after - length before) + 1)) (sym same))
