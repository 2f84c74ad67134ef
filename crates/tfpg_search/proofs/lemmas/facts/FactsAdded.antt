-- VariableBounds that get tighter, until they say all facts.
use Rattle.std.proofs.Common.{◌≡◌, ◌≢◌, ℕ, zero, suc, ◌+◌, ◌<◌, ◌≤◌, Bool, true, false, cond, ltb, ◌&&◌, not, leb, List, [], ◌∷◌, length, get_or, Option, Some, None, refl, sym, ◌∙◌, ap, subst, inl, inr, ⊎_elim, ◌⊎◌, arith}
use Rattle.std.specs.Prelude.{slice_get, pos, option_map, option_and_then}
use Rattle.std.proofs.lemmas.Bool.{ltb-true, ltb-false, and_parts}
use Rattle.std.proofs.lemmas.Option.{same_Some, none-some, slice_get-get_or}
use Rattle.tfpg_base.specs.declared.limits.TheConstants.{NEVER}
use Rattle.tfpg_base.specs.Constraint.{Meets}
use Rattle.tfpg_base.specs.declared.constraint.Constraint.{Constraint}
use Rattle.tfpg_graph.specs.Graph.{Tfpg}
use Rattle.tfpg_graph.specs.Reach.{is_among}
use Rattle.tfpg_log.specs.declared.event.Event.{Event}
use Rattle.tfpg_log.specs.declared.event.Event.TheVariants.{Alarm, Silent, Sweep, Tick, Mode}
use Rattle.tfpg_log.specs.Log.{Logbook, IsLogOf, now_of, event_at, alarm_interval, quiet_at}
use Rattle.tfpg_log.specs.declared.interval.Interval.{Interval}
use Rattle.tfpg_log.proofs.lemmas.events.SilentNodes.{event_own, quiet_within}
use Rattle.tfpg_evidence.specs.declared.reason.Reason.{Reason}
use Rattle.tfpg_evidence.specs.declared.reason.Reason.TheVariants.{Zero, Top, Unreached, From, Upto, Quiet, Pick}
use Rattle.tfpg_base.specs.Bounds.{at_most, at_least}
use Rattle.tfpg_clause.specs.Facts.{fact, from_alarm, upto_alarm}
use Rattle.tfpg_base.proofs.lemmas.lists.Choices.{then_some-true, option_map-some}
use Rattle.tfpg_graph.proofs.lemmas.NodeAt.{monitored_within}
use Rattle.tfpg_diff.specs.VariableBounds.{VariableBounds}
use Rattle.tfpg_diff.specs.declared.why.Why.TheVariants.{Given}
use Rattle.tfpg_diff.specs.Demands.{Demands, Bounded}
use Rattle.tfpg_diff.specs.Solution.{IsSolution}
use Rattle.tfpg_diff.specs.SystemState.{widest, raised, lowered, changed_at, with_floor, with_ceiling}
use Rattle.tfpg_search.specs.inside.ClauseLaws.{ClauseLaws}
use Rattle.tfpg_search.specs.inside.Facts.{AreFactsIn}
use Rattle.tfpg_clause.specs.Case.{case_of}

-- ---- what facts say

-- The constraint bounds the time of a node of the graph.
pub record BoundsBelow (graph : Tfpg) (constraint : Constraint) : Type 0 where
  pub node : ℕ
  pub bound : ℕ
  pub within : node < length graph.nodes
  pub is : constraint ≡ at_least node bound

pub record BoundsAbove (graph : Tfpg) (constraint : Constraint) : Type 0 where
  pub node : ℕ
  pub bound : ℕ
  pub within : node < length graph.nodes
  pub is : constraint ≡ at_most node (pos bound)

-- from below or from above
abbrev pub IsBound : Tfpg → Constraint → Type 0
IsBound graph constraint = BoundsBelow graph constraint ⊎ BoundsAbove graph constraint

module _ (graph : Tfpg) (log : Logbook) (of : IsLogOf graph log) where
  -- an alarm is of a node of the graph
  pub alarm_within : (number time node : ℕ) → event_at log number ≡ Some (Alarm time node) → node < length graph.nodes
  alarm_within number time node at = monitored_within graph node (event_own graph log number (Alarm time node) of at)

  module _ (reach : List ℕ) (constraint : Constraint) where
    from_bound : (number : ℕ) (event : Option Event) → event_at log number ≡ event → option_and_then (from_alarm graph log) event ≡ Some constraint → IsBound graph constraint
    from_bound number None at is = absurd cc
    from_bound number (Some (Alarm time node)) at is =
        let told = option_map-some (λ (i : Interval). at_least node i.earliest) (alarm_interval graph log node time) constraint is in
        inl (record { node = node; bound = told.0.earliest; within = alarm_within number time node at; is = sym told.2 })
    from_bound number (Some (Silent time node)) at is = absurd cc
    from_bound number (Some (Sweep time)) at is = absurd cc
    from_bound number (Some (Tick time)) at is = absurd cc
    from_bound number (Some (Mode time mode)) at is = absurd cc

    upto_bound : (number : ℕ) (event : Option Event) → event_at log number ≡ event → option_and_then (upto_alarm graph log) event ≡ Some constraint → IsBound graph constraint
    upto_bound number None at is = absurd cc
    upto_bound number (Some (Alarm time node)) at is =
        let told = option_map-some (λ (i : Interval). at_most node (pos i.latest)) (alarm_interval graph log node time) constraint is in
        inr (record { node = node; bound = told.0.latest; within = alarm_within number time node at; is = sym told.2 })
    upto_bound number (Some (Silent time node)) at is = absurd cc
    upto_bound number (Some (Sweep time)) at is = absurd cc
    upto_bound number (Some (Tick time)) at is = absurd cc
    upto_bound number (Some (Mode time mode)) at is = absurd cc

    quiet_bound : (number node : ℕ) (time : Option ℕ) → quiet_at graph log number node ≡ time → option_map (λ t. at_least node (t + 1)) time ≡ Some constraint → IsBound graph constraint
    quiet_bound number node None at is = absurd cc
    quiet_bound number node (Some time) at is =
        inl (record { node = node; bound = time + 1; within = quiet_within graph log number node time of at; is = sym (same_Some (at_least node (time + 1)) constraint is) })

    -- a fact bounds the time of a node of the graph
    pub fact_bounds : (reason : Reason) → fact (case_of graph log reach) reason ≡ Some constraint → IsBound graph constraint
    fact_bounds (Zero node) is =
        let parts = then_some-true (ltb node (length graph.nodes)) (at_least node 0) constraint is in
        inl (record { node = node; bound = 0; within = ltb-true node (length graph.nodes) parts.0; is = sym parts.1 })
    fact_bounds (Top node) is =
        let parts = then_some-true (ltb node (length graph.nodes)) (at_most node (pos NEVER)) constraint is in
        inr (record { node = node; bound = NEVER; within = ltb-true node (length graph.nodes) parts.0; is = sym parts.1 })
    fact_bounds (Unreached node horizon) is =
        let parts = then_some-true (ltb node (length graph.nodes) && (leb horizon (now_of log) && not (is_among reach node))) (at_least node (horizon + 1)) constraint is in
        let both = and_parts (ltb node (length graph.nodes)) (leb horizon (now_of log) && not (is_among reach node)) parts.0 in
        inl (record { node = node; bound = horizon + 1; within = ltb-true node (length graph.nodes) both.0; is = sym parts.1 })
    fact_bounds (From number) is = from_bound number (event_at log number) refl is
    fact_bounds (Upto number) is = upto_bound number (event_at log number) refl is
    fact_bounds (Quiet number node) is = quiet_bound number node (quiet_at graph log number node) refl is
    fact_bounds (Pick split index) is = absurd cc

  -- where bounds say all facts, each solution meets them
  pub facts_met : ClauseLaws → (reach : List ℕ) (demands : Demands) → length demands.bounds ≡ length graph.nodes →
      ((node : ℕ) → node < length graph.nodes → AreFactsIn (fact (case_of graph log reach)) demands node) →
      (reason : Reason) (constraint : Constraint) → fact (case_of graph log reach) reason ≡ Some constraint →
      (times : List ℕ) → IsSolution demands times → Meets times constraint
  facts_met laws reach demands as_many all reason constraint is times solution = ⊎_elim
      (λ (low : BoundsBelow graph constraint).
      let bounds = get_or demands.bounds low.node (widest 0) in
      let inside = low.within in
      let at : Bounded demands low.node bounds = slice_get-get_or demands.bounds low.node (widest 0) (omega arith) in
      subst (Meets times) (sym low.is) ((laws.lower times low.node low.bound).1 (omega (
        arith,
        (all low.node inside).floors bounds at reason low.bound (is ∙ ap Some low.is),
        (solution.between low.node bounds at).above,
      ))))
      (λ (high : BoundsAbove graph constraint).
      let bounds = get_or demands.bounds high.node (widest 0) in
      let inside = high.within in
      let at : Bounded demands high.node bounds = slice_get-get_or demands.bounds high.node (widest 0) (omega arith) in
      subst (Meets times) (sym high.is) ((laws.upper times high.node high.bound).1 (omega (
        arith,
        (all high.node inside).ceilings bounds at reason high.bound (is ∙ ap Some high.is),
        (solution.between high.node bounds at).below,
      ))))
      (fact_bounds reach constraint reason is)

-- ---- tighter bounds

-- The bounds of item `u` once item `v` is changed: the old ones, or the change of them where `u` is `v`.
pub record IsChanged (change : VariableBounds → VariableBounds) (old : List VariableBounds) (v u : ℕ) (new : VariableBounds) : Type 0 where
  pub before : VariableBounds
  pub was : slice_get old u ≡ Some before
  pub is : ((u ≢ v) × (new ≡ before)) ⊎ ((u ≡ v) × (new ≡ change before))

changed : (change : VariableBounds → VariableBounds) (old : List VariableBounds) (v u : ℕ) (new : VariableBounds) → slice_get (changed_at change old v) u ≡ Some new → IsChanged change old v u new
changed change [] v u new at = absurd (none-some new at)
changed change (b ∷ bs) zero zero new at = record { before = b; was = refl; is = inr (refl, sym (same_Some (change b) new at)) }
changed change (b ∷ bs) zero (suc u) new at = record { before = new; was = at; is = inl (λ e. omega (arith, e), refl) }
changed change (b ∷ bs) (suc v) zero new at = record { before = new; was = at; is = inl (λ e. omega (arith, e), refl) }
changed change (b ∷ bs) (suc v) (suc u) new at =
    let rest = changed change bs v u new at in
    record {
      before = rest.before;
      was = rest.was;
      is = ⊎_elim
          (λ (other : (u ≢ v) × (new ≡ rest.before)). inl (λ e. other.0 (omega (arith, e)), other.1))
          (λ (here : (u ≡ v) × (new ≡ change rest.before)). inr (ap suc here.0, here.1))
          rest.is;
    }

-- These bounds are at least as tight as the others.
pub record IsTighter (new old : VariableBounds) : Type 0 where
  pub floor : old.floor ≤ new.floor
  pub ceiling : new.ceiling ≤ old.ceiling

raised-tighter : (least tag : ℕ) (old : VariableBounds) → IsTighter (raised least tag old) old × (least ≤ (raised least tag old).floor)
raised-tighter least tag old = by (ltb old.floor least) refl
  where
    by : (b : Bool) → ltb old.floor least ≡ b → IsTighter (cond b (record old { floor = least; floor_why = Given tag }) old) old
        × (least ≤ (cond b (record old { floor = least; floor_why = Given tag }) old).floor)
    by true is = let lt = ltb-true old.floor least is in (record { floor = omega arith; ceiling = omega arith }, omega arith)
    by false is = let ge = ltb-false old.floor least is in (record { floor = omega arith; ceiling = omega arith }, omega arith)

lowered-tighter : (ceiling tag : ℕ) (old : VariableBounds) → IsTighter (lowered ceiling tag old) old × ((lowered ceiling tag old).ceiling ≤ ceiling)
lowered-tighter ceiling tag old = by (ltb ceiling old.ceiling) refl
  where
    by : (b : Bool) → ltb ceiling old.ceiling ≡ b → IsTighter (cond b (record old { ceiling = ceiling; ceiling_why = Given tag }) old) old
        × ((cond b (record old { ceiling = ceiling; ceiling_why = Given tag }) old).ceiling ≤ ceiling)
    by true is = let lt = ltb-true ceiling old.ceiling is in (record { floor = omega arith; ceiling = omega arith }, omega arith)
    by false is = let ge = ltb-false ceiling old.ceiling is in (record { floor = omega arith; ceiling = omega arith }, omega arith)

-- a change that tightens leaves no bounds looser
tighter-changed : (change : VariableBounds → VariableBounds) (old : List VariableBounds) (v u : ℕ) (new : VariableBounds) → ((b : VariableBounds) → IsTighter (change b) b) →
    (is : IsChanged change old v u new) → IsTighter new is.before
tighter-changed change old v u new tightens is = ⊎_elim
    (λ (other : (u ≢ v) × (new ≡ is.before)). subst (λ (b : VariableBounds). IsTighter b is.before) (sym other.1) (record { floor = omega arith; ceiling = omega arith }))
    (λ (here : (u ≡ v) × (new ≡ change is.before)). subst (λ (b : VariableBounds). IsTighter b is.before) (sym here.1) (tightens is.before))
    is.is

module _ (fact : Reason → Option Constraint) (demands : Demands) where
  -- facts that bounds say, tighter bounds say
  facts-changed : (change : VariableBounds → VariableBounds) (v u : ℕ) → ((b : VariableBounds) → IsTighter (change b) b) → AreFactsIn fact demands u →
      AreFactsIn fact (record { bounds = changed_at change demands.bounds v; picks = demands.picks }) u
  facts-changed change v u tightens facts = record {
    floors = λ new at reason bound states.
        let is = changed change demands.bounds v u new at in
        let tighter = tighter-changed change demands.bounds v u new tightens is in
        omega (arith, tighter.floor, facts.floors is.before is.was reason bound states);
    ceilings = λ new at reason bound states.
        let is = changed change demands.bounds v u new at in
        let tighter = tighter-changed change demands.bounds v u new tightens is in
        omega (arith, tighter.ceiling, facts.ceilings is.before is.was reason bound states);
  }

  -- the greatest lower and the least upper bound of a node say all its facts
  pub facts-tightened : (v low high tag other : ℕ) →
      ((reason : Reason) (bound : ℕ) → fact reason ≡ Some (at_least v bound) → bound ≤ low) →
      ((reason : Reason) (bound : ℕ) → fact reason ≡ Some (at_most v (pos bound)) → high ≤ bound) →
      AreFactsIn fact (with_ceiling (with_floor demands v low tag) v high other) v
  facts-tightened v low high tag other greatest least = record {
    floors = λ new at reason bound states.
        let later = changed (lowered high other) (changed_at (raised low tag) demands.bounds v) v v new at in
        let first = changed (raised low tag) demands.bounds v v later.before later.was in
        let kept = tighter-changed (lowered high other) (changed_at (raised low tag) demands.bounds v) v v new (λ b. (lowered-tighter high other b).0) later in
        let raised_is : later.before ≡ raised low tag first.before = here (later.before) (raised low tag first.before) first.before first.is in
        let floor_is : later.before.floor ≡ (raised low tag first.before).floor = ap (λ (b : VariableBounds). b.floor) raised_is in
        omega (arith, kept.floor, floor_is, (raised-tighter low tag first.before).1, greatest reason bound states);
    ceilings = λ new at reason bound states.
        let later = changed (lowered high other) (changed_at (raised low tag) demands.bounds v) v v new at in
        let lowered_is : new ≡ lowered high other later.before = here new (lowered high other later.before) later.before later.is in
        let ceiling_is : new.ceiling ≡ (lowered high other later.before).ceiling = ap (λ (b : VariableBounds). b.ceiling) lowered_is in
        omega (arith, ceiling_is, (lowered-tighter high other later.before).1, least reason bound states);
  } where
    here : (new change before : VariableBounds) → ((v ≢ v) × (new ≡ before)) ⊎ ((v ≡ v) × (new ≡ change)) → new ≡ change
    here new change before is = ⊎_elim (λ (other : (v ≢ v) × (new ≡ before)). absurd (other.0 refl)) (λ (same : (v ≡ v) × (new ≡ change)). same.1) is

  -- and the others say what they said
  pub facts-kept : (v u low high tag other : ℕ) → AreFactsIn fact demands u → AreFactsIn fact (with_ceiling (with_floor demands v low tag) v high other) u
  facts-kept v u low high tag other facts =
      let raised_says = facts-changed (raised low tag) v u (λ b. (raised-tighter low tag b).0) facts in
      record {
        floors = λ new at reason bound states.
            let is = changed (lowered high other) (changed_at (raised low tag) demands.bounds v) v u new at in
            let tighter = tighter-changed (lowered high other) (changed_at (raised low tag) demands.bounds v) v u new (λ b. (lowered-tighter high other b).0) is in
            omega (arith, tighter.floor, raised_says.floors is.before is.was reason bound states);
        ceilings = λ new at reason bound states.
            let is = changed (lowered high other) (changed_at (raised low tag) demands.bounds v) v u new at in
            let tighter = tighter-changed (lowered high other) (changed_at (raised low tag) demands.bounds v) v u new (λ b. (lowered-tighter high other b).0) is in
            omega (arith, tighter.ceiling, raised_says.ceilings is.before is.was reason bound states);
      }
