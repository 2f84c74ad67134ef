-- The limit of counted calls on a small graph.
use Rattle.std.proofs.Common.{◌≡◌, ℕ, zero, suc, ◌+◌, ◌≤◌, List, [], ◌∷◌, false, Some, refl, sym, ap, subst, ◌∙◌, ⊎_elim, arith}
use Rattle.std.specs.Prelude.{slice_get, pos}
use Rattle.std.proofs.lemmas.Option.{same_Some, none-some}
use Rattle.tfpg_base.specs.declared.limits.TheConstants.{NEVER}
use Rattle.tfpg_base.specs.Bounds.{at_most, at_least}
use Rattle.tfpg_graph.specs.Graph.{Tfpg}
use Rattle.tfpg_graph.specs.Reach.{is_among}
use Rattle.tfpg_log.specs.declared.event.Event.{Event}
use Rattle.tfpg_log.specs.declared.event.Event.TheVariants.{Alarm, Silent, Sweep, Tick, Mode}
use Rattle.tfpg_log.specs.declared.interval.Interval.{Interval}
use Rattle.tfpg_log.specs.Log.{Logbook, now_of, event_at, alarm_interval, quiet_at, time_of_event}
use Rattle.tfpg_evidence.specs.declared.reason.Reason.{Reason}
use Rattle.tfpg_evidence.specs.declared.reason.Reason.TheVariants.{Zero, Top, Unreached, From, Upto}
use Rattle.tfpg_clause.specs.Case.{Case, case_of}
use Rattle.tfpg_clause.specs.Facts.{fact, IsLow, IsHigh}
use Rattle.tfpg_search.specs.Work.{NodeBounds, AreFactBounds, IsWorkLimit, widest_bounds}
use Rattle.tfpg_search.specs.WorkRows.{two_failures, reach_of_first, first_alarm, then_tick, tick_alone}
use Rattle.tfpg_search.specs.inside.Facts.{Leaves}
use Rattle.tfpg_search.proofs.lemmas.facts.StatedBounds.{IsUnreached, IsAlarmed, IsSilenced, IsActiveBy, low_cause, high_cause}

-- ---- a log without silences

module _ (graph : Tfpg) (log : Logbook) (reach : List ℕ) (never_silent : (number node until : ℕ) → quiet_at graph log number node ≡ Some until → ⊥) where
  -- a lower bound is the greatest where no alarm says more, and the node is reached or the bound is after now
  low_is : (node low : ℕ) (reason : Reason) → fact (case_of graph log reach) reason ≡ Some (at_least node low) → (is_among reach node ≡ false → now_of log + 1 ≤ low)
      → ((number : ℕ) (interval : Interval) → Leaves graph log node number interval → interval.earliest ≤ low) → IsLow (case_of graph log reach) node low
  low_is node low reason states after alarms = record {
    reason = reason;
    stated = states;
    greatest = λ other bound is. ⊎_elim
        (λ (none : bound ≡ 0). omega arith)
        (⊎_elim
        (λ (outside : IsUnreached log reach node bound). let past = after outside.outside in let by = outside.by_now in let at = outside.is in omega arith)
        (⊎_elim
        (λ (alarmed : IsAlarmed graph log node bound). let early = alarms alarmed.number alarmed.interval alarmed.leaves in let at = alarmed.is in omega arith)
        (λ (silenced : IsSilenced graph log node bound). absurd (never_silent silenced.number node silenced.time silenced.at))))
        (low_cause graph log reach node bound other is);
  }

  -- an upper bound is the least where no alarm says more
  high_is : (node high : ℕ) (reason : Reason) → fact (case_of graph log reach) reason ≡ Some (at_most node (pos high)) → high ≤ NEVER
      → ((number : ℕ) (interval : Interval) → Leaves graph log node number interval → high ≤ interval.latest) → IsHigh (case_of graph log reach) node high
  high_is node high reason states within alarms = record {
    reason = reason;
    stated = states;
    least = λ other bound is. ⊎_elim
        (λ (never : bound ≡ NEVER). omega arith)
        (λ (active : IsActiveBy graph log node bound). let late = alarms active.number active.interval active.leaves in let at = active.is in omega arith)
        (high_cause graph log reach node bound other is);
  }

-- ---- a log with one alarm, of A at 30

abbrev node_of : Event → ℕ
node_of (Alarm time node) = node
node_of (Silent time node) = node
node_of (Sweep time) = 0
node_of (Tick time) = 0
node_of (Mode time mode) = 0

-- an alarm is what it is
same_alarm : (time node : ℕ) → Some (Alarm 30 2) ≡ Some (Alarm time node) → (30 ≡ time) × (2 ≡ node)
same_alarm time node is = let same = same_Some (Alarm 30 2) (Alarm time node) is in (ap time_of_event same, ap node_of same)

abbrev at_thirty : Interval
at_thirty = record { earliest = 30; latest = 30 }

-- the bounds after it, at an instant before the second number
abbrev bounds_before : ℕ → NodeBounds
bounds_before next = record { lows = 0 ∷ next ∷ 30 ∷ 0 ∷ 0 ∷ []; highs = NEVER ∷ NEVER ∷ 30 ∷ NEVER ∷ NEVER ∷ [] }

module _ (log : Logbook) (next : ℕ) (now_is : now_of log + 1 ≡ next) (never_silent : (number node until : ℕ) → quiet_at two_failures log number node ≡ Some until → ⊥)
    (alarms : (number time node : ℕ) → event_at log number ≡ Some (Alarm time node) → (30 ≡ time) × (2 ≡ node))
    (interval_is : alarm_interval two_failures log 2 30 ≡ Some at_thirty)
    (from_is : fact (case_of two_failures log reach_of_first) (From 1) ≡ Some (at_least 2 30))
    (upto_is : fact (case_of two_failures log reach_of_first) (Upto 1) ≡ Some (at_most 2 (pos 30)))
    (unreached_is : fact (case_of two_failures log reach_of_first) (Unreached 1 (now_of log)) ≡ Some (at_least 1 next)) where
  abbrev case : Case
  case = case_of two_failures log reach_of_first

  -- no other node has an alarm
  of_other : (node : ℕ) → (2 ≡ node → ⊥) → (number : ℕ) (interval : Interval) → Leaves two_failures log node number interval → ⊥
  of_other node other number interval leaves = other (alarms number leaves.time node leaves.alarm).1

  -- that of A leaves one instant
  of_a : (number : ℕ) (interval : Interval) → Leaves two_failures log 2 number interval → at_thirty ≡ interval
  of_a number interval leaves =
      let time = (alarms number leaves.time 2 leaves.alarm).0 in
      same_Some at_thirty interval (sym interval_is ∙ ap (alarm_interval two_failures log 2) time ∙ leaves.left)

  -- a reached node without an alarm has the widest bounds
  low_none : (node : ℕ) → (2 ≡ node → ⊥) → (is_among reach_of_first node ≡ false → ⊥) → fact case (Zero node) ≡ Some (at_least node 0) → IsLow case node 0
  low_none node other reached states =
      low_is two_failures log reach_of_first never_silent node 0 (Zero node) states (λ outside. absurd (reached outside)) (λ number interval leaves. absurd (of_other node other number interval leaves))

  high_none : (node : ℕ) → (2 ≡ node → ⊥) → fact case (Top node) ≡ Some (at_most node (pos NEVER)) → IsHigh case node NEVER
  high_none node other states =
      high_is two_failures log reach_of_first never_silent node NEVER (Top node) states (omega arith) (λ number interval leaves. absurd (of_other node other number interval leaves))

  low : (node time : ℕ) → slice_get (bounds_before next).lows node ≡ Some time → IsLow case node time
  low zero time at = subst (IsLow case 0) (same_Some 0 time at) (low_none 0 (λ same. omega arith) (λ outside. cc) refl)
  low (suc zero) time at =
      subst (IsLow case 1) (same_Some next time at)
      (low_is two_failures log reach_of_first never_silent 1 next (Unreached 1 (now_of log)) unreached_is (λ outside. omega arith)
      (λ number interval leaves. absurd (of_other 1 (λ same. omega arith) number interval leaves)))
  low (suc (suc zero)) time at =
      subst (IsLow case 2) (same_Some 30 time at)
      (low_is two_failures log reach_of_first never_silent 2 30 (From 1) from_is (λ outside. cc)
      (λ number interval leaves. let early = ap (λ (i : Interval). i.earliest) (of_a number interval leaves) in omega arith))
  low (suc (suc (suc zero))) time at = subst (IsLow case 3) (same_Some 0 time at) (low_none 3 (λ same. omega arith) (λ outside. cc) refl)
  low (suc (suc (suc (suc zero)))) time at = subst (IsLow case 4) (same_Some 0 time at) (low_none 4 (λ same. omega arith) (λ outside. cc) refl)
  low (suc (suc (suc (suc (suc node))))) time at = absurd (none-some time at)

  high : (node time : ℕ) → slice_get (bounds_before next).highs node ≡ Some time → IsHigh case node time
  high zero time at = subst (IsHigh case 0) (same_Some NEVER time at) (high_none 0 (λ same. omega arith) refl)
  high (suc zero) time at = subst (IsHigh case 1) (same_Some NEVER time at) (high_none 1 (λ same. omega arith) refl)
  high (suc (suc zero)) time at =
      subst (IsHigh case 2) (same_Some 30 time at)
      (high_is two_failures log reach_of_first never_silent 2 30 (Upto 1) upto_is (omega arith)
      (λ number interval leaves. let late = ap (λ (i : Interval). i.latest) (of_a number interval leaves) in omega arith))
  high (suc (suc (suc zero))) time at = subst (IsHigh case 3) (same_Some NEVER time at) (high_none 3 (λ same. omega arith) refl)
  high (suc (suc (suc (suc zero)))) time at = subst (IsHigh case 4) (same_Some NEVER time at) (high_none 4 (λ same. omega arith) refl)
  high (suc (suc (suc (suc (suc node))))) time at = absurd (none-some time at)

  bounds_given : AreFactBounds case (bounds_before next)
  bounds_given = record { low_each = refl; high_each = refl; low = low; high = high }

-- at the alarm
first_quiet : (number node until : ℕ) → quiet_at two_failures first_alarm number node ≡ Some until → ⊥
first_quiet zero node until at = none-some until at
first_quiet (suc zero) node until at = none-some until at
first_quiet (suc (suc number)) node until at = none-some until at

first_alarms : (number time node : ℕ) → event_at first_alarm number ≡ Some (Alarm time node) → (30 ≡ time) × (2 ≡ node)
first_alarms zero time node at = absurd (none-some (Alarm time node) at)
first_alarms (suc zero) time node at = same_alarm time node at
first_alarms (suc (suc number)) time node at = absurd (none-some (Alarm time node) at)

first_given : AreFactBounds (case_of two_failures first_alarm reach_of_first) (bounds_before 31)
first_given = bounds_given first_alarm 31 refl first_quiet first_alarms refl refl refl refl

-- at the tick after it
then_quiet : (number node until : ℕ) → quiet_at two_failures then_tick number node ≡ Some until → ⊥
then_quiet zero node until at = none-some until at
then_quiet (suc zero) node until at = none-some until at
then_quiet (suc (suc zero)) node until at = none-some until at
then_quiet (suc (suc (suc number))) node until at = none-some until at

then_alarms : (number time node : ℕ) → event_at then_tick number ≡ Some (Alarm time node) → (30 ≡ time) × (2 ≡ node)
then_alarms zero time node at = absurd (none-some (Alarm time node) at)
then_alarms (suc zero) time node at = same_alarm time node at
then_alarms (suc (suc zero)) time node at = absurd cc
then_alarms (suc (suc (suc number))) time node at = absurd (none-some (Alarm time node) at)

then_given : AreFactBounds (case_of two_failures then_tick reach_of_first) (bounds_before 32)
then_given = bounds_given then_tick 32 refl then_quiet then_alarms refl refl refl refl

-- three bounds differ from the widest
pub limit_at_alarm : IsWorkLimit (case_of two_failures first_alarm reach_of_first) 0 3 19
limit_at_alarm = record {
  old = widest_bounds 5;
  before = record { unseen = λ none. refl; given = λ some. absurd (omega arith) };
  new = bounds_before 31;
  now = first_given;
  is = refl;
}

-- then one differs
pub limit_at_tick : IsWorkLimit (case_of two_failures then_tick reach_of_first) 1 0 5
limit_at_tick = record {
  old = bounds_before 31;
  before = record { unseen = λ none. absurd (omega arith); given = λ some. first_given };
  new = bounds_before 32;
  now = then_given;
  is = refl;
}

-- ---- a tick at 0, where nothing fails

tick_quiet : (number node until : ℕ) → quiet_at two_failures tick_alone number node ≡ Some until → ⊥
tick_quiet zero node until at = none-some until at
tick_quiet (suc zero) node until at = none-some until at
tick_quiet (suc (suc number)) node until at = none-some until at

tick_alarms : (node number : ℕ) (interval : Interval) → Leaves two_failures tick_alone node number interval → ⊥
tick_alarms node zero interval leaves = none-some (Alarm leaves.time node) leaves.alarm
tick_alarms node (suc zero) interval leaves = let at = leaves.alarm in cc
tick_alarms node (suc (suc number)) interval leaves = none-some (Alarm leaves.time node) leaves.alarm

abbrev nothing : Case
nothing = case_of two_failures tick_alone []

tick_low : (node : ℕ) → fact nothing (Unreached node 0) ≡ Some (at_least node 1) → IsLow nothing node 1
tick_low node states =
    low_is two_failures tick_alone [] tick_quiet node 1 (Unreached node 0) states (λ outside. omega arith) (λ number interval leaves. absurd (tick_alarms node number interval leaves))

tick_high : (node : ℕ) → fact nothing (Top node) ≡ Some (at_most node (pos NEVER)) → IsHigh nothing node NEVER
tick_high node states =
    high_is two_failures tick_alone [] tick_quiet node NEVER (Top node) states (omega arith) (λ number interval leaves. absurd (tick_alarms node number interval leaves))

abbrev all_one : NodeBounds
all_one = record { lows = 1 ∷ 1 ∷ 1 ∷ 1 ∷ 1 ∷ []; highs = NEVER ∷ NEVER ∷ NEVER ∷ NEVER ∷ NEVER ∷ [] }

lows_one : (node time : ℕ) → slice_get all_one.lows node ≡ Some time → IsLow nothing node time
lows_one zero time at = subst (IsLow nothing 0) (same_Some 1 time at) (tick_low 0 refl)
lows_one (suc zero) time at = subst (IsLow nothing 1) (same_Some 1 time at) (tick_low 1 refl)
lows_one (suc (suc zero)) time at = subst (IsLow nothing 2) (same_Some 1 time at) (tick_low 2 refl)
lows_one (suc (suc (suc zero))) time at = subst (IsLow nothing 3) (same_Some 1 time at) (tick_low 3 refl)
lows_one (suc (suc (suc (suc zero)))) time at = subst (IsLow nothing 4) (same_Some 1 time at) (tick_low 4 refl)
lows_one (suc (suc (suc (suc (suc node))))) time at = absurd (none-some time at)

highs_never : (node time : ℕ) → slice_get all_one.highs node ≡ Some time → IsHigh nothing node time
highs_never zero time at = subst (IsHigh nothing 0) (same_Some NEVER time at) (tick_high 0 refl)
highs_never (suc zero) time at = subst (IsHigh nothing 1) (same_Some NEVER time at) (tick_high 1 refl)
highs_never (suc (suc zero)) time at = subst (IsHigh nothing 2) (same_Some NEVER time at) (tick_high 2 refl)
highs_never (suc (suc (suc zero))) time at = subst (IsHigh nothing 3) (same_Some NEVER time at) (tick_high 3 refl)
highs_never (suc (suc (suc (suc zero)))) time at = subst (IsHigh nothing 4) (same_Some NEVER time at) (tick_high 4 refl)
highs_never (suc (suc (suc (suc (suc node))))) time at = absurd (none-some time at)

-- all five lows differ from the widest
pub limit_of_unreached : IsWorkLimit nothing 0 0 9
limit_of_unreached = record {
  old = widest_bounds 5;
  before = record { unseen = λ none. refl; given = λ some. absurd (omega arith) };
  new = all_one;
  now = record { low_each = refl; high_each = refl; low = lows_one; high = highs_never };
  is = refl;
}
