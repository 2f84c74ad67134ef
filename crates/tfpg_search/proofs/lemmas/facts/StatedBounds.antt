-- Which facts bound the time of a node.
use Rattle.std.proofs.Common.{◌≡◌, ℕ, ◌+◌, ◌<◌, ◌≤◌, Bool, true, false, not, ◌&&◌, leb, ltb, List, length, Option, Some, None, refl, sym, subst, ◌∙◌, ap, inl, inr, ⊎_elim, ◌⊎◌, arith}
use Rattle.std.specs.Prelude.{pos, IfSome, option_map, option_and_then}
use Rattle.std.proofs.lemmas.Bool.{leb-true, le-leb, lt-ltb, and_parts, and_from, not-true, both_ways}
use Rattle.std.specs.Bool.{then_some}
use Rattle.tfpg_base.specs.declared.limits.TheConstants.{NEVER}
use Rattle.tfpg_graph.specs.Graph.{Tfpg}
use Rattle.tfpg_graph.specs.Reach.{is_among}
use Rattle.tfpg_log.specs.declared.event.Event.{Event}
use Rattle.tfpg_log.specs.declared.event.Event.TheVariants.{Alarm, Silent, Sweep, Tick, Mode}
use Rattle.tfpg_log.specs.Log.{Logbook, IsOrdered, now_of, event_at, alarm_event, alarm_interval, is_ignored, quiet_at, time_of_event}
use Rattle.tfpg_log.proofs.lemmas.events.AlarmEvents.{alarm_event_is, alarm_event_first}
use Rattle.tfpg_log.proofs.lemmas.events.Order.{number_by_now}
use Rattle.tfpg_log.proofs.lemmas.events.SilenceTimes.{quiet_by, silence_event}
use Rattle.tfpg_log.proofs.lemmas.events.AlarmIntervals.{interval_is}
use Rattle.tfpg_log.proofs.lemmas.events.LastAlarms.{first_is_earliest, last_alarm_is_latest}
use Rattle.tfpg_log.specs.declared.interval.Interval.{Interval}
use Rattle.tfpg_log.specs.LastAlarm.{IsLastAlarm}
use Rattle.tfpg_search.specs.inside.Facts.{Leaves}
use Rattle.tfpg_evidence.specs.declared.reason.Reason.{Reason}
use Rattle.tfpg_evidence.specs.declared.reason.Reason.TheVariants.{Zero, Top, Unreached, From, Upto, Quiet, Pick}
use Rattle.tfpg_base.specs.Bounds.{at_most, at_least}
use Rattle.tfpg_clause.specs.Facts.{fact, from_alarm, upto_alarm}
use Rattle.tfpg_base.proofs.lemmas.lists.Choices.{then_some-true, option_map-some}
use Rattle.tfpg_clause.proofs.lemmas.logs.TimesInRange.{now_in_range}
use Rattle.tfpg_clause.proofs.lemmas.constraints.BoundsMet.{at_least-same, at_most-same, at_most-least}
use Rattle.tfpg_clause.specs.Case.{case_of}

-- The set does not reach the node, which is not active by a horizon up to now.
pub record IsUnreached (log : Logbook) (reach : List ℕ) (node bound : ℕ) : Type 0 where
  pub horizon : ℕ
  pub by_now : horizon ≤ now_of log
  pub outside : is_among reach node ≡ false
  pub is : bound ≡ horizon + 1

-- An alarm of the node leaves no instant before this bound.
pub record IsAlarmed (graph : Tfpg) (log : Logbook) (node bound : ℕ) : Type 0 where
  pub number : ℕ
  pub interval : Interval
  pub leaves : Leaves graph log node number interval
  pub is : bound ≡ interval.earliest

-- An event says that the node is not active up to an instant, and the bound is just after that.
pub record IsSilenced (graph : Tfpg) (log : Logbook) (node bound : ℕ) : Type 0 where
  pub number : ℕ
  pub time : ℕ
  pub at : quiet_at graph log number node ≡ Some time
  pub is : bound ≡ time + 1

-- An alarm of the node leaves no instant after this bound.
pub record IsActiveBy (graph : Tfpg) (log : Logbook) (node bound : ℕ) : Type 0 where
  pub number : ℕ
  pub interval : Interval
  pub leaves : Leaves graph log node number interval
  pub is : bound ≡ interval.latest

-- why a fact states a lower bound
abbrev pub IsLowCause : Tfpg → Logbook → List ℕ → ℕ → ℕ → Type 0
IsLowCause graph log reach node bound =
    (bound ≡ 0) ⊎ (IsUnreached log reach node bound ⊎ (IsAlarmed graph log node bound ⊎ IsSilenced graph log node bound))

module _ (graph : Tfpg) (log : Logbook) (reach : List ℕ) (node bound : ℕ) where
  low_of_alarm : (number : ℕ) (event : Option Event) → event_at log number ≡ event → option_and_then (from_alarm graph log) event ≡ Some (at_least node bound) →
      IsLowCause graph log reach node bound
  low_of_alarm number None at is = absurd cc
  low_of_alarm number (Some (Alarm time alarmed)) at is =
      let told = option_map-some (λ (i : Interval). at_least alarmed i.earliest) (alarm_interval graph log alarmed time) (at_least node bound) is in
      let same = at_least-same alarmed node told.0.earliest bound told.2 in
      inr (inr (inl (record {
        number = number;
        interval = told.0;
        leaves = record {
          time = time;
          alarm = at ∙ ap (λ (n : ℕ). Some (Alarm time n)) same.0;
          left = ap (λ (n : ℕ). alarm_interval graph log n time) (sym same.0) ∙ told.1;
        };
        is = sym same.1;
      })))
  low_of_alarm number (Some (Silent time silent)) at is = absurd cc
  low_of_alarm number (Some (Sweep time)) at is = absurd cc
  low_of_alarm number (Some (Tick time)) at is = absurd cc
  low_of_alarm number (Some (Mode time mode)) at is = absurd cc

  low_of_silence : (number u : ℕ) (time : Option ℕ) → quiet_at graph log number u ≡ time → option_map (λ t. at_least u (t + 1)) time ≡ Some (at_least node bound) →
      IsLowCause graph log reach node bound
  low_of_silence number u None at is = absurd cc
  low_of_silence number u (Some time) at is =
      let constraints : at_least u (time + 1) ≡ at_least node bound = cc in
      let same = at_least-same u node (time + 1) bound constraints in
      inr (inr (inr (record {
        number = number;
        time = time;
        at = ap (quiet_at graph log number) (sym same.0) ∙ at;
        is = sym same.1;
      })))

  no_low : (number : ℕ) (event : Option Event) → option_and_then (upto_alarm graph log) event ≡ Some (at_least node bound) → ⊥
  no_low number None is = absurd cc
  no_low number (Some (Alarm time alarmed)) is =
      let told = option_map-some (λ (i : Interval). at_most alarmed (pos i.latest)) (alarm_interval graph log alarmed time) (at_least node bound) is in
      at_most-least alarmed node bound (pos told.0.latest) told.2
  no_low number (Some (Silent time silent)) is = absurd cc
  no_low number (Some (Sweep time)) is = absurd cc
  no_low number (Some (Tick time)) is = absurd cc
  no_low number (Some (Mode time mode)) is = absurd cc

  -- why a fact states a lower bound of the node
  pub low_cause : (reason : Reason) → fact (case_of graph log reach) reason ≡ Some (at_least node bound) → IsLowCause graph log reach node bound
  low_cause (Zero u) is =
      let parts = then_some-true (ltb u (length graph.nodes)) (at_least u 0) (at_least node bound) is in
      inl (sym (at_least-same u node 0 bound parts.1).1)
  low_cause (Top u) is =
      let parts = then_some-true (ltb u (length graph.nodes)) (at_most u (pos NEVER)) (at_least node bound) is in
      absurd (at_most-least u node bound (pos NEVER) parts.1)
  low_cause (Unreached u horizon) is =
      let parts = then_some-true (ltb u (length graph.nodes) && (leb horizon (now_of log) && not (is_among reach u))) (at_least u (horizon + 1)) (at_least node bound) is in
      let both = and_parts (ltb u (length graph.nodes)) (leb horizon (now_of log) && not (is_among reach u)) parts.0 in
      let rest = and_parts (leb horizon (now_of log)) (not (is_among reach u)) both.1 in
      let same = at_least-same u node (horizon + 1) bound parts.1 in
      inr (inl (record {
        horizon = horizon;
        by_now = leb-true horizon (now_of log) rest.0;
        outside = ap (is_among reach) (sym same.0) ∙ not-true (is_among reach u) rest.1;
        is = sym same.1;
      }))
  low_cause (From number) is = low_of_alarm number (event_at log number) refl is
  low_cause (Upto number) is = absurd (no_low number (event_at log number) is)
  low_cause (Quiet number u) is = low_of_silence number u (quiet_at graph log number u) refl is
  low_cause (Pick split index) is = absurd cc

  high_of_alarm : (number : ℕ) (event : Option Event) → event_at log number ≡ event → option_and_then (upto_alarm graph log) event ≡ Some (at_most node (pos bound)) →
      IsActiveBy graph log node bound
  high_of_alarm number None at is = absurd cc
  high_of_alarm number (Some (Alarm time alarmed)) at is =
      let told = option_map-some (λ (i : Interval). at_most alarmed (pos i.latest)) (alarm_interval graph log alarmed time) (at_most node (pos bound)) is in
      let same = at_most-same alarmed node told.0.latest bound told.2 in
      record {
        number = number;
        interval = told.0;
        leaves = record {
          time = time;
          alarm = at ∙ ap (λ (n : ℕ). Some (Alarm time n)) same.0;
          left = ap (λ (n : ℕ). alarm_interval graph log n time) (sym same.0) ∙ told.1;
        };
        is = sym same.1;
      }
  high_of_alarm number (Some (Silent time silent)) at is = absurd cc
  high_of_alarm number (Some (Sweep time)) at is = absurd cc
  high_of_alarm number (Some (Tick time)) at is = absurd cc
  high_of_alarm number (Some (Mode time mode)) at is = absurd cc

  no_high_of_alarm : (number : ℕ) (event : Option Event) → option_and_then (from_alarm graph log) event ≡ Some (at_most node (pos bound)) → ⊥
  no_high_of_alarm number None is = absurd cc
  no_high_of_alarm number (Some (Alarm time alarmed)) is =
      let told = option_map-some (λ (i : Interval). at_least alarmed i.earliest) (alarm_interval graph log alarmed time) (at_most node (pos bound)) is in
      at_most-least node alarmed told.0.earliest (pos bound) (sym told.2)
  no_high_of_alarm number (Some (Silent time silent)) is = absurd cc
  no_high_of_alarm number (Some (Sweep time)) is = absurd cc
  no_high_of_alarm number (Some (Tick time)) is = absurd cc
  no_high_of_alarm number (Some (Mode time mode)) is = absurd cc

  no_high_of_silence : (u : ℕ) (time : Option ℕ) → option_map (λ t. at_least u (t + 1)) time ≡ Some (at_most node (pos bound)) → ⊥
  no_high_of_silence u None is = absurd cc
  no_high_of_silence u (Some time) is =
      let constraints : at_least u (time + 1) ≡ at_most node (pos bound) = cc in
      at_most-least node u (time + 1) (pos bound) (sym constraints)

  -- why a fact states an upper bound of the node
  pub high_cause : (reason : Reason) → fact (case_of graph log reach) reason ≡ Some (at_most node (pos bound)) → (bound ≡ NEVER) ⊎ IsActiveBy graph log node bound
  high_cause (Zero u) is =
      let parts = then_some-true (ltb u (length graph.nodes)) (at_least u 0) (at_most node (pos bound)) is in
      absurd (at_most-least node u 0 (pos bound) (sym parts.1))
  high_cause (Top u) is =
      let parts = then_some-true (ltb u (length graph.nodes)) (at_most u (pos NEVER)) (at_most node (pos bound)) is in
      inl (sym (at_most-same u node NEVER bound parts.1).1)
  high_cause (Unreached u horizon) is =
      let parts = then_some-true (ltb u (length graph.nodes) && (leb horizon (now_of log) && not (is_among reach u))) (at_least u (horizon + 1)) (at_most node (pos bound)) is in
      absurd (at_most-least node u (horizon + 1) (pos bound) (sym parts.1))
  high_cause (From number) is = absurd (no_high_of_alarm number (event_at log number) is)
  high_cause (Upto number) is = inr (high_of_alarm number (event_at log number) refl is)
  high_cause (Quiet number u) is = absurd (no_high_of_silence u (quiet_at graph log number u) is)
  high_cause (Pick split index) is = absurd cc

-- what an alarm leaves is not after now
pub left_by_now : (graph : Tfpg) (log : Logbook) (node number : ℕ) (interval : Interval) → Leaves graph log node number interval → IsOrdered log
    → (interval.earliest ≤ now_of log) × (interval.latest ≤ now_of log)
left_by_now graph log node number interval leaves ordered =
    let is = interval_is graph log node leaves.time interval leaves.left in
    let by_now = number_by_now log number (Alarm leaves.time node) ordered leaves.alarm in
    (omega (arith, is.earliest, by_now), omega (arith, is.latest, by_now))

-- nor is the instant up to which a node is not active
pub quiet_by_now : (graph : Tfpg) (log : Logbook) (node number until : ℕ) → IsOrdered log → quiet_at graph log number node ≡ Some until → until ≤ now_of log
quiet_by_now graph log node number until ordered is =
    let by = quiet_by graph log node number until is in
    let event = silence_event graph log node number by.time by.silent in
    omega (arith, by.says.is, event.at, number_by_now log number event.event ordered event.there)

module _ (graph : Tfpg) (log : Logbook) (reach : List ℕ) (node : ℕ) (ordered : IsOrdered log) where
  -- no fact gives a greater lower bound than after now
  pub low_by_now : (reason : Reason) (bound : ℕ) → fact (case_of graph log reach) reason ≡ Some (at_least node bound) → bound ≤ now_of log + 1
  low_by_now reason bound is = elim (low_cause graph log reach node bound reason is) [
    | inl start ↦ omega arith
    | inr others ↦ elim others [
      | inl unreached ↦ omega (arith, unreached.by_now, unreached.is)
      | inr events ↦ elim events [
        | inl alarmed ↦ omega (arith, alarmed.is, left_by_now graph log node alarmed.number alarmed.interval alarmed.leaves ordered)
        | inr silenced ↦ omega (arith, silenced.is, quiet_by_now graph log node silenced.number silenced.time ordered silenced.at)
      ]
    ]
  ]

module _ (graph : Tfpg) (log : Logbook) (reach : List ℕ) (node : ℕ) where
  -- where the set reaches the node, none gives a greater one than its alarms and silences
  pub low_of_events : is_among reach node ≡ true → (least : ℕ) →
      ((number : ℕ) (interval : Interval) → Leaves graph log node number interval → interval.earliest ≤ least) →
      ((number time : ℕ) → quiet_at graph log number node ≡ Some time → time + 1 ≤ least) →
      (reason : Reason) (bound : ℕ) → fact (case_of graph log reach) reason ≡ Some (at_least node bound) → bound ≤ least
  low_of_events reached least alarms silences reason bound is = elim (low_cause graph log reach node bound reason is) [
    | inl start ↦ omega arith
    | inr others ↦ elim others [
      | inl unreached ↦ (let outside = unreached.outside in absurd cc)
      | inr events ↦ elim events [
        | inl alarmed ↦ omega (arith, alarmed.is, alarms alarmed.number alarmed.interval alarmed.leaves)
        | inr silenced ↦ omega (arith, silenced.is, silences silenced.number silenced.time silenced.at)
      ]
    ]
  ]

-- a node that the set does not reach is not active by now
pub unreached_stated : (graph : Tfpg) (log : Logbook) (reach : List ℕ) (node : ℕ) → node < length graph.nodes → is_among reach node ≡ false →
    fact (case_of graph log reach) (Unreached node (now_of log)) ≡ Some (at_least node (now_of log + 1))
unreached_stated graph log reach node within outside =
    let test : (ltb node (length graph.nodes) && (leb (now_of log) (now_of log) && not (is_among reach node))) ≡ true =
    and_from (ltb node (length graph.nodes)) (leb (now_of log) (now_of log) && not (is_among reach node)) (lt-ltb node (length graph.nodes) within)
    (and_from (leb (now_of log) (now_of log)) (not (is_among reach node)) (le-leb (now_of log) (now_of log) (omega arith)) (ap not outside)) in
    ap (λ (b : Bool). then_some b (at_least node (now_of log + 1))) test

module _ (graph : Tfpg) (log : Logbook) (node number : ℕ) (interval : Interval) (leaves : Leaves graph log node number interval) where
  -- the instants that an alarm leaves bound the node's time from below,
  pub from_stated : (reach : List ℕ) → fact (case_of graph log reach) (From number) ≡ Some (at_least node interval.earliest)
  from_stated reach = ap (option_and_then (from_alarm graph log)) leaves.alarm ∙ ap (option_map (λ (i : Interval). at_least node i.earliest)) leaves.left

  -- and from above
  pub upto_stated : (reach : List ℕ) → fact (case_of graph log reach) (Upto number) ≡ Some (at_most node (pos interval.latest))
  upto_stated reach = ap (option_and_then (upto_alarm graph log)) leaves.alarm ∙ ap (option_map (λ (i : Interval). at_most node (pos i.latest))) leaves.left

  -- no fact gives a lesser upper bound than the first alarm
  pub high_of_first : (reach : List ℕ) → IsOrdered log → alarm_event log node ≡ Some number →
      (reason : Reason) (bound : ℕ) → fact (case_of graph log reach) reason ≡ Some (at_most node (pos bound)) → interval.latest ≤ bound
  high_of_first reach ordered first reason bound is = ⊎_elim
      (λ (top : bound ≡ NEVER). omega (arith, left_by_now graph log node number interval leaves ordered, now_in_range log ordered))
      (λ (active : IsActiveBy graph log node bound).
      let own = interval_is graph log node leaves.time interval leaves.left in
      let other = interval_is graph log node active.leaves.time active.interval active.leaves.left in
      let at = alarm_event_is log node number first in
      let same : Alarm at.0 node ≡ Alarm leaves.time node = cc (at.1, leaves.alarm) in
      let times : at.0 ≡ leaves.time = ap time_of_event same in
      omega (
        arith,
        times,
        own.latest,
        other.latest,
        active.is,
        first_is_earliest log ordered node at.0 active.number active.leaves.time at.2 active.leaves.alarm,
      ))
      (high_cause graph log reach node bound reason is)

  -- no alarm leaves a later beginning than the last
  pub low_of_last : IsOrdered log → IsLastAlarm log node (Some number) → (other : ℕ) (earlier : Interval) → Leaves graph log node other earlier → earlier.earliest ≤ interval.earliest
  low_of_last ordered last other earlier also =
      omega (
        arith,
        (interval_is graph log node leaves.time interval leaves.left).earliest,
        (interval_is graph log node also.time earlier also.left).earliest,
        last_alarm_is_latest log node number last ordered leaves.time other also.time leaves.alarm also.alarm,
      )

module _ (graph : Tfpg) (log : Logbook) (node : ℕ) where
  -- an ignored node's alarms leave nothing
  pub ignored_leaves_none : is_ignored log node ≡ true → (number : ℕ) (interval : Interval) → Leaves graph log node number interval → ⊥
  ignored_leaves_none ignored number interval leaves =
      both_ways (is_ignored log node) (interval_is graph log node leaves.time interval leaves.left).heard ignored

  -- nor does a node without an alarm
  pub unalarmed_leaves_none : alarm_event log node ≡ None → (number : ℕ) (interval : Interval) → Leaves graph log node number interval → ⊥
  unalarmed_leaves_none none number interval leaves =
      let first = alarm_event_first log node number leaves.time leaves.alarm in
      let some = first.1 in
      absurd cc

  -- so there is no upper bound but never
  pub high_of_none : (alarm_event log node ≡ None) ⊎ (is_ignored log node ≡ true) → (reach : List ℕ) (reason : Reason) (bound : ℕ)
      → fact (case_of graph log reach) reason ≡ Some (at_most node (pos bound)) → bound ≡ NEVER
  high_of_none nothing reach reason bound is = ⊎_elim
      (λ (top : bound ≡ NEVER). top)
      (λ (active : IsActiveBy graph log node bound). absurd (⊎_elim
      (λ (none : alarm_event log node ≡ None). unalarmed_leaves_none none active.number active.interval active.leaves)
      (λ (ignored : is_ignored log node ≡ true). ignored_leaves_none ignored active.number active.interval active.leaves) nothing))
      (high_cause graph log reach node bound reason is)

  -- nor any lower bound by alarms
  pub low_of_none : (last : Option ℕ) → IsLastAlarm log node last → (last ≡ None) ⊎ (is_ignored log node ≡ true) → (number : ℕ) (interval : Interval) → Leaves graph log node number interval → ⊥
  low_of_none last is nothing number interval leaves = ⊎_elim
      (λ (none : last ≡ None). subst (IsLastAlarm log node) none is number leaves.time leaves.alarm)
      (λ (ignored : is_ignored log node ≡ true). ignored_leaves_none ignored number interval leaves) nothing

  -- the first alarm is an alarm,
  pub first_there : (first : Option ℕ) → first ≡ alarm_event log node → IfSome first (λ number. (time : ℕ) × (event_at log number ≡ Some (Alarm time node)))
  first_there None is = tt
  first_there (Some number) is = let at = alarm_event_is log node number (sym is) in (at.0, at.1)

  -- and so is the last
  pub last_there : (last : Option ℕ) → IsLastAlarm log node last → IfSome last (λ number. (time : ℕ) × (event_at log number ≡ Some (Alarm time node)))
  last_there None is = tt
  last_there (Some number) is = (is.time, is.alarm)
