-- Whether a trace shows an event is decided, and where it does not, there is what is said of the event.
use Rattle.std.proofs.Common.{◌≡◌, ℕ, suc, ◌<◌, ◌≤◌, cond, ◌&&◌, List, length, Option, Some, None, ◌⊎◌, inl, inr, refl, ap, subst, arith}
use Rattle.std.specs.Prelude.{IsTrue, is_none, is_some}
use Rattle.std.proofs.lemmas.Bool.{eq-eqb, cond-true, and_from, not_from_false}
use Rattle.tfpg_base.specs.declared.activation.Activation.{Activation}
use Rattle.tfpg_base.specs.Trace.{time_of}
use Rattle.tfpg_graph.specs.Graph.{Tfpg, is_monitored}
use Rattle.tfpg_graph.proofs.lemmas.NodeAt.{monitored_within}
use Rattle.tfpg_log.specs.declared.event.Event.{Event}
use Rattle.tfpg_log.specs.declared.event.Event.TheVariants.{Alarm, Silent, Sweep, Tick, Mode}
use Rattle.tfpg_log.specs.declared.interval.Interval.{Interval}
use Rattle.tfpg_log.specs.Log.{Logbook, alarm_of, alarm_interval, inactive_until, silence_time}
use Rattle.tfpg_log.specs.Rules.{IsActive}
use Rattle.tfpg_log.specs.Explains.{ShowsAlarm, ShowsSilence, Shows}
use Rattle.tfpg_log.specs.inside.ShownByLookUp.{IsActivatedIn, KeepsInterval, KeepsInactive}
use Rattle.tfpg_log.proofs.lemmas.events.ShownByLookUp.{alarm_is_shown, silence_is_shown}
use Rattle.tfpg_trace.specs.declared.verdict.Verdict.{Verdict}
use Rattle.tfpg_trace.specs.declared.verdict.Verdict.TheVariants as verdict
use Rattle.tfpg_trace.specs.inside.Shown.{IsNotShown}
use Rattle.tfpg_base.proofs.lemmas.lists.Decided.{IsDecided, first_below, not_decided, both_decided, same_decided, test_decided, le_decided, some_decided, each_decided}
use Rattle.tfpg_trace.proofs.lemmas.RulesDecided.{active_decided}

module _ (graph : Tfpg) (trace : List Activation) where
  -- ---- alarms

  -- the interval of a node's active time is decided
  activated_decided : (node : ℕ) (interval : Interval) → IsDecided (IsActivatedIn trace node interval)
  activated_decided node interval =
      same_decided ((active : ℕ) × (time_of trace node ≡ Some active) × ((interval.earliest ≤ active) × (active ≤ interval.latest)))
      (IsActivatedIn trace node interval)
      (λ is. (is.0, is.1, is.2.0, is.2.1))
      (λ is. (is.0, is.1, (is.2, is.3)))
      (some_decided (λ active. (interval.earliest ≤ active) × (active ≤ interval.latest)) (time_of trace node)
      (λ active.
      both_decided (interval.earliest ≤ active) (active ≤ interval.latest) (le_decided interval.earliest active)
      (le_decided active interval.latest)))

  -- Whether an alarm is shown is decided.
  alarm_decided : (before : Logbook) (node time : ℕ) → IsDecided (ShowsAlarm graph before trace node time)
  alarm_decided before node time =
      same_decided (IsTrue (is_monitored graph node) × KeepsInterval graph before trace node time) (ShowsAlarm graph before trace node time)
      (alarm_is_shown graph before trace node time).1 (alarm_is_shown graph before trace node time).0
      (both_decided (IsTrue (is_monitored graph node)) (KeepsInterval graph before trace node time) (test_decided (is_monitored graph node))
      (each_decided (IsActivatedIn trace node) (alarm_interval graph before node time) (activated_decided node)))

  module _ (before : Logbook) (event : Event) where
    -- ---- silences

    -- Whether a silence is shown is decided.
    silence_decided : (node time : ℕ) → IsDecided (ShowsSilence graph before trace node time)
    silence_decided node time =
        same_decided (KeepsInactive graph before trace node time) (ShowsSilence graph before trace node time)
        (silence_is_shown graph before trace node time).1 (silence_is_shown graph before trace node time).0
        (each_decided (λ until. IsActive trace node until → ⊥) (inactive_until graph before node time)
        (λ until. not_decided (IsActive trace node until) (active_decided trace node until)))

    -- the event is a silence of the node that is not shown
    abbrev IsLoud : ℕ → Type 0
    IsLoud node = (time : ℕ) × (silence_time graph before event node ≡ Some time) × (ShowsSilence graph before trace node time → ⊥)

    -- a silence of the node that the event is, is shown
    abbrev IsQuiet : ℕ → Type 0
    IsQuiet node = (time : ℕ) → silence_time graph before event node ≡ Some time → ShowsSilence graph before trace node time

    loud_or_quiet : (node : ℕ) → IsLoud node ⊎ IsQuiet node
    loud_or_quiet node = by (silence_time graph before event node) refl
      where
        by : (found : Option ℕ) → silence_time graph before event node ≡ found → IsLoud node ⊎ IsQuiet node
        by None none = inr (λ time silent. absurd cc)
        by (Some time) at = elim (silence_decided node time) [
          | inl shown ↦ inr (λ other silent. (let same : time ≡ other = cc in subst (ShowsSilence graph before trace node) same shown))
          | inr hidden ↦ inl (time, at, hidden)
        ]

    -- something is said of the event
    abbrev pub IsFaulty : Type 0
    IsFaulty = (said : Verdict) × IsNotShown graph before trace event said

    -- It is of the first node below a limit that is not quiet, or all of these are.
    silences_decided : (limit : ℕ) → IsFaulty ⊎ ((node : ℕ) → node < limit → IsQuiet node)
    silences_decided limit = elim (first_below IsLoud IsQuiet loud_or_quiet limit) [
      | inl found ↦ inl (
        verdict.Silence found.0 found.1.holds.0,
        inr (
          found.0,
          found.1.holds.0,
          refl,
          record {
            silent = found.1.holds.1;
            not_shown = found.1.holds.2;
            first = λ earlier below. found.1.before earlier below found.1.holds.0;
          },
        ),
      )
      | inr quiet ↦ inr quiet
    ]

  -- Something is said of an event that is not shown.
  pub event_decided : (before : Logbook) (event : Event) → IsFaulty before event ⊎ Shows graph before trace event
  event_decided before (Alarm time node) = elim (alarm_decided before node time) [
    | inl shows ↦ inr shows
    | inr hidden ↦ inl (verdict.Alarm node time, inl (node, time, refl, record { alarm = refl; not_shown = hidden }))
  ]
  event_decided before (Silent time node) = elim (silences_decided before (Silent time node) (suc node)) [
    | inl fault ↦ inl fault
    | inr quiet ↦ inr (quiet node (omega arith) time (ap (λ b. cond b (Some time) None) (eq-eqb node node refl)))
  ]
  event_decided before (Sweep time) = elim (silences_decided before (Sweep time) (length graph.nodes)) [
    | inl fault ↦ inl fault
    | inr quiet ↦ inr (λ node monitored none. quiet node (monitored_within graph node monitored) time
        (cond-true (is_monitored graph node && is_none (alarm_of before node)) (Some time) None
        (and_from (is_monitored graph node) (is_none (alarm_of before node)) monitored
        (not_from_false (is_some (alarm_of before node)) none))))
  ]
  event_decided before (Tick time) = inr tt
  event_decided before (Mode time mode) = inr tt
