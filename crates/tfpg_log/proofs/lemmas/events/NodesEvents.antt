-- Which events bound when a node became active, as one more event comes.
use Rattle.std.proofs.Common.{◌≡◌, ℕ, zero, suc, ◌<◌, ◌≤◌, false, [], ◌∷◌, length, Option, Some, None, ◌⊎◌, inl, inr, refl, sym, ap, subst, ◌∙◌, arith}
use Rattle.std.specs.Prelude.{option_map}
use Rattle.std.proofs.lemmas.Bool.{false≢true, eq-eqb}
use Rattle.std.proofs.lemmas.Option.{slice_get_within}
use Rattle.tfpg_base.proofs.lemmas.lists.Positions.{position-push_no}
use Rattle.tfpg_base.proofs.lemmas.lists.Written.{slice_get-push_cases}
use Rattle.tfpg_log.specs.declared.event.Event.{Event}
use Rattle.tfpg_log.specs.declared.event.Event.TheVariants.{Alarm, Silent, Sweep}
use Rattle.tfpg_log.specs.declared.node_events.NodeEvents.{NodeEvents}
use Rattle.tfpg_log.specs.Log.{Logbook, event_at, with_event, is_alarm_of, alarm_among, alarm_event}
use Rattle.tfpg_log.specs.inside.NodeEvents.{IsLast, IsAlarm, IsOwnSilence, IsSweep, IsSweepBefore, IsNodeEvents, with_alarm_after, with_alarm}
use Rattle.tfpg_log.proofs.lemmas.events.Events.{event_at-with_event, event_at-last}
use Rattle.tfpg_log.proofs.lemmas.events.AlarmIndexes.{alarm_index_new}
use Rattle.tfpg_log.proofs.lemmas.events.AlarmEvents.{alarm_event_within, alarm_event_none}
use Rattle.tfpg_log.proofs.lemmas.events.PastKept.{alarm_events_kept}

-- ---- the last number of which something holds

-- what holds of the same numbers has the same last one
pub last_carried : (P Q : ℕ → Type 0) (result : Option ℕ) → ((number : ℕ) → P number → Q number) → ((number : ℕ) → Q number → P number)
    → IsLast P result → IsLast Q result
last_carried P Q None forth back none = λ number holds. none number (back number holds)
last_carried P Q (Some last) forth back is = (forth last is.0, λ later above holds. is.1 later above (back later holds))

-- a number that no other is above is the last
last_at : (P : ℕ → Type 0) (last : ℕ) → P last → ((number : ℕ) → P number → number ≤ last) → IsLast P (Some last)
last_at P last holds upto = (holds, λ later above also. absurd (omega (arith, above, upto later also)))

-- ---- the events of a log with one more

-- an event of the longer log was there, or is the one more
event_cases : (log : Logbook) (event x : Event) (number : ℕ) → event_at (with_event log event) number ≡ Some x
    → (event_at log number ≡ Some x) ⊎ ((number ≡ suc (length log.events)) × (event ≡ x))
event_cases log event x zero e = absurd cc
event_cases log event x (suc before) e = elim (slice_get-push_cases log.events event before x e) [
  | inl old ↦ inl old
  | inr new ↦ inr (ap suc new.0, new.1)
]

-- an event has one of the numbers of the log
pub event_within : (log : Logbook) (x : Event) (number : ℕ) → event_at log number ≡ Some x → number ≤ length log.events
event_within log x zero e = absurd cc
event_within log x (suc before) e = omega (arith, slice_get_within log.events before x e)

module _ (log : Logbook) (event : Event) where
  -- ---- alarms

  no_alarm : (node : ℕ) → is_alarm_of node event ≡ false → (time : ℕ) → event ≡ Alarm time node → ⊥
  no_alarm node quiet time e = false≢true (sym quiet ∙ ap (is_alarm_of node) e ∙ eq-eqb node node refl)

  last_alarm_kept : (node : ℕ) (result : Option ℕ) → is_alarm_of node event ≡ false → IsLast (IsAlarm log node) result
      → IsLast (IsAlarm (with_event log event) node) result
  last_alarm_kept node result quiet is =
      last_carried (IsAlarm log node) (IsAlarm (with_event log event) node) result
      (λ number alarm. (alarm.0, event_at-with_event log number (Alarm alarm.0 node) event alarm.1))
      (λ number alarm. elim (event_cases log event (Alarm alarm.0 node) number alarm.1) [
        | inl old ↦ (alarm.0, old)
        | inr new ↦ absurd (no_alarm node quiet alarm.0 new.1)
      ])
      is

  -- ---- silences

  last_silence_kept : (node : ℕ) (result : Option ℕ) → ((time : ℕ) → event ≡ Silent time node → ⊥) → IsLast (IsOwnSilence log node) result
      → IsLast (IsOwnSilence (with_event log event) node) result
  last_silence_kept node result other is =
      last_carried (IsOwnSilence log node) (IsOwnSilence (with_event log event) node) result
      (λ number silence. (silence.0, event_at-with_event log number (Silent silence.0 node) event silence.1))
      (λ number silence. elim (event_cases log event (Silent silence.0 node) number silence.1) [
        | inl old ↦ (silence.0, old)
        | inr new ↦ absurd (other silence.0 new.1)
      ])
      is

  -- ---- sweeps

  sweep_kept : (number : ℕ) → IsSweep log number → IsSweep (with_event log event) number
  sweep_kept number sweep = (sweep.0, event_at-with_event log number (Sweep sweep.0) event sweep.1)

  -- An event that is no sweep leaves the last one.
  pub last_sweep_kept : (result : Option ℕ) → ((time : ℕ) → event ≡ Sweep time → ⊥) → IsLast (IsSweep log) result
      → IsLast (IsSweep (with_event log event)) result
  last_sweep_kept result other is =
      last_carried (IsSweep log) (IsSweep (with_event log event)) result sweep_kept
      (λ number sweep. elim (event_cases log event (Sweep sweep.0) number sweep.1) [
        | inl old ↦ (sweep.0, old)
        | inr new ↦ absurd (other sweep.0 new.1)
      ])
      is

  -- so does any event leave the last before an alarm that was there
  last_sweep_before_kept : (alarm : ℕ) (result : Option ℕ) → alarm ≤ length log.events → IsLast (IsSweepBefore log alarm) result
      → IsLast (IsSweepBefore (with_event log event) alarm) result
  last_sweep_before_kept alarm result within is =
      last_carried (IsSweepBefore log alarm) (IsSweepBefore (with_event log event) alarm) result
      (λ number sweep. (sweep_kept number sweep.0, sweep.1))
      (λ number sweep. elim (event_cases log event (Sweep sweep.0.0) number sweep.0.1) [
        | inl old ↦ ((sweep.0.0, old), sweep.1)
        | inr new ↦ absurd (omega (arith, within, new.0, sweep.1))
      ])
      is

  -- ---- the node that the event is not about

  alarm_event_kept : (node : ℕ) → is_alarm_of node event ≡ false → alarm_event (with_event log event) node ≡ alarm_event log node
  alarm_event_kept node quiet = ap (option_map suc) (position-push_no (is_alarm_of node) log.events event quiet)

  sweeps_kept : (node : ℕ) (result : Option ℕ) → is_alarm_of node event ≡ false
      → ((alarm : ℕ) → alarm_event log node ≡ Some alarm → IsLast (IsSweepBefore log alarm) result)
      → (alarm : ℕ) → alarm_event (with_event log event) node ≡ Some alarm → IsLast (IsSweepBefore (with_event log event) alarm) result
  sweeps_kept node result quiet sweep alarm e =
      let at : alarm_event log node ≡ Some alarm = sym (alarm_event_kept node quiet) ∙ e in
      last_sweep_before_kept alarm result ((alarm_event_within log node alarm at).1) (sweep alarm at)

  -- An event that is no alarm and no silence of the node leaves what is kept of it.
  pub node_kept : (node : ℕ) (events : NodeEvents) → is_alarm_of node event ≡ false → ((time : ℕ) → event ≡ Silent time node → ⊥)
      → IsNodeEvents log node events
      → IsNodeEvents (with_event log event) node events
  node_kept node events quiet other is = record {
    first_alarm = is.first_alarm ∙ sym (alarm_event_kept node quiet);
    last_alarm = last_alarm_kept node events.last_alarm quiet is.last_alarm;
    silence = last_silence_kept node events.silence other is.silence;
    sweep = sweeps_kept node events.sweep quiet is.sweep;
  }

module _ (log : Logbook) (time number : ℕ) (at : number ≡ suc (length log.events)) where
  -- A sweep is the last one.
  pub last_sweep_new : IsLast (IsSweep (with_event log (Sweep time))) (Some number)
  last_sweep_new =
      last_at (IsSweep (with_event log (Sweep time))) number
      (time, ap (event_at (with_event log (Sweep time))) at ∙ event_at-last log (Sweep time))
      (λ other sweep. elim (event_cases log (Sweep time) (Sweep sweep.0) other sweep.1) [
        | inl old ↦ omega (arith, at, event_within log (Sweep sweep.0) other old)
        | inr new ↦ omega (arith, at, new.0)
      ])

  module _ (node : ℕ) (events : NodeEvents) (is : IsNodeEvents log node events) where
    last_silence_new : IsLast (IsOwnSilence (with_event log (Silent time node)) node) (Some number)
    last_silence_new =
        last_at (IsOwnSilence (with_event log (Silent time node)) node) number
        (time, ap (event_at (with_event log (Silent time node))) at ∙ event_at-last log (Silent time node))
        (λ other silence. elim (event_cases log (Silent time node) (Silent silence.0 node) other silence.1) [
          | inl old ↦ omega (arith, at, event_within log (Silent silence.0 node) other old)
          | inr new ↦ omega (arith, at, new.0)
        ])

    -- A silence of the node is its last one.
    pub node_silenced : IsNodeEvents (with_event log (Silent time node)) node
        (record { first_alarm = events.first_alarm; last_alarm = events.last_alarm; silence = Some number; sweep = events.sweep })
    node_silenced = record {
      first_alarm = is.first_alarm ∙ sym (alarm_event_kept log (Silent time node) node refl);
      last_alarm = last_alarm_kept log (Silent time node) node events.last_alarm refl is.last_alarm;
      silence = last_silence_new;
      sweep = sweeps_kept log (Silent time node) node events.sweep refl is.sweep;
    }

    last_alarm_new : IsLast (IsAlarm (with_event log (Alarm time node)) node) (Some number)
    last_alarm_new =
        last_at (IsAlarm (with_event log (Alarm time node)) node) number
        (time, ap (event_at (with_event log (Alarm time node))) at ∙ event_at-last log (Alarm time node))
        (λ other alarm. elim (event_cases log (Alarm time node) (Alarm alarm.0 node) other alarm.1) [
          | inl old ↦ omega (arith, at, event_within log (Alarm alarm.0 node) other old)
          | inr new ↦ omega (arith, at, new.0)
        ])

    own_silence_kept : IsLast (IsOwnSilence (with_event log (Alarm time node)) node) events.silence
    own_silence_kept = last_silence_kept log (Alarm time node) node events.silence (λ t e. absurd cc) is.silence

    -- at the first alarm of the node, the last sweep so far is the last before it
    first_alarmed : (sweep : Option ℕ) → events.first_alarm ≡ None → IsLast (IsSweep log) sweep
        → IsNodeEvents (with_event log (Alarm time node)) node
        (record { first_alarm = Some number; last_alarm = Some number; silence = events.silence; sweep = sweep })
    first_alarmed sweep none last = record {
      first_alarm = sym alarm;
      last_alarm = last_alarm_new;
      silence = own_silence_kept;
      sweep = λ other e.
          last_carried (IsSweep log) (IsSweepBefore (with_event log (Alarm time node)) other) sweep
          (λ n swept. (sweep_kept log (Alarm time node) n swept, before other e n swept))
          (λ n swept. elim (event_cases log (Alarm time node) (Sweep swept.0.0) n swept.0.1) [
            | inl old ↦ (swept.0.0, old)
            | inr new ↦ absurd (other_event swept.0.0 new.1)
          ])
          last;
    }
      where
        first : alarm_among log.events node ≡ None
        first = alarm_event_none log node (sym is.first_alarm ∙ none)

        alarm : alarm_event (with_event log (Alarm time node)) node ≡ Some number
        alarm = ap (option_map suc) (alarm_index_new log.events time node first) ∙ ap Some (sym at)

        before : (other : ℕ) → alarm_event (with_event log (Alarm time node)) node ≡ Some other → (n : ℕ) → IsSweep log n → n < other
        before other e n swept =
            let same : other ≡ number = cc (alarm, e) in
            omega (arith, at, same, event_within log (Sweep swept.0) n swept.1)

        other_event : (t : ℕ) → Alarm time node ≡ Sweep t → ⊥
        other_event t e = absurd cc

    -- a later alarm of the node leaves its first, and the last sweep before that
    alarmed_again : (first : ℕ) → events.first_alarm ≡ Some first
        → IsNodeEvents (with_event log (Alarm time node)) node
        (record { first_alarm = Some first; last_alarm = Some number; silence = events.silence; sweep = events.sweep })
    alarmed_again first there = record {
      first_alarm = sym kept;
      last_alarm = last_alarm_new;
      silence = own_silence_kept;
      sweep = λ other e.
          let same : first ≡ other = cc (kept, e) in
          subst (λ n. IsLast (IsSweepBefore (with_event log (Alarm time node)) n) events.sweep) same
          (last_sweep_before_kept log (Alarm time node) first events.sweep (alarm_event_within log node first was).1 (is.sweep first was));
    }
      where
        was : alarm_event log node ≡ Some first
        was = sym is.first_alarm ∙ there

        kept : alarm_event (with_event log (Alarm time node)) node ≡ Some first
        kept =
            alarm_events_kept log (with_event log (Alarm time node))
            (record { more = Alarm time node ∷ []; events = refl; ignored = refl }) node first was

    alarmed_by : (first sweep : Option ℕ) → events.first_alarm ≡ first → IsLast (IsSweep log) sweep
        → IsNodeEvents (with_event log (Alarm time node)) node (with_alarm_after first events number sweep)
    alarmed_by None sweep none last = first_alarmed sweep none last
    alarmed_by (Some first) sweep there last = alarmed_again first there

    -- An alarm of the node is its last one.
    pub node_alarmed : (sweep : Option ℕ) → IsLast (IsSweep log) sweep
        → IsNodeEvents (with_event log (Alarm time node)) node (with_alarm events number sweep)
    node_alarmed sweep last = alarmed_by events.first_alarm sweep refl last
