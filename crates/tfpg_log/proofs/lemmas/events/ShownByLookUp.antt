-- What a trace shows of alarms and silences is what it shows by the look-ups of the log.
use Rattle.std.proofs.Common.{◌≡◌, ◌↔◌, ℕ, ◌-◌, Bool, true, false, not, List, Some, None, IsTrue, inl, inr, refl, sym, ap, subst, ◌∙◌, ⊎_elim, arith}
use Rattle.std.specs.Bool.{then_some}
use Rattle.std.proofs.lemmas.Bool.{false≢true}
use Rattle.std.proofs.lemmas.Option.{same_Some}
use Rattle.tfpg_base.specs.declared.activation.Activation.{Activation}
use Rattle.tfpg_graph.specs.Graph.{Tfpg, lag_or_zero, is_monitored}
use Rattle.tfpg_log.specs.declared.interval.Interval.{Interval}
use Rattle.tfpg_log.specs.Log.{Logbook, is_ignored, interval_before, alarm_interval, inactive_until}
use Rattle.tfpg_log.specs.Rules.{IsActive}
use Rattle.tfpg_log.specs.Explains.{IsActivatedBefore, ShowsAlarm, ShowsSilence}
use Rattle.tfpg_log.specs.inside.ShownByLookUp.{IsActivatedIn, KeepsInterval, KeepsInactive}
use Rattle.tfpg_log.proofs.lemmas.events.AlarmIntervals.{interval_is}
use Rattle.tfpg_log.proofs.lemmas.events.SilenceTimes.{inactive_says, says_inactive}

module _ (graph : Tfpg) (log : Logbook) (trace : List Activation) (node time : ℕ) where
  -- ---- alarms

  -- An alarm that is shown of a node that is not ignored is shown by when the node became active.
  pub shows_alarm_heard : is_ignored log node ≡ false → ShowsAlarm graph log trace node time
      → IsActivatedBefore trace node (lag_or_zero graph node) time
  shows_alarm_heard heard shows = ⊎_elim (λ ignored. absurd (false≢true (sym heard ∙ ignored))) (λ active. active) shows.1

  -- An alarm that is shown leaves only instants of which the node became active at one.
  pub shows_alarm_by_interval : ShowsAlarm graph log trace node time → KeepsInterval graph log trace node time
  shows_alarm_by_interval shows interval left =
      let is = interval_is graph log node time interval left in
      let active = shows_alarm_heard is.heard shows in
      let from = active.2 in
      let upto = active.3 in
      (active.0, active.1, omega (arith, is.earliest, from), omega (arith, is.latest, upto))

  -- and the other way round
  pub shows_alarm_from_interval : IsTrue (is_monitored graph node) → KeepsInterval graph log trace node time
      → ShowsAlarm graph log trace node time
  shows_alarm_from_interval monitored keeps = by (is_ignored log node) refl
    where
      by : (b : Bool) → is_ignored log node ≡ b → ShowsAlarm graph log trace node time
      by true ignored = (monitored, inl ignored)
      by false heard = (
        monitored,
        inr
            (keeps (interval_before (lag_or_zero graph node) time)
            (ap (λ b. then_some (not b) (interval_before (lag_or_zero graph node) time)) heard)),
      )

  -- An alarm is shown exactly where its node is monitored, and became active at one of the instants that it leaves, if it leaves any.
  pub alarm_is_shown : ShowsAlarm graph log trace node time ↔ (IsTrue (is_monitored graph node) × KeepsInterval graph log trace node time)
  alarm_is_shown = (λ shows. (shows.0, shows_alarm_by_interval shows), λ keeps. shows_alarm_from_interval keeps.0 keeps.1)

  -- Where an alarm leaves these instants, and the node became active at one of them, it is shown.
  pub shows_alarm_in : IsTrue (is_monitored graph node) → (interval : Interval) → alarm_interval graph log node time ≡ Some interval
      → IsActivatedIn trace node interval
      → ShowsAlarm graph log trace node time
  shows_alarm_in monitored interval left active =
      shows_alarm_from_interval monitored
      (λ other also. subst (IsActivatedIn trace node) (same_Some interval other (sym left ∙ also)) active)

  -- Where it leaves none, it is shown.
  pub shows_alarm_unheard : IsTrue (is_monitored graph node) → alarm_interval graph log node time ≡ None
      → ShowsAlarm graph log trace node time
  shows_alarm_unheard monitored none = shows_alarm_from_interval monitored (λ interval left. absurd cc)

  -- ---- silences

  -- A silence that is shown says of an instant only that the node is not active by it.
  pub shows_silence_by_instant : ShowsSilence graph log trace node time → KeepsInactive graph log trace node time
  shows_silence_by_instant shows until said active =
      let says = inactive_says graph log node time until said in
      ⊎_elim (λ ignored. false≢true (sym says.heard ∙ ignored)) (λ quiet. quiet until (omega (arith, says.is, says.late)) active) shows

  -- and the other way round
  pub shows_silence_from_instant : KeepsInactive graph log trace node time → ShowsSilence graph log trace node time
  shows_silence_from_instant keeps = by (is_ignored log node) refl
    where
      by : (b : Bool) → is_ignored log node ≡ b → ShowsSilence graph log trace node time
      by true ignored = inl ignored
      by false heard = inr
          (λ x is active.
          let upto = active.2 in
          keeps (time - (lag_or_zero graph node).least) (says_inactive graph log node time heard (omega (arith, is)))
          (active.0, active.1, omega (arith, is, upto)))

  -- A silence is shown exactly where its node is not active by the instant up to which it says so, if it says anything.
  pub silence_is_shown : ShowsSilence graph log trace node time ↔ KeepsInactive graph log trace node time
  silence_is_shown = (shows_silence_by_instant, shows_silence_from_instant)

  -- Where a silence says that the node is not active by this instant, and it is not, it is shown.
  pub shows_silence_until : (until : ℕ) → inactive_until graph log node time ≡ Some until → (IsActive trace node until → ⊥)
      → ShowsSilence graph log trace node time
  shows_silence_until until said quiet =
      shows_silence_from_instant (λ other also active. quiet (subst (IsActive trace node) (same_Some other until (sym also ∙ said)) active))

  -- Where it says nothing, it is shown.
  pub shows_silence_unheard : inactive_until graph log node time ≡ None → ShowsSilence graph log trace node time
  shows_silence_unheard none = shows_silence_from_instant (λ until said active. absurd cc)

  -- A silence of which it cannot be that it is not shown is shown.
  pub shows_silence_unless : ((ShowsSilence graph log trace node time → ⊥) → ⊥) → ShowsSilence graph log trace node time
  shows_silence_unless unless =
      shows_silence_from_instant (λ until said active. unless (λ shows. shows_silence_by_instant shows until said active))
