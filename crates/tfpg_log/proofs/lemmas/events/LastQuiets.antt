-- The last silence of a node is the later of its own last one and of the last sweep that is one; and the last event that
-- says up to which instant a node is not active is its last silence, or there is none.
use Rattle.std.proofs.Common.{◌≡◌, ℕ, ◌-◌, ◌<◌, ◌≤◌, max, true, cond, eqb, take, Option, Some, None, ◌⊎◌, inl, inr, refl, sym, ap, subst, ◌∙◌, arith}
use Rattle.std.specs.Prelude.{◌&&◌, is_none, option_and_then}
use Rattle.std.proofs.lemmas.Bool.{eqb-true, eq-eqb, lt-ltb, ltb-true, cases_lt, and_from, and_parts}
use Rattle.std.proofs.lemmas.Option.{cond_some}
use Rattle.tfpg_base.proofs.lemmas.lists.Choices.{none-from_never}
use Rattle.tfpg_graph.specs.Graph.{Tfpg, is_monitored, lag_or_zero}
use Rattle.tfpg_log.specs.declared.event.Event.{Event}
use Rattle.tfpg_log.specs.declared.event.Event.TheVariants.{Alarm, Silent, Sweep, Tick, Mode}
use Rattle.tfpg_log.specs.Log.{Logbook, event_at, first_events, alarm_among, alarm_event, IsOrdered, inactive_until, silence_time, quiet_at}
use Rattle.tfpg_log.specs.Quiet.{IsLastQuiet}
use Rattle.tfpg_log.specs.inside.NodeEvents.{IsLast, IsOwnSilence, IsSweep, IsSweepBefore, IsSilence, IsSwept, later_of}
use Rattle.tfpg_log.proofs.lemmas.events.AlarmEvents.{alarm_event_is, none_before_alarm, none_before_none}
use Rattle.tfpg_log.proofs.lemmas.events.NodesEvents.{last_carried}
use Rattle.tfpg_log.proofs.lemmas.events.SilenceTimes.{quiet_by, says_inactive, silences_in_order}

-- ---- sweeps

module _ (graph : Tfpg) (log : Logbook) (node : ℕ) (monitored : is_monitored graph node ≡ true) where
  swept_where : (number : ℕ) → IsSweep log number → is_none (alarm_among (take (number - 1) log.events) node) ≡ true
      → IsSwept graph log node number
  swept_where number sweep none =
      (sweep, and_from (is_monitored graph node) (is_none (alarm_among (take (number - 1) log.events) node)) monitored none)

  -- none of the events before it is an alarm, where it is before the alarm
  before_alarm : (alarm number : ℕ) → alarm_event log node ≡ Some alarm → number < alarm
      → is_none (alarm_among (take (number - 1) log.events) node) ≡ true
  before_alarm alarm number e lt = none_before_alarm log (number - 1) node alarm e ∙ lt-ltb (number - 1) alarm (omega (arith, lt))

  -- a sweep that silences the node is before its alarm
  swept_before : (alarm number : ℕ) → alarm_event log node ≡ Some alarm → IsSwept graph log node number → number < alarm
  swept_before alarm number e swept =
      let none : is_none (alarm_among (take (number - 1) log.events) node) ≡ true =
      (and_parts (is_monitored graph node) (is_none (alarm_among (take (number - 1) log.events) node)) swept.1).1 in
      let lt : number - 1 < alarm = ltb-true (number - 1) alarm (sym (none_before_alarm log (number - 1) node alarm e) ∙ none) in
      let is = alarm_event_is log node alarm e in
      elim (cases_lt number alarm) [
        | inl below ↦ below
        | inr above ↦ (
            let same : alarm ≡ number = omega (arith, lt, above) in
            let both : Some (Alarm is.0 node) ≡ Some (Sweep swept.0.0) = sym is.1 ∙ ap (event_at log) same ∙ swept.0.1 in
            absurd cc)
      ]

  -- The last sweep before the alarm is the last that silences the node.
  pub last_swept_before : (alarm : ℕ) (result : Option ℕ) → alarm_event log node ≡ Some alarm → IsLast (IsSweepBefore log alarm) result
      → IsLast (IsSwept graph log node) result
  last_swept_before alarm result e is =
      last_carried (IsSweepBefore log alarm) (IsSwept graph log node) result
      (λ number sweep. swept_where number sweep.0 (before_alarm alarm number e sweep.1))
      (λ number swept. (swept.0, swept_before alarm number e swept)) is

  -- Without an alarm it is the last sweep.
  pub last_swept_ever : (result : Option ℕ) → alarm_event log node ≡ None → IsLast (IsSweep log) result
      → IsLast (IsSwept graph log node) result
  last_swept_ever result e is =
      last_carried (IsSweep log) (IsSwept graph log node) result
      (λ number sweep. swept_where number sweep (none_before_none log (number - 1) node e))
      (λ number swept. swept.0) is

-- ---- the later of two

module _ (P Q : ℕ → Type 0) where
  later_of_both : (one other : ℕ) → IsLast P (Some one) → IsLast Q (Some other)
      → IsLast (λ number. P number ⊎ Q number) (Some (max one other))
  later_of_both one other first second = (
    elim (cases_lt one other) [
      | inl lt ↦ (let at : other ≡ max one other = omega (arith, lt) in subst (λ number. P number ⊎ Q number) at (inr second.0))
      | inr ge ↦ (let at : one ≡ max one other = omega (arith, ge) in subst (λ number. P number ⊎ Q number) at (inl first.0))
    ],
    λ later above holds. elim holds [
      | inl p ↦ first.1 later (omega (arith, above)) p
      | inr q ↦ second.1 later (omega (arith, above)) q
    ],
  )

  -- The last number of which one of two things holds is the later of the last of each.
  last_of_either : (one other : Option ℕ) → IsLast P one → IsLast Q other → IsLast (λ number. P number ⊎ Q number) (later_of one other)
  last_of_either None None first second = λ number holds. elim holds [
    | inl p ↦ first number p
    | inr q ↦ second number q
  ]
  last_of_either None (Some other) first second = (
    inr second.0,
    λ later above holds. elim holds [
      | inl p ↦ first later p
      | inr q ↦ second.1 later above q
    ],
  )
  last_of_either (Some one) None first second = (
    inl first.0,
    λ later above holds. elim holds [
      | inl p ↦ first.1 later above p
      | inr q ↦ second later q
    ],
  )
  last_of_either (Some one) (Some other) first second = later_of_both one other first second

-- ---- silences

module _ (graph : Tfpg) (log : Logbook) (node : ℕ) where
  own_silences : (number : ℕ) → IsOwnSilence log node number → IsSilence graph log node number
  own_silences number silence = (
    silence.0,
    ap (option_and_then (λ event. silence_time graph (first_events log (number - 1)) event node)) silence.1
        ∙ ap (λ b. cond b (Some silence.0) None) (eq-eqb node node refl),
  )

  swept_silences : (number : ℕ) → IsSwept graph log node number → IsSilence graph log node number
  swept_silences number swept = (
    swept.0.0,
    ap (option_and_then (λ event. silence_time graph (first_events log (number - 1)) event node)) swept.0.1
        ∙ ap (λ b. cond b (Some swept.0.0) None) swept.1,
  )

  by_event : (number time : ℕ) (event : Option Event) → event_at log number ≡ event
      → option_and_then (λ event. silence_time graph (first_events log (number - 1)) event node) event ≡ Some time
      → IsOwnSilence log node number ⊎ IsSwept graph log node number
  by_event number time None at e = absurd cc
  by_event number time (Some (Alarm own alarmed)) at e = absurd cc
  by_event number time (Some (Silent own silent)) at e =
      let same : silent ≡ node = eqb-true silent node (cond_some (eqb silent node) own time e).0 in
      inl (own, at ∙ ap (λ n. Some (Silent own n)) same)
  by_event number time (Some (Sweep own)) at e =
      inr ((own, at), (cond_some (is_monitored graph node && is_none (alarm_among (take (number - 1) log.events) node)) own time e).0)
  by_event number time (Some (Tick own)) at e = absurd cc
  by_event number time (Some (Mode own mode)) at e = absurd cc

  silences_by : (number : ℕ) → IsSilence graph log node number → IsOwnSilence log node number ⊎ IsSwept graph log node number
  silences_by number silence = by_event number silence.0 (event_at log number) refl silence.1

  -- The last silence of a node is the later of its own last one and of the last sweep that is one.
  pub last_silence_is : (one other : Option ℕ) → IsLast (IsOwnSilence log node) one → IsLast (IsSwept graph log node) other
      → IsLast (IsSilence graph log node) (later_of one other)
  last_silence_is one other own swept =
      last_carried (λ number. IsOwnSilence log node number ⊎ IsSwept graph log node number) (IsSilence graph log node) (later_of one other)
      (λ number either. elim either [
        | inl silence ↦ own_silences number silence
        | inr sweep ↦ swept_silences number sweep
      ])
      silences_by (last_of_either (IsOwnSilence log node) (IsSwept graph log node) one other own swept)

  -- ---- the last silence that says up to which instant the node is not active

  is_silence : (number until : ℕ) → quiet_at graph log number node ≡ Some until → IsSilence graph log node number
  is_silence number until e = let by = quiet_by graph log node number until e in (by.time, by.silent)

  -- A node without a silence is nowhere said not to be active.
  pub none_quiet : IsLast (IsSilence graph log node) None → IsLastQuiet graph log node None
  none_quiet none = λ number. none-from_never (quiet_at graph log number node) (λ until e. none number (is_silence number until e))

  module _ (number : ℕ) (last : IsLast (IsSilence graph log node) (Some number)) where
    -- If the last silence says so, it is the last that does.
    pub last_says : (until : ℕ) → quiet_at graph log number node ≡ Some until → IsLastQuiet graph log node (Some number)
    last_says until says = record {
      time = until;
      silent = says;
      last = λ later above. none-from_never (quiet_at graph log later node) (λ other e. last.1 later above (is_silence later other e));
    }

    upto_last : (other until : ℕ) → quiet_at graph log other node ≡ Some until → other ≤ number
    upto_last other until e = elim (cases_lt number other) [
      | inl lt ↦ absurd (last.1 other lt (is_silence other until e))
      | inr ge ↦ ge
    ]

    -- And if it does not, none does: a silence before it comes no later.
    pub last_says_nothing : IsOrdered log → quiet_at graph log number node ≡ None → IsLastQuiet graph log node None
    last_says_nothing ordered nothing other =
        none-from_never (quiet_at graph log other node) (λ until e.
        let by = quiet_by graph log node other until e in
        let order = silences_in_order graph log ordered node other number by.time last.0.0 by.silent last.0.1 (upto_last other until e) in
        let says : quiet_at graph log number node ≡ Some (last.0.0 - (lag_or_zero graph node).least) =
        ap (option_and_then (inactive_until graph log node)) last.0.1
        ∙ says_inactive graph log node last.0.0 by.says.heard (omega (arith, order, by.says.late)) in
        absurd cc)
