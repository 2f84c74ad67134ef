-- What events say of when a node is not active: the last that says so speaks of the greatest instant.
use Rattle.std.proofs.Common.{◌≡◌, ℕ, zero, suc, ◌-◌, ◌≤◌, false, not, leb, get_or, Option, Some, None, inl, inr, refl, sym, ap, ◌∙◌, arith}
use Rattle.std.specs.Prelude.{◌&&◌, option_and_then, slice_get}
use Rattle.std.specs.Bool.{then_some}
use Rattle.std.proofs.lemmas.Bool.{cases_lt, and_parts, and_from, not-true, leb-true, le-leb}
use Rattle.std.proofs.lemmas.Option.{cond_some, option_and_then_some, slice_get_within, get_or_from_slice_get}
use Rattle.tfpg_base.proofs.lemmas.lists.Choices.{then_some-true}
use Rattle.tfpg_graph.specs.Graph.{Tfpg, lag_or_zero}
use Rattle.tfpg_log.specs.declared.event.Event.{Event}
use Rattle.tfpg_log.specs.Log.{Logbook, GoesOn, IsOrdered, event_at, first_events, is_silence_of, is_ignored, silence_time, silence_at, inactive_until, quiet_at, time_of_event}
use Rattle.tfpg_log.specs.Quiet.{IsLastQuiet}
use Rattle.tfpg_log.proofs.lemmas.events.NodesEvents.{event_within}
use Rattle.tfpg_log.proofs.lemmas.events.PastKept.{quiets_kept}

-- An event that is a silence of a node is one at its own time.
pub silence_time_is : (graph : Tfpg) (before : Logbook) (event : Event) (node time : ℕ) → silence_time graph before event node ≡ Some time
    → time ≡ time_of_event event
silence_time_is graph before event node time e = sym (cond_some (is_silence_of graph before node event) (time_of_event event) time e).1

-- the event of a number that is a silence of a node
pub record IsSilenceAt (log : Logbook) (number time : ℕ) : Type 0 where
  pub event : Event
  pub there : event_at log number ≡ Some event
  pub at : time ≡ time_of_event event

-- What a silence says: the node is not ignored, and is not active up to its least lag before.
pub record SaysInactive (graph : Tfpg) (log : Logbook) (node time until : ℕ) : Type 0 where
  pub heard : is_ignored log node ≡ false
  pub late : (lag_or_zero graph node).least ≤ time
  pub is : until ≡ time - (lag_or_zero graph node).least

-- the silence of a node that says up to which instant it is not active
pub record IsQuietBy (graph : Tfpg) (log : Logbook) (node number until : ℕ) : Type 0 where
  pub time : ℕ
  pub silent : silence_at graph log number node ≡ Some time
  pub until_is : inactive_until graph log node time ≡ Some until
  pub says : SaysInactive graph log node time until

module _ (graph : Tfpg) (log : Logbook) (node : ℕ) where
  by_event : (number time : ℕ) (event : Option Event) → event_at log number ≡ event
      → option_and_then (λ event. silence_time graph (first_events log (number - 1)) event node) event ≡ Some time
      → IsSilenceAt log number time
  by_event number time None there e = absurd cc
  by_event number time (Some event) there e =
      record { event = event; there = there; at = silence_time_is graph (first_events log (number - 1)) event node time e }

  -- A silence of a node has the time of its event.
  pub silence_event : (number time : ℕ) → silence_at graph log number node ≡ Some time → IsSilenceAt log number time
  silence_event number time e = by_event number time (event_at log number) refl e

  -- what a silence says, by what is said of it
  pub inactive_says : (time until : ℕ) → inactive_until graph log node time ≡ Some until → SaysInactive graph log node time until
  inactive_says time until e =
      let parts =
      then_some-true (not (is_ignored log node) && leb (lag_or_zero graph node).least time)
      (time - (lag_or_zero graph node).least) until e in
      let both = and_parts (not (is_ignored log node)) (leb (lag_or_zero graph node).least time) parts.0 in
      record {
        heard = not-true (is_ignored log node) both.0;
        late = leb-true (lag_or_zero graph node).least time both.1;
        is = sym parts.1;
      }

  -- and the other way round
  pub says_inactive : (time : ℕ) → is_ignored log node ≡ false → (lag_or_zero graph node).least ≤ time
      → inactive_until graph log node time ≡ Some (time - (lag_or_zero graph node).least)
  says_inactive time heard late =
      ap (λ b. then_some b (time - (lag_or_zero graph node).least))
      (and_from (not (is_ignored log node)) (leb (lag_or_zero graph node).least time) (ap not heard)
      (le-leb (lag_or_zero graph node).least time late))

  -- An event that says that a node is not active is a silence of it.
  pub quiet_by : (number until : ℕ) → quiet_at graph log number node ≡ Some until → IsQuietBy graph log node number until
  quiet_by number until e =
      option_and_then_some (inactive_until graph log node) (silence_at graph log number node) until e
      (λ time at rest. record { time = time; silent = at; until_is = rest; says = inactive_says time until rest })

-- An event of a log is not later than one after it.
pub not_later : (log : Logbook) → IsOrdered log → (number other : ℕ) (event next : Event) → event_at log number ≡ Some event
    → event_at log other ≡ Some next → number ≤ other
    → time_of_event event ≤ time_of_event next
not_later log ordered zero other event next at also upto = absurd cc
not_later log ordered (suc number) zero event next at also upto = absurd cc
not_later log ordered (suc number) (suc other) event next at also upto = elim (cases_lt number other) [
  | inl lt ↦ (
      let first : time_of_event (get_or log.events number event) ≡ time_of_event event =
      ap time_of_event (get_or_from_slice_get log.events number event event at) in
      let second : time_of_event (get_or log.events other event) ≡ time_of_event next =
      ap time_of_event (get_or_from_slice_get log.events other next event also) in
      omega (arith, first, second, ordered.in_order number other event lt (slice_get_within log.events other next also)))
  | inr ge ↦ (
      let same : number ≡ other = omega (arith, ge, upto) in
      let is : Some event ≡ Some next = sym at ∙ ap (slice_get log.events) same ∙ also in
      let times : time_of_event event ≡ time_of_event next = cc in
      omega (arith, times))
]

-- silences of a node come in the order of their events
pub silences_in_order : (graph : Tfpg) (log : Logbook) → IsOrdered log → (node number other time later : ℕ)
    → silence_at graph log number node ≡ Some time
    → silence_at graph log other node ≡ Some later → number ≤ other → time ≤ later
silences_in_order graph log ordered node number other time later silent also upto =
    let is = silence_event graph log node number time silent in
    let next = silence_event graph log node other later also in
    omega (arith, is.at, next.at, not_later log ordered number other is.event next.event is.there next.there upto)

module _ (graph : Tfpg) (log : Logbook) (node number : ℕ) (last : IsLastQuiet graph log node (Some number)) where
  -- no later event says so
  upto_last : (other time : ℕ) → quiet_at graph log other node ≡ Some time → other ≤ number
  upto_last other time e = elim (cases_lt number other) [
    | inl lt ↦ (let none : quiet_at graph log other node ≡ None = last.last other lt in absurd cc)
    | inr ge ↦ ge
  ]

  -- The last event that says that a node is not active speaks of the greatest instant.
  pub last_is_latest : IsOrdered log → (time other earlier : ℕ) → quiet_at graph log number node ≡ Some time
      → quiet_at graph log other node ≡ Some earlier → earlier ≤ time
  last_is_latest ordered time other earlier e also =
      let is = quiet_by graph log node number time e in
      let before = quiet_by graph log node other earlier also in
      omega (
        arith,
        is.says.is,
        before.says.is,
        silences_in_order graph log ordered node other number before.time is.time before.silent is.silent (upto_last other earlier also),
      )

-- In a log that goes on the last event that says so of a node is the same or a later one.
pub last_never_falls : (graph : Tfpg) (earlier later : Logbook) → GoesOn earlier later → (node number : ℕ)
    → IsLastQuiet graph earlier node (Some number) → (last : Option ℕ)
    → IsLastQuiet graph later node last → (other : ℕ) × (last ≡ Some other) × (number ≤ other)
last_never_falls graph earlier later goes_on node number was last is_last = by last is_last
  where
    same : quiet_at graph later number node ≡ Some was.time
    same =
        let is =
        silence_event graph earlier node number (quiet_by graph earlier node number was.time was.silent).time
        (quiet_by graph earlier node number was.time was.silent).silent in
        quiets_kept graph earlier later goes_on number node (event_within earlier is.event number is.there) ∙ was.silent

    by : (last : Option ℕ) → IsLastQuiet graph later node last → (other : ℕ) × (last ≡ Some other) × (number ≤ other)
    by None never = let none = never number in absurd (cc (same, none))
    by (Some other) is_last = (other, refl, upto_last graph later node other is_last number was.time same)
