-- What stands among the kept events.
use Rattle.std.proofs.Common.{◌≡◌, ℕ, zero, suc, ◌+◌, ◌<◌, nat_lt, Bool, true, false, cond, List, [], ◌∷◌, ◌++◌, length, map, filter, All, Contains, Option, Some, None, slice_get, refl, sym, ap, ◌∙◌, subst, arith}
use Rattle.std.specs.List.{range_with_len}
use Rattle.std.proofs.lemmas.Bool.{false≢true, eqb-true, eq-eqb}
use Rattle.std.proofs.lemmas.List.Elements.{All-nil, All-append, Contains-append_left, Contains-append_right}
use Rattle.std.proofs.lemmas.List.FromFn.{length-range_with_len, get_or-range_with_len}
use Rattle.std.proofs.lemmas.Option.{same_Some, slice_get_within, slice_get-get_or}
use Rattle.tfpg_base.proofs.lemmas.lists.Elements.{All-from_members}
use Rattle.tfpg_base.proofs.lemmas.lists.Images.{Contains-map, Contains-map_only}
use Rattle.tfpg_base.proofs.lemmas.lists.Passing.{Contains-filter, Contains-filter_only}
use Rattle.tfpg_graph.specs.Graph.{Tfpg}
use Rattle.tfpg_log.specs.declared.event.Event.{Event}
use Rattle.tfpg_log.specs.declared.event.Event.TheVariants.{Alarm, Silent, Sweep, Tick, Mode}
use Rattle.tfpg_log.specs.Log.{Logbook, mode_after}
use Rattle.tfpg_predict.specs.inside.KeptEvents.{is_at, last_silence, is_kept_alarm, kept_silences, kept_of_number, kept_after_number, kept_by_numbers}

-- a number that is there is this one
pub at_number : (found : Option ℕ) (number : ℕ) → is_at found number ≡ true → found ≡ Some number
at_number None number is = absurd (false≢true is)
at_number (Some other) number is = ap Some (eqb-true other number is)

pub at_itself : (found : Option ℕ) (number : ℕ) → found ≡ Some number → is_at found number ≡ true
at_itself found number is = ap (λ (o : Option ℕ). is_at o number) is ∙ eq-eqb number number refl

-- a number below the end stands in a range
pub in_range : (len number : ℕ) → number < len → slice_get (range_with_len 0 len) number ≡ Some number
in_range len number within =
    slice_get-get_or (range_with_len 0 len) number 0 (omega (arith, length-range_with_len 0 len, within))
    ∙ ap Some (let is = get_or-range_with_len 0 len number 0 within in omega (arith, is))

module _ (graph : Tfpg) (log : Logbook) where
  -- the events stand in the log after so many others
  abbrev StandAfter : ℕ → List Event → Type 0
  StandAfter number events = (index : ℕ) (event : Event) → slice_get events index ≡ Some event → slice_get log.events (number + index) ≡ Some event

  first_stands : (number : ℕ) (event : Event) (events : List Event) → StandAfter number (event ∷ events) → slice_get log.events number ≡ Some event
  first_stands number event events stand = let same : number + 0 ≡ number = omega arith in ap (slice_get log.events) (sym same) ∙ stand 0 event refl

  others_stand : (number : ℕ) (event : Event) (events : List Event) → StandAfter number (event ∷ events) → StandAfter (suc number) events
  others_stand number event events stand index other at =
      let same : suc number + index ≡ number + suc index = omega arith in
      ap (slice_get log.events) same ∙ stand (suc index) other at

  all_stand : StandAfter 0 log.events
  all_stand index event at = let same : 0 + index ≡ index = omega arith in ap (slice_get log.events) same ∙ at

  -- ---- what holds of all kept events

  module _ (Q : Event → Type 0) (each : (index : ℕ) (event kept : Event) → slice_get log.events index ≡ Some event → Contains (kept_of_number graph log (suc index) event) kept → Q kept) where
    all_after : (number : ℕ) (events : List Event) → StandAfter number events → All Q (kept_after_number graph log number events)
    all_after number [] stand = All-nil Q
    all_after number (event ∷ events) stand =
        All-append Q (kept_of_number graph log (suc number) event) (kept_after_number graph log (suc number) events)
        (All-from_members Q (kept_of_number graph log (suc number) event) (λ kept among. each number event kept (first_stands number event events stand) among))
        (all_after (suc number) events (others_stand number event events stand))

    pub all_kept : All Q (kept_by_numbers graph log)
    all_kept = all_after 0 log.events all_stand

  -- ---- what is kept of an event stands among the kept events

  among_after : (number : ℕ) (events : List Event) (index : ℕ) (event kept : Event) → slice_get events index ≡ Some event
      → Contains (kept_of_number graph log (suc (number + index)) event) kept → Contains (kept_after_number graph log number events) kept
  among_after number [] index event kept at among = absurd (omega (arith, slice_get_within [] index event at))
  among_after number (first ∷ events) zero event kept at among =
      let here : first ≡ event = same_Some first event at in
      let same : suc (number + 0) ≡ suc number = omega arith in
      Contains-append_left (kept_of_number graph log (suc number) first) (kept_after_number graph log (suc number) events) kept
      (subst (λ (e : Event). Contains (kept_of_number graph log (suc number) e) kept) (sym here) (subst (λ (n : ℕ). Contains (kept_of_number graph log n event) kept) same among))
  among_after number (first ∷ events) (suc index) event kept at among =
      let same : suc (number + suc index) ≡ suc (suc number + index) = omega arith in
      Contains-append_right (kept_of_number graph log (suc number) first) (kept_after_number graph log (suc number) events) kept
      (among_after (suc number) events index event kept at (subst (λ (n : ℕ). Contains (kept_of_number graph log n event) kept) same among))

  pub among_kept : (index : ℕ) (event kept : Event) → slice_get log.events index ≡ Some event
      → Contains (kept_of_number graph log (suc index) event) kept → Contains (kept_by_numbers graph log) kept
  among_kept index event kept at among =
      let same : suc (0 + index) ≡ suc index = omega arith in
      among_after 0 log.events index event kept at (subst (λ (n : ℕ). Contains (kept_of_number graph log n event) kept) (sym same) among)

  -- ---- silences

  -- a kept silence is one of a node of which this is the last silence
  pub record IsKeptSilence (number time : ℕ) (kept : Event) : Type 0 where
    pub node : ℕ
    pub is : Silent time node ≡ kept
    pub last : last_silence graph log node ≡ Some number

  pub silence_kept : (number time : ℕ) (kept : Event) → Contains (kept_silences graph log number time) kept → IsKeptSilence number time kept
  silence_kept number time kept among =
      let found = Contains-map_only (λ node. Silent time node) (filter (λ node. is_at (last_silence graph log node) number) (range_with_len 0 (length graph.nodes))) kept among in
      let passes = Contains-filter_only (λ node. is_at (last_silence graph log node) number) (range_with_len 0 (length graph.nodes)) found.0 found.1 in
      record { node = found.0; is = found.2; last = at_number (last_silence graph log found.0) number passes.2 }

  pub kept_silence : (number time node : ℕ) → node < length graph.nodes → last_silence graph log node ≡ Some number
      → Contains (kept_silences graph log number time) (Silent time node)
  kept_silence number time node within last =
      Contains-map (λ n. Silent time n) (filter (λ n. is_at (last_silence graph log n) number) (range_with_len 0 (length graph.nodes))) node
      (Contains-filter (λ n. is_at (last_silence graph log n) number) (range_with_len 0 (length graph.nodes)) node node (in_range (length graph.nodes) node within)
      (at_itself (last_silence graph log node) number last))

  -- ---- modes

  -- the nodes of which the event of a number is the last silence
  abbrev last_silent : ℕ → List ℕ
  last_silent number = filter (λ node. is_at (last_silence graph log node) number) (range_with_len 0 (length graph.nodes))

  -- silences leave the modes as they are
  pub modes_past_silences : (time held instant : ℕ) (nodes : List ℕ) (events : List Event)
      → mode_after held (map (λ node. Silent time node) nodes ++ events) instant ≡ mode_after held events instant
  modes_past_silences time held instant [] events = refl
  modes_past_silences time held instant (node ∷ nodes) events = modes_past_silences time held instant nodes events

  modes_after : (held number instant : ℕ) (events : List Event) → mode_after held (kept_after_number graph log number events) instant ≡ mode_after held events instant
  modes_after held number instant [] = refl
  modes_after held number instant (Alarm time node ∷ events) = by (is_kept_alarm log node (suc number)) (modes_after held (suc number) instant events)
    where
      by : (b : Bool) → mode_after held (kept_after_number graph log (suc number) events) instant ≡ mode_after held events instant
          → mode_after held (cond b (Alarm time node ∷ []) [] ++ kept_after_number graph log (suc number) events) instant ≡ mode_after held events instant
      by true rest = rest
      by false rest = rest
  modes_after held number instant (Silent time node ∷ events) =
      modes_past_silences time held instant (last_silent (suc number)) (kept_after_number graph log (suc number) events) ∙ modes_after held (suc number) instant events
  modes_after held number instant (Sweep time ∷ events) =
      modes_past_silences time held instant (last_silent (suc number)) (kept_after_number graph log (suc number) events) ∙ modes_after held (suc number) instant events
  modes_after held number instant (Tick time ∷ events) = modes_after held (suc number) instant events
  modes_after held number instant (Mode time mode ∷ events) = modes_after (cond (nat_lt time instant) mode held) (suc number) instant events

  pub modes_kept : (instant : ℕ) → mode_after 0 (kept_by_numbers graph log) instant ≡ mode_after 0 log.events instant
  modes_kept instant = modes_after 0 0 instant log.events
