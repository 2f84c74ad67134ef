-- What is kept by the events before and after each event is what is kept by the numbers of the first and the last ones.
use Rattle.std.proofs.Common.{◌≡◌, ℕ, zero, suc, ◌+◌, ◌<◌, ◌≤◌, ltb, ◌==◌, ◌&&◌, ◌||◌, not, Bool, true, false, cond, List, [], ◌∷◌, ◌++◌, length, map, filter, take, Option, Some, None, slice_get, ⊎_elim, refl, sym, ap, ◌∙◌, arith, append_assoc, length-append}
use Rattle.std.specs.Prelude.{find, is_none, is_some, MatchOption}
use Rattle.std.specs.List.{range_with_len}
use Rattle.std.specs.Option.{option_map_or}
use Rattle.std.proofs.Math.Seq.{take-append_seam}
use Rattle.std.proofs.lemmas.Bool.{false≢true, both_ways, cases_eq, cases_lt, eq-eqb, ne_eqb, lt-ltb, le-ltb}
use Rattle.std.proofs.lemmas.List.{length_push}
use Rattle.tfpg_base.specs.Trials.{greatest}
use Rattle.tfpg_base.proofs.lemmas.lists.Choices.{is_some-option_map}
use Rattle.tfpg_base.proofs.lemmas.lists.Trials.{IsGreatest, NonePassesUpTo, greatest_there, greatest_from, greatest_found}
use Rattle.tfpg_base.proofs.lemmas.lists.Written.{slice_get-after}
use Rattle.tfpg_graph.specs.Graph.{Tfpg}
use Rattle.tfpg_log.specs.declared.event.Event.{Event}
use Rattle.tfpg_log.specs.declared.event.Event.TheVariants.{Alarm, Silent, Sweep, Tick, Mode}
use Rattle.tfpg_log.specs.Log.{Logbook, event_at, first_events, ignoring, is_alarm_of, alarm_among, alarm_event, is_silence_of, time_of_event}
use Rattle.tfpg_log.proofs.lemmas.events.AlarmEvents.{alarm_event_first, none_before_alarm}
use Rattle.tfpg_clause.proofs.lemmas.traces.FactsMet.{silence_of}
use Rattle.tfpg_predict.specs.Kept.{is_silenced, kept_for, kept_after, kept_events}
use Rattle.tfpg_predict.specs.inside.KeptEvents.{is_at, is_alarm_at, is_silence_at, last_alarm, last_silence, kept_of_number, kept_after_number, kept_by_numbers}

-- ---- the greatest number that passes, by those above

module _ (passes : ℕ → Bool) where
  -- one of so many numbers above this one passes
  abbrev passes_above : ℕ → ℕ → Bool
  passes_above number zero = false
  passes_above number (suc count) = passes (suc number) || passes_above (suc number) count

  record PassesAbove (number limit : ℕ) : Type 0 where
    at : ℕ
    above : number < at
    upto : at ≤ limit
    here : passes at ≡ true

  some_above : (number count : ℕ) → passes_above number count ≡ true → PassesAbove number (number + count)
  some_above number zero is = absurd (false≢true is)
  some_above number (suc count) is = by (passes (suc number)) refl is (some_above (suc number) count)
    where
      by : (b : Bool) → passes (suc number) ≡ b → (b || passes_above (suc number) count) ≡ true
          → (passes_above (suc number) count ≡ true → PassesAbove (suc number) (suc number + count)) → PassesAbove number (number + suc count)
      by true here passed rest = record { at = suc number; above = omega arith; upto = omega arith; here = here }
      by false fails passed rest =
          let found = rest passed in
          record { at = found.at; above = let above = found.above in omega (arith, above); upto = let upto = found.upto in omega (arith, upto); here = found.here }

  none_above : (number count : ℕ) → passes_above number count ≡ false → (at : ℕ) → number < at → at ≤ number + count → passes at ≡ false
  none_above number zero is at above upto = absurd (omega (arith, above, upto))
  none_above number (suc count) is at above upto = by (passes (suc number)) refl is (none_above (suc number) count)
    where
      by : (b : Bool) → passes (suc number) ≡ b → (b || passes_above (suc number) count) ≡ false
          → (passes_above (suc number) count ≡ false → (n : ℕ) → suc number < n → n ≤ suc number + count → passes n ≡ false) → passes at ≡ false
      by true here failed rest = absurd (false≢true (sym failed))
      by false fails failed rest = ⊎_elim
          (λ same. ap passes (sym same) ∙ fails)
          (λ unlike. rest failed at (omega (arith, above, unlike)) (omega (arith, upto)))
          (cases_eq (suc number) at)

  fails_at : (limit number : ℕ) → passes number ≡ false → (found : Option ℕ) → MatchOption found (NonePassesUpTo passes limit) (IsGreatest passes limit) → is_at found number ≡ false
  fails_at limit number fails None none = refl
  fails_at limit number fails (Some other) is = ne_eqb other number (λ same. both_ways (passes number) fails (ap passes (sym same) ∙ is.here))

  -- It is this one where this one passes, and none above it does.
  greatest_at : (number count limit : ℕ) → limit ≡ number + count → is_at (greatest passes limit) number ≡ (passes number && not (passes_above number count))
  greatest_at number count limit end = by (passes number) refl (passes_above number count) refl
    where
      by : (here : Bool) → passes number ≡ here → (above : Bool) → passes_above number count ≡ above → is_at (greatest passes limit) number ≡ (here && not above)
      by false fails above is = fails_at limit number fails (greatest passes limit) (greatest_found passes limit)
      by true here true is =
          let found = some_above number count is in
          let within : number ≤ limit = omega (arith, end) in
          let above = found.above in
          let upto = found.upto in
          let great = greatest_there passes limit number within here in
          let from = greatest_from passes limit great.0 found.at great.2 (omega (arith, upto, end)) found.here in
          ap (λ (o : Option ℕ). is_at o number) great.1 ∙ ne_eqb great.0 number (λ same. omega (arith, same, from, above))
      by true here false is =
          let within : number ≤ limit = omega (arith, end) in
          let great = greatest_there passes limit number within here in
          let from = greatest_from passes limit great.0 number great.2 within here in
          let upto = great.2.within in
          let same : great.0 ≡ number = ⊎_elim
          (λ above. absurd (both_ways (passes great.0) (none_above number count is great.0 above (omega (arith, upto, end))) great.2.here))
          (λ not_above. omega (arith, from, not_above))
          (cases_lt number great.0) in
          ap (λ (o : Option ℕ). is_at o number) great.1 ∙ eq-eqb great.0 number same

not_some : {X : Type 0} (found : Option X) → is_none found ≡ not (is_some found)
not_some None = refl
not_some (Some x) = refl

is_some-cond : {X : Type 0} (b : Bool) (x : X) → is_some (cond b (Some x) None) ≡ b
is_some-cond true x = refl
is_some-cond false x = refl

is_some-first : {X : Type 0} (b : Bool) (x : X) (rest : Option X) → is_some (cond b (Some x) rest) ≡ (b || is_some rest)
is_some-first true x rest = refl
is_some-first false x rest = refl

nothing_passes : {X : Type 0} (xs : List X) → filter (λ x. false) xs ≡ []
nothing_passes [] = refl
nothing_passes (x ∷ xs) = nothing_passes xs

-- ---- events in the middle of a log

module _ (graph : Tfpg) (log : Logbook) where
  -- the log that has these events
  abbrev of_events : List Event → Logbook
  of_events events = record log { events = events }

  -- the events of the log are these, of which there are so many, and then those
  record Parts (number : ℕ) (front later : List Event) : Type 0 where
    count : number ≡ length front
    parts : log.events ≡ front ++ later

  module _ (number : ℕ) (front : List Event) (event : Event) (later : List Event) (are : Parts number front (event ∷ later)) where
    stands : slice_get log.events number ≡ Some event
    stands = ap (slice_get log.events) are.count ∙ ap (λ (events : List Event). slice_get events (length front)) are.parts ∙ slice_get-after front event later

    earlier_are : take number log.events ≡ front
    earlier_are = ap (λ (n : ℕ). take n log.events) are.count ∙ ap (take (length front)) are.parts ∙ take-append_seam front (event ∷ later)

    next_parts : Parts (suc number) (front ++ event ∷ []) later
    next_parts = record {
      count = let count = are.count in omega (arith, count, length_push front event);
      parts = are.parts ∙ sym (append_assoc front (event ∷ []) later);
    }

    end_is : length log.events ≡ suc number + length later
    end_is = let count = are.count in omega (arith, count, ap length are.parts, length-append front (event ∷ later))

    alarm_here : (node : ℕ) → is_alarm_at log node (suc number) ≡ is_alarm_of node event
    alarm_here node = ap (λ (found : Option Event). option_map_or (is_alarm_of node) found false) stands

    silence_here : (node : ℕ) → is_silence_at graph log node (suc number) ≡ is_silence_of graph (of_events front) node event
    silence_here node =
        ap is_some (silence_of graph log number node event stands)
        ∙ is_some-cond (is_silence_of graph (first_events log number) node event) (time_of_event event)
        ∙ ap (λ (events : List Event). is_silence_of graph (of_events events) node event) earlier_are

  -- ---- later events

  alarm_later : (node number : ℕ) (front later : List Event) → Parts number front later → passes_above (is_alarm_at log node) number (length later) ≡ is_some (alarm_among later node)
  alarm_later node number front [] are = refl
  alarm_later node number front (event ∷ later) are =
      (λ i. alarm_here number front event later are node i || alarm_later node (suc number) (front ++ event ∷ []) later (next_parts number front event later are) i)
      ∙ (λ i. is_alarm_of node event || is_some-option_map time_of_event (find (is_alarm_of node) later) i)
      ∙ sym (is_some-first (is_alarm_of node event) event (find (is_alarm_of node) later))
      ∙ sym (is_some-option_map time_of_event (find (is_alarm_of node) (event ∷ later)))

  silence_later : (node number : ℕ) (front later : List Event) → Parts number front later
      → passes_above (is_silence_at graph log node) number (length later) ≡ is_silenced graph (of_events front) later node
  silence_later node number front [] are = refl
  silence_later node number front (event ∷ later) are =
      λ i. silence_here number front event later are node i || silence_later node (suc number) (front ++ event ∷ []) later (next_parts number front event later are) i

  -- ---- what is kept of an event

  module _ (number : ℕ) (front : List Event) (event : Event) (later : List Event) (are : Parts number front (event ∷ later)) where
    last_silence_at : (node : ℕ)
        → (is_silence_of graph (of_events front) node event && not (is_silenced graph (of_events (front ++ event ∷ [])) later node)) ≡ is_at (last_silence graph log node) (suc number)
    last_silence_at node =
        sym (greatest_at (is_silence_at graph log node) (suc number) (length later) (length log.events) (end_is number front event later are)
        ∙ (λ i. silence_here number front event later are node i
        && not (silence_later node (suc number) (front ++ event ∷ []) later (next_parts number front event later are) i)))

    silences_same : (time : ℕ)
        → map (λ node. Silent time node) (filter (λ node. is_silence_of graph (of_events front) node event && not (is_silenced graph (of_events (front ++ event ∷ [])) later node)) (range_with_len 0 (length graph.nodes)))
        ≡ map (λ node. Silent time node) (filter (λ node. is_at (last_silence graph log node) (suc number)) (range_with_len 0 (length graph.nodes)))
    silences_same time = λ i. map (λ node. Silent time node) (filter (λ node. last_silence_at node i) (range_with_len 0 (length graph.nodes)))

  module _ (number time node : ℕ) (front later : List Event) (are : Parts number front (Alarm time node ∷ later)) where
    first_alarm_at : is_none (alarm_among front node) ≡ is_at (alarm_event log node) (suc number)
    first_alarm_at =
        let there : event_at log (suc number) ≡ Some (Alarm time node) = stands number front (Alarm time node) later are in
        let first = alarm_event_first log node (suc number) time there in
        let upto = first.2 in
        let same : ltb number first.0 ≡ (first.0 == suc number) = ⊎_elim
        (λ above. lt-ltb number first.0 above ∙ sym (eq-eqb first.0 (suc number) (omega (arith, above, upto))))
        (λ below. le-ltb number first.0 below ∙ sym (ne_eqb first.0 (suc number) (λ same. omega (arith, same, below))))
        (cases_lt number first.0) in
        ap (λ (events : List Event). is_none (alarm_among events node)) (sym (earlier_are number front (Alarm time node) later are))
        ∙ none_before_alarm log number node first.0 first.1 ∙ same ∙ ap (λ (o : Option ℕ). is_at o (suc number)) (sym first.1)

    last_alarm_at : is_none (alarm_among later node) ≡ is_at (last_alarm log node) (suc number)
    last_alarm_at =
        not_some (alarm_among later node)
        ∙ sym (greatest_at (is_alarm_at log node) (suc number) (length later) (length log.events) (end_is number front (Alarm time node) later are)
        ∙ (λ i. (alarm_here number front (Alarm time node) later are node ∙ eq-eqb node node refl) i
        && not (alarm_later node (suc number) (front ++ Alarm time node ∷ []) later (next_parts number front (Alarm time node) later are) i)))

  same_of : (number : ℕ) (front : List Event) (event : Event) (later : List Event) → Parts number front (event ∷ later)
      → kept_for graph (of_events front) event later ≡ kept_of_number graph log (suc number) event
  same_of number front (Alarm time node) later are =
      λ i. cond (first_alarm_at number time node front later are i || last_alarm_at number time node front later are i) (Alarm time node ∷ []) []
  same_of number front (Silent time node) later are = silences_same number front (Silent time node) later are time
  same_of number front (Sweep time) later are = silences_same number front (Sweep time) later are time
  same_of number front (Tick time) later are = ap (map (λ node. Silent time node)) (nothing_passes (range_with_len 0 (length graph.nodes)))
  same_of number front (Mode time mode) later are = refl

  same_after : (number : ℕ) (front later : List Event) → Parts number front later → kept_after graph (of_events front) later ≡ kept_after_number graph log number later
  same_after number front [] are = refl
  same_after number front (event ∷ later) are =
      λ i. same_of number front event later are i ++ same_after (suc number) (front ++ event ∷ []) later (next_parts number front event later are) i

  -- So the same events are kept.
  pub same_kept : kept_events graph log ≡ kept_by_numbers graph log
  same_kept = same_after 0 [] log.events (record { count = refl; parts = refl })

-- What is kept does not depend on what is ignored.
pub kept_ignoring : (graph : Tfpg) (log : Logbook) (nodes : List ℕ) → kept_events graph (ignoring log nodes) ≡ kept_events graph log
kept_ignoring graph log nodes = same_kept graph (ignoring log nodes) ∙ sym (same_kept graph log)
