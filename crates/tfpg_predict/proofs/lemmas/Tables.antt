-- How the kept events are found, step by step.
use Rattle.std.proofs.Common.{◌≡◌, ℕ, zero, suc, ◌+◌, ◌-◌, ◌<◌, ◌≤◌, Bool, true, false, cond, List, [], ◌∷◌, ◌++◌, length, map, filter, drop, Option, Some, None, refl, sym, ap, ◌∙◌, subst, arith, append_assoc, append-nil, ⊎_elim}
use Rattle.std.specs.Prelude.{slice_index_or, MatchOption}
use Rattle.std.specs.Option.{option_map_or}
use Rattle.std.specs.List.{range_with_len}
use Rattle.std.proofs.lemmas.Bool.{false≢true, cases_lt, eq-eqb}
use Rattle.std.proofs.lemmas.List.FromFn.{length-map-range_with_len, get_or-map-range_with_len}
use Rattle.std.proofs.lemmas.List.{map_push, drop_more, drop_all}
use Rattle.std.proofs.lemmas.Option.{get_or_from_slice_get}
use Rattle.tfpg_base.proofs.lemmas.lists.Elements.{slice_get-there}
use Rattle.tfpg_base.proofs.lemmas.lists.Filtered.{filter-push_yes, filter-push_no}
use Rattle.tfpg_base.specs.Trials.{greatest}
use Rattle.tfpg_base.proofs.lemmas.lists.Trials.{IsGreatest, NonePassesUpTo, greatest_there, greatest_from, greatest_found}
use Rattle.tfpg_graph.specs.Graph.{Tfpg}
use Rattle.tfpg_log.specs.declared.event.Event.{Event}
use Rattle.tfpg_log.specs.declared.event.Event.TheVariants.{Alarm, Silent, Sweep, Tick, Mode}
use Rattle.tfpg_log.specs.Log.{Logbook, event_at, is_alarm_of}
use Rattle.tfpg_log.specs.LastAlarm.{IsLastAlarm}
use Rattle.tfpg_log.proofs.lemmas.events.AlarmIndexes.{alarm_is}
use Rattle.tfpg_log.proofs.lemmas.events.NodesEvents.{event_within}
use Rattle.tfpg_predict.specs.Kept.{kept_events}
use Rattle.tfpg_predict.proofs.lemmas.keeping.SameKept.{same_kept}
use Rattle.tfpg_predict.specs.inside.KeptEvents.{is_at, is_alarm_at, last_alarm, last_silence, kept_silences, kept_of_number, kept_after_number, kept_by_numbers, kept_by, kept_at, silences_upto, silences_at}

-- ---- the greatest number, from above

module _ (passes : ℕ → Bool) where
  -- a number that passes is the greatest up to itself
  pub greatest_here : (number : ℕ) → passes number ≡ true → greatest passes number ≡ Some number
  greatest_here zero is = ap (λ b. cond b (Some 0) None) is
  greatest_here (suc number) is = ap (λ b. cond b (Some (suc number)) (greatest passes number)) is

  -- one that does not is passed over
  pub greatest_past : (number : ℕ) → 0 < number → passes number ≡ false → greatest passes number ≡ greatest passes (number - 1)
  greatest_past zero some fails = absurd (omega (arith, some))
  greatest_past (suc number) some fails =
      let same : number ≡ suc number - 1 = omega arith in
      ap (λ b. cond b (Some (suc number)) (greatest passes number)) fails ∙ ap (greatest passes) same

  pub greatest_none : (number : ℕ) → number ≤ 0 → passes 0 ≡ false → greatest passes number ≡ None
  greatest_none number zero_at fails = let same : 0 ≡ number = omega (arith, zero_at) in subst (λ n. greatest passes n ≡ None) same (ap (λ b. cond b (Some 0) None) fails)

-- ---- the last alarm

module _ (log : Logbook) (node : ℕ) where
  alarm_there : (number : ℕ) (event : Option Event) → event_at log number ≡ event → option_map_or (is_alarm_of node) event false ≡ true
      → (time : ℕ) × (event_at log number ≡ Some (Alarm time node))
  alarm_there number None at is = absurd (false≢true is)
  alarm_there number (Some event) at is = (_, at ∙ ap Some (alarm_is node event is))

  -- The last alarm by its look-up is the last one.
  pub last_alarm_is : (found : Option ℕ) → IsLastAlarm log node found → found ≡ last_alarm log node
  last_alarm_is None none = by (greatest (is_alarm_at log node) (length log.events)) refl (greatest_found (is_alarm_at log node) (length log.events))
    where
      by : (other : Option ℕ) → greatest (is_alarm_at log node) (length log.events) ≡ other → MatchOption other (NonePassesUpTo (is_alarm_at log node) (length log.events)) (IsGreatest (is_alarm_at log node) (length log.events))
          → None ≡ last_alarm log node
      by None is found = sym is
      by (Some number) is found = let there = alarm_there number (event_at log number) refl found.here in absurd (none number there.0 there.1)
  last_alarm_is (Some number) last =
      let within = event_within log (Alarm last.time node) number last.alarm in
      let here : is_alarm_at log node number ≡ true = ap (λ (e : Option Event). option_map_or (is_alarm_of node) e false) last.alarm ∙ eq-eqb node node refl in
      let great = greatest_there (is_alarm_at log node) (length log.events) number within here in
      let there = alarm_there great.0 (event_at log great.0) refl great.2.here in
      let from = greatest_from (is_alarm_at log node) (length log.events) great.0 number great.2 within here in
      let upto : great.0 ≤ number = ⊎_elim (λ above. absurd (last.last great.0 there.0 above there.1)) (λ upto. upto) (cases_lt number great.0) in
      let same : number ≡ great.0 = omega (arith, from, upto) in
      ap Some same ∙ sym great.1

-- ---- the silences of the nodes so far

-- a range with one number more
range_more : (first count : ℕ) → range_with_len first (count + 1) ≡ range_with_len first count ++ (first + count) ∷ []
range_more first zero = let same : first ≡ first + 0 = omega arith in ap (λ (n : ℕ). n ∷ []) same
range_more first (suc count) =
    let longer : suc count + 1 ≡ suc (count + 1) = omega arith in
    let same : first + 1 + count ≡ first + suc count = omega arith in
    ap (range_with_len first) longer
    ∙ ap (λ (numbers : List ℕ). first ∷ numbers) (range_more (first + 1) count ∙ ap (λ (n : ℕ). range_with_len (first + 1) count ++ n ∷ []) same)

module _ (last : List (Option ℕ)) (number time : ℕ) where
  abbrev is_silent : ℕ → Bool
  is_silent node = is_at (slice_index_or last node None) number

  range_next : (count : ℕ) → range_with_len 0 (count + 1) ≡ range_with_len 0 count ++ count ∷ []
  range_next count = let same : 0 + count ≡ count = omega arith in range_more 0 count ∙ ap (λ (n : ℕ). range_with_len 0 count ++ n ∷ []) same

  -- one node more, whose last silence has the number
  pub silences_more : (count : ℕ) → is_silent count ≡ true → silences_upto last number time (count + 1) ≡ silences_upto last number time count ++ Silent time count ∷ []
  silences_more count here =
      ap (λ (nodes : List ℕ). map (λ node. Silent time node) (filter is_silent nodes)) (range_next count)
      ∙ ap (map (λ node. Silent time node)) (filter-push_yes is_silent (range_with_len 0 count) count here)
      ∙ map_push (λ node. Silent time node) (filter is_silent (range_with_len 0 count)) count

  -- and one whose last silence has another
  pub silences_same : (count : ℕ) → is_silent count ≡ false → silences_upto last number time (count + 1) ≡ silences_upto last number time count
  silences_same count elsewhere =
      ap (λ (nodes : List ℕ). map (λ node. Silent time node) (filter is_silent nodes)) (range_next count)
      ∙ ap (map (λ node. Silent time node)) (filter-push_no is_silent (range_with_len 0 count) count elsewhere)

  -- So a turn of the loop adds the silence of its node, where that is kept.
  pub silences_turn : (count : ℕ) (start before after : List Event) → before ≡ start ++ silences_upto last number time count
      → after ≡ before ++ cond (is_silent count) (Silent time count ∷ []) [] → after ≡ start ++ silences_upto last number time (count + 1)
  silences_turn count start before after is more = by (is_silent count) refl more
    where
      by : (b : Bool) → is_silent count ≡ b → after ≡ before ++ cond b (Silent time count ∷ []) [] → after ≡ start ++ silences_upto last number time (count + 1)
      by true here next =
          next ∙ ap (λ (events : List Event). events ++ Silent time count ∷ []) is ∙ append_assoc start (silences_upto last number time count) (Silent time count ∷ [])
          ∙ ap (λ (events : List Event). start ++ events) (sym (silences_more count here))
      by false elsewhere next = next ∙ append-nil before ∙ is ∙ ap (λ (events : List Event). start ++ events) (sym (silences_same count elsewhere))

-- ---- the kept events so far

module _ (graph : Tfpg) (log : Logbook) (last : List (Option ℕ)) (are : last ≡ map (last_silence graph log) (range_with_len 0 (length graph.nodes))) where
  last_of : (node : ℕ) → node < length graph.nodes → slice_index_or last node None ≡ last_silence graph log node
  last_of node within =
      ap (λ (found : List (Option ℕ)). slice_index_or found node None) are
      ∙ get_or-map-range_with_len (last_silence graph log) 0 (length graph.nodes) node node None within (omega arith)

  -- the silences by the table are those by the log
  by_table : (number first count : ℕ) → first + count ≤ length graph.nodes
      → filter (λ node. is_at (slice_index_or last node None) number) (range_with_len first count) ≡ filter (λ node. is_at (last_silence graph log node) number) (range_with_len first count)
  by_table number first zero within = refl
  by_table number first (suc count) within =
      let here : slice_index_or last first None ≡ last_silence graph log first = last_of first (omega (arith, within)) in
      let rest = by_table number (first + 1) count (omega (arith, within)) in
      λ i. cond (is_at (here i) number) (first ∷ rest i) (rest i)

  silences_are : (number time : ℕ) → silences_at last number time ≡ kept_silences graph log number time
  silences_are number time =
      ap (silences_upto last number time) (ap length are ∙ length-map-range_with_len (last_silence graph log) 0 (length graph.nodes))
      ∙ ap (map (λ node. Silent time node)) (by_table number 0 (length graph.nodes) (omega arith))

  kept_same : (number : ℕ) (event : Event) → kept_by log last number event ≡ kept_of_number graph log number event
  kept_same number (Alarm time node) = refl
  kept_same number (Silent time node) = silences_are number time
  kept_same number (Sweep time) = silences_are number time
  kept_same number (Tick time) = refl
  kept_same number (Mode time mode) = refl

  -- What is kept of the next event, and then what is kept of the events that are left.
  pub kept_next : (index : ℕ) → index < length log.events
      → kept_after_number graph log index (drop index log.events) ≡ kept_at log last (index + 1) ++ kept_after_number graph log (index + 1) (drop (index + 1) log.events)
  kept_next index within =
      let there = slice_get-there log.events index within in
      let next : suc index ≡ index + 1 = omega arith in
      let at : event_at log (index + 1) ≡ Some there.0 = ap (event_at log) (sym next) ∙ there.1 in
      ap (kept_after_number graph log index) (drop_more log.events index there.0 within
      ∙ ap (λ (e : Event). e ∷ drop (index + 1) log.events) (get_or_from_slice_get log.events index there.0 there.0 there.1))
      ∙ ap (λ (n : ℕ). kept_of_number graph log n there.0 ++ kept_after_number graph log n (drop (index + 1) log.events)) next
      ∙ ap (λ (events : List Event). events ++ kept_after_number graph log (index + 1) (drop (index + 1) log.events))
      (sym (ap (λ (e : Option Event). option_map_or (kept_by log last (index + 1)) e []) at ∙ kept_same (index + 1) there.0))

  -- So a turn of the loop adds what is kept of its event.
  pub kept_turn : (index : ℕ) (event : Event) (before after : List Event) → event_at log (index + 1) ≡ Some event
      → kept_by_numbers graph log ≡ before ++ kept_after_number graph log index (drop index log.events) → after ≡ before ++ kept_by log last (index + 1) event
      → kept_by_numbers graph log ≡ after ++ kept_after_number graph log (index + 1) (drop (index + 1) log.events)
  kept_turn index event before after at is more =
      let within : index < length log.events = let upto = event_within log event (index + 1) at in omega (arith, upto) in
      let here : kept_at log last (index + 1) ≡ kept_by log last (index + 1) event = ap (λ (e : Option Event). option_map_or (kept_by log last (index + 1)) e []) at in
      is ∙ ap (λ (events : List Event). before ++ events) (kept_next index within)
      ∙ sym (append_assoc before (kept_at log last (index + 1)) (kept_after_number graph log (index + 1) (drop (index + 1) log.events)))
      ∙ ap (λ (events : List Event). events ++ kept_after_number graph log (index + 1) (drop (index + 1) log.events)) (ap (λ (events : List Event). before ++ events) here ∙ sym more)

  -- At the end all are there.
  pub kept_done : (index : ℕ) (events : List Event) → length log.events ≤ index → kept_by_numbers graph log ≡ events ++ kept_after_number graph log index (drop index log.events)
      → events ≡ kept_events graph log
  kept_done index events past_it is =
      sym (append-nil events) ∙ ap (λ (rest : List Event). events ++ kept_after_number graph log index rest) (sym (drop_all index log.events past_it)) ∙ sym is ∙ sym (same_kept graph log)
