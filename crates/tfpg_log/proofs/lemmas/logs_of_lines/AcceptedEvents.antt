-- The line of an event that may come next is accepted as this event.
use Rattle.std.proofs.Common.{◌≡◌, ℕ, ◌<◌, ◌≤◌, false, not, ltb, leb, List, [], ◌∷◌, ◌++◌, length, get_or, IsTrue, Option, Some, None, unwrap_or, codes, refl, ap, ◌∙◌, arith, length-append}
use Rattle.std.specs.Prelude.{decimal, is_none, option_and_then, count_by}
use Rattle.std.specs.Bool.{then_some}
use Rattle.std.specs.Option.{option_map_or}
use Rattle.std.specs.List.{AllByRecursion}
use Rattle.std.specs.Str.Parse.{digits_value}
use Rattle.std.proofs.lemmas.Bool.{le-ltb, lt-leb}
use Rattle.std.proofs.lemmas.List.Elements.{All-nil, All-cons, All-from_recursion}
use Rattle.std.proofs.lemmas.Fmt.{decimal_is_IsNumeral}
use Rattle.std.proofs.lemmas.Option.{slice_get-get_or}
use Rattle.tfpg_base.specs.Choice.{unless_refused}
use Rattle.tfpg_base.specs.Lines.{HasNoLineEnd, is_too_long}
use Rattle.tfpg_base.specs.declared.limits.TheConstants.{LONGEST_LINE, MAX_TIME}
use Rattle.tfpg_base.specs.Words.{line_of, is_name, is_number}
use Rattle.tfpg_base.proofs.lemmas.Numbers.{is_number-decimal}
use Rattle.tfpg_base.proofs.lemmas.lists.Lacking.{lacks_checked}
use Rattle.tfpg_base.proofs.lemmas.WordLengths.{name_short, number_short}
use Rattle.tfpg_base.proofs.lemmas.lists.Choices.{first_of-all_none}
use Rattle.tfpg_base.proofs.lemmas.lists.SameBytes.{position-bytes}
use Rattle.tfpg_graph.specs.Graph.{Tfpg, mode_named, is_monitored, name_word}
use Rattle.tfpg_graph.specs.Valid.{IsValid}
use Rattle.tfpg_graph.proofs.lemmas.reading.spelling.LinesSay.{IsWord, IsWord-name, IsWord-decimal, keyword, no_empty_word, no_space}
use Rattle.tfpg_graph.proofs.lemmas.reading.saying.SaidLines.{line_words}
use Rattle.tfpg_graph.proofs.lemmas.reading.spelling.SpelledEdges.{is_name-name_word, node_named-name_word}
use Rattle.tfpg_graph.proofs.lemmas.writing.CleanLines.{clean_name, clean_number, clean_words}
use Rattle.tfpg_log.specs.declared.event.Event.{Event}
use Rattle.tfpg_log.specs.declared.event.Event.TheVariants as event
use Rattle.tfpg_log.specs.declared.event.Offered.TheVariants.{Accepted, Refused}
use Rattle.tfpg_log.specs.declared.limits.TheConstants.{MAX_EVENTS, MAX_MODE_CHANGES}
use Rattle.tfpg_log.specs.declared.refusal.Refusal.{Refusal}
use Rattle.tfpg_log.specs.declared.refusal.Refusal.TheVariants.{BadLine, BadNumber, TimeTooLarge, TimeBack, UnknownName, NotMonitored, NotAMode, LogFull, ModesFull}
use Rattle.tfpg_log.specs.Log.{Logbook, now_of, is_mode_change, time_of_event}
use Rattle.tfpg_log.specs.LogStatements.{LogStatement, Alarm, Silent, Sweep, Tick, Mode, words_of_log_statement, log_statement_of}
use Rattle.tfpg_log.specs.Accepted.{time_refusals, statement_refusals, event_of, offered, reply_to_statement, reply_to, monitor_refusals, room_refusal}
use Rattle.tfpg_log.proofs.lemmas.logs_of_lines.Accepting.{AreNone}
use Rattle.tfpg_log.proofs.lemmas.logs_of_lines.WrittenLines.{read_as_written}
use Rattle.tfpg_graph.proofs.lemmas.NodeAt.{monitored_within}
use Rattle.tfpg_log.specs.EventLines.{IsNextEvent, mode_word, event_words}

-- the line of an event without its line end
abbrev pub line_said : Tfpg → Event → List ℕ
line_said graph e = line_of (event_words graph e)

-- ---- words

-- a line of a time and a keyword has no line end
timed_clean : (time : ℕ) (word : List ℕ) → time ≤ MAX_TIME → HasNoLineEnd word → HasNoLineEnd (line_of (decimal time ∷ word ∷ []))
timed_clean time word small own =
    clean_words (decimal time) (word ∷ []) (clean_number time small) (All-cons HasNoLineEnd word [] own (All-nil HasNoLineEnd))

-- nor has one of a time, a keyword and a name
pub named_clean : (time : ℕ) (word name : List ℕ) → time ≤ MAX_TIME → HasNoLineEnd word → IsTrue (is_name name)
    → HasNoLineEnd (line_of (decimal time ∷ word ∷ name ∷ []))
named_clean time word name small own named =
    clean_words (decimal time) (word ∷ name ∷ []) (clean_number time small)
    (All-cons HasNoLineEnd word (name ∷ []) own (All-cons HasNoLineEnd name [] (clean_name name named) (All-nil HasNoLineEnd)))

-- and such a line is short
named_short : (time : ℕ) (word name : List ℕ) → time ≤ MAX_TIME → length word ≤ 6 → IsTrue (is_name name)
    → length (line_of (decimal time ∷ word ∷ name ∷ [])) ≤ LONGEST_LINE
named_short time word name small short named =
    omega (
      arith,
      length-append (decimal time) (32 ∷ (word ++ 32 ∷ name)),
      length-append word (32 ∷ name),
      number_short time small,
      name_short name named,
    )

-- ---- tests

module _ (graph : Tfpg) (valid : IsValid graph) (log : Logbook) where
  -- the name of a mode is found
  mode_at : (mode : ℕ) → mode < length graph.modes → mode_word graph mode ≡ get_or graph.modes mode []
  mode_at mode within = ap (λ o. unwrap_or o []) (slice_get-get_or graph.modes mode [] within)

  pub mode_found : (mode : ℕ) → mode < length graph.modes → mode_named graph (mode_word graph mode) ≡ Some mode
  mode_found mode within =
      ap (mode_named graph) (mode_at mode within)
      ∙ position-bytes (λ (name : List ℕ). name) graph.modes mode [] valid.so_far.modes_differ within

  node_name : (node : ℕ) → node < length graph.nodes → IsTrue (is_name (name_word graph node))
  node_name node within = is_name-name_word graph node within valid.so_far.node_names

  mode_name : (mode : ℕ) → mode < length graph.modes → IsTrue (is_name (mode_word graph mode))
  mode_name mode within = ap is_name (mode_at mode within) ∙ valid.so_far.mode_names mode [] within

  -- no test of the name of an alarm or a silence refuses
  own_none : (node : ℕ) → IsTrue (is_monitored graph node) → room_refusal log ≡ None
      → AreNone (monitor_refusals graph (name_word graph node) ++ room_refusal log ∷ [])
  own_none node monitored room =
      let found = node_named-name_word graph node (monitored_within graph node monitored) valid.so_far.nodes_differ in (
        ap (λ o. then_some (is_none o) UnknownName) found,
        (
          ap (option_and_then (λ n. then_some (not (is_monitored graph n)) NotMonitored)) found
              ∙ ap (λ b. then_some (not b) NotMonitored) monitored,
          (room, tt),
        ),
      )

  module _ (e : Event) (next : IsNextEvent graph log e) where
    abbrev time : ℕ
    time = time_of_event e

    -- the word for the time is that number
    value : digits_value 10 (decimal time) ≡ time
    value = (decimal_is_IsNumeral time (let small = next.in_range in omega arith)).1

    -- no test of the time refuses
    number : then_some (not (is_number (decimal time))) BadNumber ≡ None
    number = ap (λ b. then_some (not b) BadNumber) (is_number-decimal time (let small = next.in_range in omega arith))

    not_late : then_some (ltb MAX_TIME (digits_value 10 (decimal time))) TimeTooLarge ≡ None
    not_late = ap (λ b. then_some b TimeTooLarge) (ap (ltb MAX_TIME) value ∙ le-ltb MAX_TIME time next.in_range)

    not_before : then_some (ltb (digits_value 10 (decimal time)) (now_of log)) (TimeBack (now_of log)) ≡ None
    not_before = ap (λ b. then_some b (TimeBack (now_of log))) (ap (λ n. ltb n (now_of log)) value ∙ le-ltb time (now_of log) next.not_back)

    room : then_some (leb MAX_EVENTS (length log.events)) LogFull ≡ None
    room = ap (λ b. then_some b LogFull) (lt-leb MAX_EVENTS (length log.events) next.room)

    -- a line of these words is read as the statement
    read : (statement : LogStatement) → AllByRecursion IsWord (words_of_log_statement statement)
        → log_statement_of (line_of (decimal time ∷ words_of_log_statement statement)) ≡ Some (decimal time, statement)
    read statement words =
        let all : List (List ℕ) = decimal time ∷ words_of_log_statement statement in
        let are : AllByRecursion IsWord all = (IsWord-decimal time (let small = next.in_range in omega arith), words) in
        (read_as_written (line_of all) (decimal time) statement).1
        (record { words = refl; each = line_words all (no_empty_word all are) (no_space all are) })

    -- a line whose words these are, which no test refuses, is accepted
    accepted : (statement : LogStatement) (made : Event) → AllByRecursion IsWord (words_of_log_statement statement)
        → AreNone (statement_refusals graph log statement) → event_of graph (digits_value 10 (decimal time)) statement ≡ made
        → reply_to graph log (line_of (decimal time ∷ words_of_log_statement statement)) ≡ Accepted made
    accepted statement made words none is =
        let tests : List (Option Refusal) = time_refusals (now_of log) (decimal time) ++ statement_refusals graph log statement in
        ap (λ read. option_map_or (λ (parts : List ℕ × LogStatement). reply_to_statement graph log parts.0 parts.1) read (Refused BadLine))
        (read statement words)
        ∙ ap (λ refusal. offered (unless_refused refusal (event_of graph (digits_value 10 (decimal time)) statement)))
        (first_of-all_none tests (All-from_recursion (λ test. test ≡ None) tests (number, (not_late, (not_before, none)))))
        ∙ ap Accepted is

  -- The line of an event that may come next is accepted as this event.
  pub is_accepted : (e : Event) → IsNextEvent graph log e → reply_to graph log (line_said graph e) ≡ Accepted e
  is_accepted (event.Alarm time node) next =
      let e = event.Alarm time node in
      let within = monitored_within graph node next.own in
      let found = node_named-name_word graph node within valid.so_far.nodes_differ in
      accepted e next (Alarm (name_word graph node)) e
      (keyword (codes "alarm") refl refl, (IsWord-name (name_word graph node) (node_name node within), tt))
      (own_none node next.own (room e next)) (λ i. event.Alarm (value e next i) (unwrap_or (found i) 0))
  is_accepted (event.Silent time node) next =
      let e = event.Silent time node in
      let within = monitored_within graph node next.own in
      let found = node_named-name_word graph node within valid.so_far.nodes_differ in
      accepted e next (Silent (name_word graph node)) e
      (keyword (codes "silent") refl refl, (IsWord-name (name_word graph node) (node_name node within), tt))
      (own_none node next.own (room e next)) (λ i. event.Silent (value e next i) (unwrap_or (found i) 0))
  is_accepted (event.Sweep time) next =
      let e = event.Sweep time in
      accepted e next Sweep e (keyword (codes "sweep") refl refl, tt) (room e next, tt) (ap event.Sweep (value e next))
  is_accepted (event.Tick time) next =
      let e = event.Tick time in
      accepted e next Tick e (keyword (codes "tick") refl refl, tt) (room e next, tt) (ap event.Tick (value e next))
  is_accepted (event.Mode time mode) next =
      let e = event.Mode time mode in
      let found = mode_found mode next.own in
      accepted e next (Mode (mode_word graph mode)) e
      (keyword (codes "mode") refl refl, (IsWord-name (mode_word graph mode) (mode_name mode next.own), tt)) (
        ap (λ o. then_some (is_none o) NotAMode) found,
        (
          room e next,
          (ap (λ b. then_some b ModesFull) (lt-leb MAX_MODE_CHANGES (count_by is_mode_change log.events) (next.mode_room refl)), tt),
        ),
      ) (λ i. event.Mode (value e next i) (unwrap_or (found i) 0))

  -- It is not too long.
  pub is_short : (e : Event) → IsNextEvent graph log e → is_too_long (line_said graph e) ≡ false
  is_short e next = le-ltb LONGEST_LINE (length (line_said graph e)) (by e next)
    where
      by : (e : Event) → IsNextEvent graph log e → length (line_said graph e) ≤ LONGEST_LINE
      by (event.Alarm time node) next =
          named_short time (codes "alarm") (name_word graph node) next.in_range (omega arith)
          (node_name node (monitored_within graph node next.own))
      by (event.Silent time node) next =
          named_short time (codes "silent") (name_word graph node) next.in_range (omega arith)
          (node_name node (monitored_within graph node next.own))
      by (event.Sweep time) next = omega (arith, length-append (decimal time) (32 ∷ codes "sweep"), number_short time next.in_range)
      by (event.Tick time) next = omega (arith, length-append (decimal time) (32 ∷ codes "tick"), number_short time next.in_range)
      by (event.Mode time mode) next =
          named_short time (codes "mode") (mode_word graph mode) next.in_range (omega arith) (mode_name mode next.own)

  -- No byte of it ends a line.
  pub is_clean : (e : Event) → IsNextEvent graph log e → HasNoLineEnd (line_said graph e)
  is_clean (event.Alarm time node) next =
      named_clean time (codes "alarm") (name_word graph node) next.in_range (lacks_checked 10 (codes "alarm") refl)
      (node_name node (monitored_within graph node next.own))
  is_clean (event.Silent time node) next =
      named_clean time (codes "silent") (name_word graph node) next.in_range (lacks_checked 10 (codes "silent") refl)
      (node_name node (monitored_within graph node next.own))
  is_clean (event.Sweep time) next = timed_clean time (codes "sweep") next.in_range (lacks_checked 10 (codes "sweep") refl)
  is_clean (event.Tick time) next = timed_clean time (codes "tick") next.in_range (lacks_checked 10 (codes "tick") refl)
  is_clean (event.Mode time mode) next =
      named_clean time (codes "mode") (mode_word graph mode) next.in_range (lacks_checked 10 (codes "mode") refl) (mode_name mode next.own)
