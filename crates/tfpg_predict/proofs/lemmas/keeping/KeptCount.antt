-- The kept events are few: of each node at most two alarms and a silence.
use Rattle.std.proofs.Common.{◌≡◌, ℕ, zero, suc, ◌+◌, ◌*◌, ◌<◌, ◌≤◌, ◌==◌, ◌||◌, Bool, true, false, cond, List, [], ◌∷◌, length, map, filter, All, Option, Some, None, ⊎_elim, refl, sym, ap, ◌∙◌, arith}
use Rattle.std.specs.Prelude.{count_by, nat_lt}
use Rattle.std.specs.Option.{option_map_or}
use Rattle.std.specs.List.{range_with_len}
use Rattle.std.proofs.lemmas.Bool.{cases_eq, cases_lt, eq-eqb, ne_eqb, lt-ltb, le-ltb}
use Rattle.std.proofs.lemmas.List.Elements.{All-head, All-tail, All-weaker}
use Rattle.std.proofs.lemmas.List.Sums.{sum_by-append, sum_by-cons}
use Rattle.tfpg_graph.specs.Graph.{Tfpg}
use Rattle.tfpg_graph.proofs.lemmas.NodeAt.{monitored_within}
use Rattle.tfpg_log.specs.declared.event.Event.{Event}
use Rattle.tfpg_log.specs.declared.event.Event.TheVariants.{Alarm, Silent, Sweep, Tick, Mode}
use Rattle.tfpg_log.specs.Log.{Logbook, IsLogOf, IsOrdered, alarm_event, is_mode_change}
use Rattle.tfpg_log.proofs.lemmas.events.SilentNodes.{event_own, silent_within}
use Rattle.tfpg_predict.specs.Kept.{kept_events}
use Rattle.tfpg_predict.specs.inside.KeptEvents.{is_at, last_alarm, last_silence, is_kept_alarm, kept_of_number, kept_after_number}
use Rattle.tfpg_predict.proofs.lemmas.explained.KeptFacts.{IsSaidBy}
use Rattle.tfpg_predict.proofs.lemmas.keeping.KeptOrder.{changes_kept}
use Rattle.tfpg_predict.proofs.lemmas.keeping.SameKept.{same_kept}
use Rattle.tfpg_predict.proofs.lemmas.keeping.KeptEventsKeep.{keeps}

-- 1 where a test passes, and else 0
abbrev bit : Bool → ℕ
bit b = cond b 1 0

bit_small : (b : Bool) → bit b ≤ 1
bit_small true = omega arith
bit_small false = omega arith

bit_either : (one other : Bool) → bit (one || other) ≤ bit one + bit other
bit_either true other = omega arith
bit_either false other = omega arith

-- ---- a number that is still to come

abbrev due : Option ℕ → ℕ → ℕ
due found number = option_map_or (λ other. bit (nat_lt number other)) found 0

due_small : (found : Option ℕ) (number : ℕ) → due found number ≤ 1
due_small None number = omega arith
due_small (Some other) number = bit_small (nat_lt number other)

due_next : (found : Option ℕ) (number : ℕ) → bit (is_at found (suc number)) + due found (suc number) ≤ due found number
due_next None number = omega arith
due_next (Some other) number = ⊎_elim
    (λ later. let now = ap bit (lt-ltb number other later) in ⊎_elim
    (λ same. let past_it = ap bit (le-ltb (suc number) other (omega (arith, same))) in let small = bit_small (other == suc number) in omega (arith, now, past_it, small))
    (λ unlike. let not_here = ap bit (ne_eqb other (suc number) unlike) in let small = bit_small (nat_lt (suc number) other) in omega (arith, now, not_here, small))
    (cases_eq other (suc number)))
    (λ past.
    let not_here = ap bit (ne_eqb other (suc number) (λ same. omega (arith, same, past))) in
    let not_later = ap bit (le-ltb (suc number) other (omega (arith, past))) in omega (arith, not_here, not_later))
    (cases_lt number other)

-- ---- events about a node

-- the event is an alarm or a silence of the node
abbrev is_about : ℕ → Event → Bool
is_about node (Alarm time other) = other == node
is_about node (Silent time other) = other == node
is_about node (Sweep time) = false
is_about node (Tick time) = false
is_about node (Mode time mode) = false

abbrev one_if : (Event → Bool) → Event → ℕ
one_if test event = bit (test event)

silent_about : (time node other : ℕ) (nodes : List ℕ)
    → count_by (is_about node) (map (λ n. Silent time n) (other ∷ nodes)) ≡ bit (other == node) + count_by (is_about node) (map (λ n. Silent time n) nodes)
silent_about time node other nodes = sum_by-cons (one_if (is_about node)) (Silent time other) (map (λ n. Silent time n) nodes)

module _ (test : ℕ → Bool) (time node : ℕ) where
  abbrev silences : List ℕ → ℕ
  silences nodes = count_by (is_about node) (map (λ n. Silent time n) nodes)

  -- among the nodes after it there is none of it
  none_later : (first count : ℕ) → node < first → silences (filter test (range_with_len first count)) ≡ 0
  none_later first zero later = refl
  none_later first (suc count) later = by (test first) (none_later (first + 1) count (omega (arith, later)))
    where
      by : (b : Bool) → silences (filter test (range_with_len (first + 1) count)) ≡ 0
          → silences (cond b (first ∷ filter test (range_with_len (first + 1) count)) (filter test (range_with_len (first + 1) count))) ≡ 0
      by true rest =
          silent_about time node first (filter test (range_with_len (first + 1) count))
          ∙ (let not_it = ap bit (ne_eqb first node (λ same. omega (arith, same, later))) in omega (arith, not_it, rest))
      by false rest = rest

  -- so there is one at most, where the test passes it
  one_at_most : (first count : ℕ) → silences (filter test (range_with_len first count)) ≤ bit (test node)
  one_at_most first zero = omega arith
  one_at_most first (suc count) = by (test first) refl (one_at_most (first + 1) count) (λ same. none_later (first + 1) count (omega (arith, same)))
    where
      by : (b : Bool) → test first ≡ b → silences (filter test (range_with_len (first + 1) count)) ≤ bit (test node)
          → (first ≡ node → silences (filter test (range_with_len (first + 1) count)) ≡ 0)
          → silences (cond b (first ∷ filter test (range_with_len (first + 1) count)) (filter test (range_with_len (first + 1) count))) ≤ bit (test node)
      by false fails rest none = rest
      by true passes rest none = ⊎_elim
          (λ same.
          let here = ap bit (eq-eqb first node same) in
          let it : bit (test node) ≡ 1 = ap bit (ap test (sym same) ∙ passes) in
          omega (arith, silent_about time node first (filter test (range_with_len (first + 1) count)), here, it, none same))
          (λ unlike.
          let not_it = ap bit (ne_eqb first node unlike) in
          omega (arith, silent_about time node first (filter test (range_with_len (first + 1) count)), not_it, rest))
          (cases_eq first node)

module _ (graph : Tfpg) (log : Logbook) where
  -- ---- what is kept of one event is about a node at most as often as it is its first or last alarm, or its last silence

  module _ (node number : ℕ) where
    abbrev ends : ℕ
    ends = bit (is_at (alarm_event log node) number) + bit (is_at (last_alarm log node) number) + bit (is_at (last_silence graph log node) number)

    alarm_about : (time other : ℕ) (kept : Bool) → is_kept_alarm log other number ≡ kept → count_by (is_about node) (cond kept (Alarm time other ∷ []) []) ≤ ends
    alarm_about time other false is = omega arith
    alarm_about time other true is = ⊎_elim
        (λ same.
        let either = bit_either (is_at (alarm_event log node) number) (is_at (last_alarm log node) number) in
        let passes : bit (is_kept_alarm log node number) ≡ 1 = ap bit (ap (λ (n : ℕ). is_kept_alarm log n number) (sym same) ∙ is) in
        let small = bit_small (other == node) in
        omega (arith, sum_by-cons (one_if (is_about node)) (Alarm time other) [], either, passes, small))
        (λ unlike. let not_it = ap bit (ne_eqb other node unlike) in omega (arith, sum_by-cons (one_if (is_about node)) (Alarm time other) [], not_it))
        (cases_eq other node)

    silences_about : (time : ℕ) → count_by (is_about node) (map (λ n. Silent time n) (filter (λ n. is_at (last_silence graph log n) number) (range_with_len 0 (length graph.nodes)))) ≤ ends
    silences_about time = let one = one_at_most (λ n. is_at (last_silence graph log n) number) time node 0 (length graph.nodes) in omega (arith, one)

    about_of : (event : Event) → count_by (is_about node) (kept_of_number graph log number event) ≤ ends
    about_of (Alarm time other) = alarm_about time other (is_kept_alarm log other number) refl
    about_of (Silent time other) = silences_about time
    about_of (Sweep time) = silences_about time
    about_of (Tick time) = omega arith
    about_of (Mode time mode) = omega (arith, sum_by-cons (one_if (is_about node)) (Mode time mode) [])

  about_after : (node number : ℕ) (events : List Event) → count_by (is_about node) (kept_after_number graph log number events)
      ≤ due (alarm_event log node) number + due (last_alarm log node) number + due (last_silence graph log node) number
  about_after node number [] = omega arith
  about_after node number (event ∷ events) =
      let here = about_of node (suc number) event in
      let rest = about_after node (suc number) events in
      let first = due_next (alarm_event log node) number in
      let last = due_next (last_alarm log node) number in
      let silence = due_next (last_silence graph log node) number in
      omega (
        arith,
        sum_by-append (one_if (is_about node)) (kept_of_number graph log (suc number) event) (kept_after_number graph log (suc number) events),
        here,
        rest,
        first,
        last,
        silence,
      )

  about_kept : (node : ℕ) → count_by (is_about node) (kept_events graph log) ≤ 3
  about_kept node =
      let all = about_after node 0 log.events in
      let first = due_small (alarm_event log node) 0 in
      let last = due_small (last_alarm log node) 0 in
      let silence = due_small (last_silence graph log node) 0 in
      omega (arith, ap (count_by (is_about node)) (same_kept graph log), all, first, last, silence)

-- ---- all nodes

-- the event is about a node before this one
abbrev is_below : ℕ → Event → Bool
is_below end (Alarm time other) = nat_lt other end
is_below end (Silent time other) = nat_lt other end
is_below end (Sweep time) = false
is_below end (Tick time) = false
is_below end (Mode time mode) = false

bit_more : (other end : ℕ) → bit (nat_lt other (suc end)) ≡ bit (nat_lt other end) + bit (other == end)
bit_more other end = ⊎_elim
    (λ less.
    let one = ap bit (lt-ltb other (suc end) (omega (arith, less))) in
    let two = ap bit (lt-ltb other end less) in
    let three = ap bit (ne_eqb other end (λ same. omega (arith, same, less))) in omega (arith, one, two, three))
    (λ from. let two = ap bit (le-ltb other end from) in ⊎_elim
    (λ same.
    let one = ap bit (lt-ltb other (suc end) (omega (arith, same))) in
    let three = ap bit (eq-eqb other end same) in omega (arith, one, two, three))
    (λ unlike.
    let one = ap bit (le-ltb other (suc end) (omega (arith, unlike, from))) in
    let three = ap bit (ne_eqb other end unlike) in omega (arith, one, two, three))
    (cases_eq other end))
    (cases_lt other end)

event_more : (end : ℕ) (event : Event) → one_if (is_below (suc end)) event ≡ one_if (is_below end) event + one_if (is_about end) event
event_more end (Alarm time other) = bit_more other end
event_more end (Silent time other) = bit_more other end
event_more end (Sweep time) = omega arith
event_more end (Tick time) = omega arith
event_more end (Mode time mode) = omega arith

below_more : (end : ℕ) (events : List Event) → count_by (is_below (suc end)) events ≡ count_by (is_below end) events + count_by (is_about end) events
below_more end [] = omega arith
below_more end (event ∷ events) =
    let here = event_more end event in
    let rest = below_more end events in
    omega (
      arith,
      sum_by-cons (one_if (is_below (suc end))) event events,
      sum_by-cons (one_if (is_below end)) event events,
      sum_by-cons (one_if (is_about end)) event events,
      here,
      rest,
    )

event_none : (event : Event) → one_if (is_below 0) event ≡ 0
event_none (Alarm time other) = ap bit (le-ltb other 0 (omega arith))
event_none (Silent time other) = ap bit (le-ltb other 0 (omega arith))
event_none (Sweep time) = refl
event_none (Tick time) = refl
event_none (Mode time mode) = refl

below_none : (events : List Event) → count_by (is_below 0) events ≡ 0
below_none [] = refl
below_none (event ∷ events) = let here = event_none event in let rest = below_none events in omega (arith, sum_by-cons (one_if (is_below 0)) event events, here, rest)

below_few : (events : List Event) → ((node : ℕ) → count_by (is_about node) events ≤ 3) → (end : ℕ) → count_by (is_below end) events ≤ 3 * end
below_few events few zero = let none = below_none events in omega (arith, none)
below_few events few (suc end) =
    let rest = below_few events few end in
    let here = few end in
    omega (arith, below_more end events, rest, here)

-- each event is a change of mode, or about a node before this one
all_counted : (end : ℕ) (events : List Event) → All (λ event. one_if is_mode_change event + one_if (is_below end) event ≡ 1) events
    → length events ≡ count_by is_mode_change events + count_by (is_below end) events
all_counted end [] all = omega arith
all_counted end (event ∷ events) all =
    let here = All-head (λ e. one_if is_mode_change e + one_if (is_below end) e ≡ 1) event events all in
    let rest = all_counted end events (All-tail (λ e. one_if is_mode_change e + one_if (is_below end) e ≡ 1) event events all) in
    omega (arith, sum_by-cons (one_if is_mode_change) event events, sum_by-cons (one_if (is_below end)) event events, here, rest)

module _ (graph : Tfpg) (log : Logbook) (of : IsLogOf graph log) (ordered : IsOrdered log) where
  said_counted : (event : Event) → IsSaidBy graph log event → one_if is_mode_change event + one_if (is_below (length graph.nodes)) event ≡ 1
  said_counted (Alarm time node) said =
      let here = ap bit (lt-ltb node (length graph.nodes) (monitored_within graph node (event_own graph log said.0 (Alarm time node) of said.1))) in omega (arith, here)
  said_counted (Silent time node) said =
      let here = ap bit (lt-ltb node (length graph.nodes) (silent_within graph log said.0 node time of said.1)) in omega (arith, here)
  said_counted (Sweep time) said = absurd said
  said_counted (Tick time) said = absurd said
  said_counted (Mode time mode) said = omega arith

  -- There are at most three of them for each node, besides the changes of mode.
  pub kept_few : length (kept_events graph log) ≤ count_by is_mode_change log.events + 3 * length graph.nodes
  kept_few =
      let nodes = below_few (kept_events graph log) (about_kept graph log) (length graph.nodes) in
      let all = all_counted (length graph.nodes) (kept_events graph log)
      (All-weaker (IsSaidBy graph log) (λ e. one_if is_mode_change e + one_if (is_below (length graph.nodes)) e ≡ 1) said_counted (kept_events graph log) (keeps graph log of ordered).each) in
      omega (arith, all, changes_kept graph log, nodes)
