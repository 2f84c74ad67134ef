-- The kept events stand in order, and are few.
use Rattle.std.proofs.Common.{◌≡◌, ℕ, suc, ◌≤◌, Bool, true, false, cond, List, [], ◌∷◌, length, map, filter, All, Contains, refl, sym, ap, ◌∙◌, subst, arith}
use Rattle.std.specs.Prelude.{AllPairs, count_by}
use Rattle.std.specs.List.{range_with_len}
use Rattle.std.proofs.lemmas.List.Elements.{All-nil, All-head, All-tail, All-append, All-contains}
use Rattle.std.proofs.lemmas.List.Sums.{sum_by-append, sum_by-cons}
use Rattle.tfpg_base.proofs.lemmas.lists.Elements.{All-from_members, AllPairs-head, AllPairs-tail, Contains-nil, Contains-one, Contains-cond}
use Rattle.tfpg_base.proofs.lemmas.lists.Ordered.{AllPairs-append}
use Rattle.tfpg_base.specs.declared.limits.TheConstants.{MAX_TIME}
use Rattle.tfpg_graph.specs.Graph.{Tfpg}
use Rattle.tfpg_log.specs.declared.event.Event.{Event}
use Rattle.tfpg_log.specs.declared.event.Event.TheVariants.{Alarm, Silent, Sweep, Tick, Mode}
use Rattle.tfpg_log.specs.Log.{Logbook, time_of_event, is_mode_change}
use Rattle.tfpg_predict.specs.Kept.{kept_events}
use Rattle.tfpg_predict.specs.inside.KeptEvents.{is_at, last_silence, is_kept_alarm, kept_of_number, kept_after_number}
use Rattle.tfpg_predict.proofs.lemmas.keeping.SameKept.{same_kept}
use Rattle.tfpg_predict.proofs.lemmas.keeping.KeptItems.{silence_kept}

abbrev Precedes : Event → Event → Type 0
Precedes earlier later = time_of_event earlier ≤ time_of_event later

module _ (graph : Tfpg) (log : Logbook) where
  -- ---- order

  -- what is kept of an event has its time
  kept_time : (number : ℕ) (event kept : Event) → Contains (kept_of_number graph log number event) kept → time_of_event kept ≡ time_of_event event
  kept_time number (Alarm time node) kept among = ap time_of_event (sym (Contains-cond (is_kept_alarm log node number) (Alarm time node) kept among).1)
  kept_time number (Silent time node) kept among = ap time_of_event (sym (silence_kept graph log number time kept among).is)
  kept_time number (Sweep time) kept among = ap time_of_event (sym (silence_kept graph log number time kept among).is)
  kept_time number (Tick time) kept among = absurd (Contains-nil kept among)
  kept_time number (Mode time mode) kept among = ap time_of_event (sym (Contains-one (Mode time mode) kept among))

  -- what holds of the times of all events holds of those that are kept
  times_after : (P : ℕ → Type 0) (number : ℕ) (events : List Event) → All (λ event. P (time_of_event event)) events → All (λ event. P (time_of_event event)) (kept_after_number graph log number events)
  times_after P number [] all = All-nil (λ event. P (time_of_event event))
  times_after P number (event ∷ events) all =
      All-append (λ e. P (time_of_event e)) (kept_of_number graph log (suc number) event) (kept_after_number graph log (suc number) events)
      (All-from_members (λ e. P (time_of_event e)) (kept_of_number graph log (suc number) event)
      (λ kept among. subst P (sym (kept_time (suc number) event kept among)) (All-head (λ e. P (time_of_event e)) event events all)))
      (times_after P (suc number) events (All-tail (λ e. P (time_of_event e)) event events all))

  -- what is kept of one event stands in order
  same_times : (time : ℕ) (events : List Event) → All (λ event. time_of_event event ≡ time) events → AllPairs Precedes events
  same_times time events same i j d before within =
      let one = same i d (omega (arith, before, within)) in
      let other = same j d within in omega (arith, one, other)

  order_after : (number : ℕ) (events : List Event) → AllPairs Precedes events → AllPairs Precedes (kept_after_number graph log number events)
  order_after number [] pairs = λ i j d before within. absurd (omega (arith, within))
  order_after number (event ∷ events) pairs =
      AllPairs-append Precedes (kept_of_number graph log (suc number) event) (kept_after_number graph log (suc number) events)
      (same_times (time_of_event event) (kept_of_number graph log (suc number) event) (All-from_members (λ e. time_of_event e ≡ time_of_event event) (kept_of_number graph log (suc number) event) (kept_time (suc number) event)))
      (order_after (suc number) events (AllPairs-tail Precedes event events pairs))
      (λ one other in_one in_other.
      let at = kept_time (suc number) event one in_one in
      let from : time_of_event event ≤ time_of_event other =
      All-contains (λ e. time_of_event event ≤ time_of_event e) (kept_after_number graph log (suc number) events) other
      (times_after (λ t. time_of_event event ≤ t) (suc number) events (AllPairs-head Precedes event events pairs)) in_other in
      omega (arith, at, from))

  pub kept_in_order : AllPairs Precedes log.events → AllPairs Precedes (kept_events graph log)
  kept_in_order pairs = subst (AllPairs Precedes) (sym (same_kept graph log)) (order_after 0 log.events pairs)

  pub kept_by : (time : ℕ) → All (λ event. time_of_event event ≤ time) log.events → All (λ event. time_of_event event ≤ time) (kept_events graph log)
  kept_by time all = subst (All (λ event. time_of_event event ≤ time)) (sym (same_kept graph log)) (times_after (λ t. t ≤ time) 0 log.events all)

  pub kept_in_range : All (λ event. time_of_event event ≤ MAX_TIME) log.events → All (λ event. time_of_event event ≤ MAX_TIME) (kept_events graph log)
  kept_in_range all = kept_by MAX_TIME all

  -- ---- how many change the mode

  abbrev one_if : (Event → Bool) → Event → ℕ
  one_if test event = cond (test event) 1 0

  -- silences are no changes of mode
  no_changes : (time : ℕ) (nodes : List ℕ) → count_by is_mode_change (map (λ node. Silent time node) nodes) ≡ 0
  no_changes time [] = refl
  no_changes time (node ∷ nodes) = omega (arith, sum_by-cons (one_if is_mode_change) (Silent time node) (map (λ n. Silent time n) nodes), no_changes time nodes)

  changes_of : (number : ℕ) (event : Event) → count_by is_mode_change (kept_of_number graph log number event) ≡ one_if is_mode_change event
  changes_of number (Alarm time node) = by (is_kept_alarm log node number)
    where
      by : (b : Bool) → count_by is_mode_change (cond b (Alarm time node ∷ []) []) ≡ 0
      by true = omega (arith, sum_by-cons (one_if is_mode_change) (Alarm time node) [])
      by false = refl
  changes_of number (Silent time node) = no_changes time (filter (λ n. is_at (last_silence graph log n) number) (range_with_len 0 (length graph.nodes)))
  changes_of number (Sweep time) = no_changes time (filter (λ n. is_at (last_silence graph log n) number) (range_with_len 0 (length graph.nodes)))
  changes_of number (Tick time) = refl
  changes_of number (Mode time mode) = omega (arith, sum_by-cons (one_if is_mode_change) (Mode time mode) [])

  changes_after : (number : ℕ) (events : List Event) → count_by is_mode_change (kept_after_number graph log number events) ≡ count_by is_mode_change events
  changes_after number [] = refl
  changes_after number (event ∷ events) =
      omega (
        arith,
        sum_by-append (one_if is_mode_change) (kept_of_number graph log (suc number) event) (kept_after_number graph log (suc number) events),
        changes_of (suc number) event,
        changes_after (suc number) events,
        sum_by-cons (one_if is_mode_change) event events,
      )

  pub changes_kept : count_by is_mode_change (kept_events graph log) ≡ count_by is_mode_change log.events
  changes_kept = ap (count_by is_mode_change) (same_kept graph log) ∙ changes_after 0 log.events
