-- The events of a simulated log: what each is, their order, and how many there are.
use Rattle.std.proofs.Common.{◌≡◌, ℕ, zero, suc, ◌+◌, ◌-◌, ◌<◌, ◌≤◌, ⊎_elim, false, cond, List, [], ◌∷◌, length, get_or, filter_map, All, Contains, Option, Some, None, refl, sym, ap, ◌∙◌, subst, arith}
use Rattle.std.specs.Prelude.{AllPairs, IsTrue, count_by, slice_index_or}
use Rattle.std.specs.Option.{option_map_or}
use Rattle.std.proofs.lemmas.Bool.{cases_eq, false≢true}
use Rattle.std.proofs.lemmas.List.Elements.{All-nil, All-cons, All-head, All-tail, All-weaker, Contains-get_or}
use Rattle.std.proofs.lemmas.List.Sums.{sum_by-cons}
use Rattle.tfpg_base.proofs.lemmas.lists.Elements.{AllPairs-head, AllPairs-tail, Contains-at}
use Rattle.tfpg_base.specs.declared.activation.Activation.{Activation}
use Rattle.tfpg_base.proofs.lemmas.lists.Passing.{slice_get-filter_map, length-filter_map}
use Rattle.tfpg_graph.specs.Graph.{Tfpg}
use Rattle.tfpg_log.specs.declared.event.Event.{Event}
use Rattle.tfpg_log.specs.declared.event.Event.TheVariants as event
use Rattle.tfpg_log.specs.Log.{time_of_event, is_mode_change, mode_after}
use Rattle.tfpg_sim.specs.declared.draws.Lateness.{Lateness}
use Rattle.tfpg_sim.specs.declared.entry.Entry.{Entry}
use Rattle.tfpg_sim.specs.declared.entry.Entry.TheVariants.{Start, Mode, Sweep, Tick, Stop}
use Rattle.tfpg_base.specs.Choice.{last_of}
use Rattle.tfpg_sim.specs.Script.{time_of_entry, time_so_far, has_stopped, is_stop, changes_mode}
use Rattle.tfpg_sim.specs.declared.limits.TheConstants.{MAX_ENTRIES}
use Rattle.tfpg_log.specs.declared.limits.TheConstants.{MAX_MODE_CHANGES}
use Rattle.tfpg_sim.specs.Simulation.{event_of_entry}
use Rattle.tfpg_sim.specs.SimulatedLog.{alarm_time, with_alarm, with_alarms}
use Rattle.tfpg_sim.specs.inside.Entries.{IsScript}
use Rattle.tfpg_sim.specs.Script.{IsEntryOf}
use Rattle.tfpg_sim.proofs.lemmas.logged.PutAlarms.{put, put_there, All-put, alarm_there, still_there, one_more, changes_same, modes_same, Precedes, MayStandInOrder, order_put}
use Rattle.tfpg_sim.proofs.lemmas.scripts.ReadScripts.{few_entries, few_changes}
use Rattle.tfpg_sim.proofs.lemmas.scripts.ScriptOrder.{all_by_last, in_order}

-- ---- the script's own events

-- what holds of the event that a line becomes, where it becomes one
abbrev pub OwnHolds : (Event → Type 0) → Entry → Type 0
OwnHolds P (Start time node) = Unit {0}
OwnHolds P (Mode time mode) = P (event.Mode time mode)
OwnHolds P (Sweep time) = P (event.Sweep time)
OwnHolds P (Tick time) = P (event.Tick time)
OwnHolds P (Stop time) = P (event.Tick time)

All-own : (P : Event → Type 0) (entries : List Entry) → All (OwnHolds P) entries → All P (filter_map event_of_entry entries)
All-own P [] all = All-nil P
All-own P (entry ∷ entries) all = by entry (All-head (OwnHolds P) entry entries all) (All-own P entries (All-tail (OwnHolds P) entry entries all))
  where
    by : (e : Entry) → OwnHolds P e → All P (filter_map event_of_entry entries) → All P (filter_map event_of_entry (e ∷ entries))
    by (Start time node) own rest = rest
    by (Mode time mode) own rest = All-cons P (event.Mode time mode) (filter_map event_of_entry entries) own rest
    by (Sweep time) own rest = All-cons P (event.Sweep time) (filter_map event_of_entry entries) own rest
    by (Tick time) own rest = All-cons P (event.Tick time) (filter_map event_of_entry entries) own rest
    by (Stop time) own rest = All-cons P (event.Tick time) (filter_map event_of_entry entries) own rest

-- what comes later may stand after
own_after : (e : Event) (entry : Entry) → time_of_event e ≤ time_of_entry entry → OwnHolds (Precedes e) entry
own_after e (Start time node) late = tt
own_after e (Mode time mode) late = late
own_after e (Sweep time) late = late
own_after e (Tick time) late = late
own_after e (Stop time) late = late

own_order : (entries : List Entry) → AllPairs (λ a b. time_of_entry a ≤ time_of_entry b) entries → MayStandInOrder (filter_map event_of_entry entries)
own_order [] pairs = tt
own_order (entry ∷ entries) pairs =
    by entry (AllPairs-head (λ a b. time_of_entry a ≤ time_of_entry b) entry entries pairs)
    (own_order entries (AllPairs-tail (λ a b. time_of_entry a ≤ time_of_entry b) entry entries pairs))
  where
    after : (e : Event) → All (λ n. time_of_event e ≤ time_of_entry n) entries → All (Precedes e) (filter_map event_of_entry entries)
    after e late = All-own (Precedes e) entries (λ k d within. own_after e (get_or entries k d) (late k d within))

    by : (n : Entry) → All (λ later. time_of_entry n ≤ time_of_entry later) entries → MayStandInOrder (filter_map event_of_entry entries) → MayStandInOrder (filter_map event_of_entry (n ∷ entries))
    by (Start time node) late rest = rest
    by (Mode time mode) late rest = (after (event.Mode time mode) late, rest)
    by (Sweep time) late rest = (after (event.Sweep time) late, rest)
    by (Tick time) late rest = (after (event.Tick time) late, rest)
    by (Stop time) late rest = (after (event.Tick time) late, rest)

-- a change of mode counts as one
abbrev change : Event → ℕ
change e = cond (is_mode_change e) 1 0

abbrev counts : Entry → ℕ
counts n = cond (changes_mode n) 1 0

-- the changes of mode are those of the script
own_changes : (entries : List Entry) → count_by is_mode_change (filter_map event_of_entry entries) ≡ count_by changes_mode entries
own_changes [] = refl
own_changes (entry ∷ entries) = by entry (own_changes entries)
  where
    by : (n : Entry) → count_by is_mode_change (filter_map event_of_entry entries) ≡ count_by changes_mode entries
        → count_by is_mode_change (filter_map event_of_entry (n ∷ entries)) ≡ count_by changes_mode (n ∷ entries)
    by (Start time node) rest = omega (arith, sum_by-cons counts (Start time node) entries)
    by (Mode time mode) rest = omega (arith, sum_by-cons change (event.Mode time mode) (filter_map event_of_entry entries), sum_by-cons counts (Mode time mode) entries)
    by (Sweep time) rest = omega (arith, sum_by-cons change (event.Sweep time) (filter_map event_of_entry entries), sum_by-cons counts (Sweep time) entries)
    by (Tick time) rest = omega (arith, sum_by-cons change (event.Tick time) (filter_map event_of_entry entries), sum_by-cons counts (Tick time) entries)
    by (Stop time) rest = omega (arith, sum_by-cons change (event.Tick time) (filter_map event_of_entry entries), sum_by-cons counts (Stop time) entries)

-- the last line is the stop
stop_last : (entries : List Entry) → IsTrue (has_stopped entries) → last_of entries ≡ Some (Stop (time_so_far entries))
stop_last entries stops = by (last_of entries) refl
  where
    stop_is : (n : Entry) → IsTrue (is_stop n) → n ≡ Stop (time_of_entry n)
    stop_is (Start time node) no_stop = absurd (false≢true no_stop)
    stop_is (Mode time mode) no_stop = absurd (false≢true no_stop)
    stop_is (Sweep time) no_stop = absurd (false≢true no_stop)
    stop_is (Tick time) no_stop = absurd (false≢true no_stop)
    stop_is (Stop time) stop = refl

    by : (o : Option Entry) → last_of entries ≡ o → last_of entries ≡ Some (Stop (time_so_far entries))
    by None is = absurd (false≢true (sym (ap (λ o. option_map_or is_stop o false) is) ∙ stops))
    by (Some n) is =
        is ∙ ap Some (stop_is n (sym (ap (λ o. option_map_or is_stop o false) is) ∙ stops)
        ∙ ap Stop (sym (ap (λ o. option_map_or time_of_entry o 0) is)))

module _ (graph : Tfpg) (entries : List Entry) (trace : List Activation) (latenesses : List (Option Lateness)) where
  abbrev pub stop : ℕ
  stop = time_so_far entries

  -- when the node of this number is alarmed
  abbrev pub alarm_at : ℕ → Option ℕ
  alarm_at node = alarm_time entries trace (slice_index_or latenesses node None) node stop

  -- what an event is when the alarms of the first so many nodes are inserted among the script's own
  abbrev pub IsLogged : ℕ → Event → Type 0
  IsLogged count (event.Alarm time node) = (node < count) × (alarm_at node ≡ Some time)
  IsLogged count (event.Silent time node) = ⊥
  IsLogged count (event.Sweep time) = Contains entries (Sweep time) × (time ≤ stop)
  IsLogged count (event.Tick time) = time ≤ stop
  IsLogged count (event.Mode time mode) = (mode < length graph.modes) × (time ≤ stop)

  pub record AreLogged (count : ℕ) (events : List Event) : Type 0 where
    pub order : MayStandInOrder events
    pub each : All (IsLogged count) events
    pub alarmed : (node time : ℕ) → node < count → alarm_at node ≡ Some time → Contains events (event.Alarm time node)
    pub few : length events ≤ MAX_ENTRIES + count
    pub changes : count_by is_mode_change events ≤ MAX_MODE_CHANGES
    pub modes : (instant : ℕ) → mode_after 0 events instant ≡ mode_after 0 (filter_map event_of_entry entries) instant
    pub last : Contains events (event.Tick stop)

  one_later : (count : ℕ) (e : Event) → IsLogged count e → IsLogged (suc count) e
  one_later count (event.Alarm time node) is = (let less = is.0 in omega arith, is.1)
  one_later count (event.Silent time node) is = is
  one_later count (event.Sweep time) is = is
  one_later count (event.Tick time) is = is
  one_later count (event.Mode time mode) is = is

  -- the alarm of one more node, where it has one
  logged_more : (count : ℕ) (o : Option ℕ) (events : List Event) → alarm_at count ≡ o → AreLogged count events → AreLogged (suc count) (with_alarm o count events)
  logged_more count None events none so_far = record {
    order = so_far.order;
    each = All-weaker (IsLogged count) (IsLogged (suc count)) (one_later count) events so_far.each;
    alarmed = λ node time within at. ⊎_elim
        (λ here. absurd (let both : None ≡ Some time = sym none ∙ ap alarm_at (sym here) ∙ at in cc))
        (λ unlike. so_far.alarmed node time (let less : node < count = grind arith in less) at) (cases_eq node count);
    few = let few = so_far.few in omega arith;
    changes = so_far.changes;
    modes = so_far.modes;
    last = so_far.last;
  }
  logged_more count (Some time) events at so_far = subst (AreLogged (suc count)) (sym (put_there time count events)) (record {
    order = order_put time count events so_far.order;
    each = All-put time count (IsLogged (suc count)) events (omega arith, at) (All-weaker (IsLogged count) (IsLogged (suc count)) (one_later count) events so_far.each);
    alarmed = λ node when within is. ⊎_elim
        (λ here.
        let same : time ≡ when = (let both : Some time ≡ Some when = sym at ∙ ap alarm_at (sym here) ∙ is in cc) in
        subst (λ n. Contains (put time count events) (event.Alarm when n)) (sym here)
        (subst (λ t. Contains (put time count events) (event.Alarm t count)) same (alarm_there time count events)))
        (λ unlike. still_there time count events (event.Alarm when node) (so_far.alarmed node when (let less : node < count = grind arith in less) is)) (cases_eq node count);
    few = let few = so_far.few in omega (arith, one_more time count events);
    changes = let few = so_far.changes in omega (arith, changes_same time count events);
    modes = λ instant. modes_same time count 0 instant events ∙ so_far.modes instant;
    last = still_there time count events (event.Tick stop) so_far.last;
  })

  module _ (script : IsScript graph entries) (stops : IsTrue (has_stopped entries)) where
    own_logged : (entry : Entry) → Contains entries entry → IsEntryOf graph entry → time_of_entry entry ≤ stop → OwnHolds (IsLogged 0) entry
    own_logged (Start time node) member own upto = tt
    own_logged (Mode time mode) member own upto = (own.1, upto)
    own_logged (Sweep time) member own upto = (member, upto)
    own_logged (Tick time) member own upto = upto
    own_logged (Stop time) member own upto = upto

    none_logged : AreLogged 0 (filter_map event_of_entry entries)
    none_logged = record {
      order = own_order entries (in_order graph entries script);
      each = All-own (IsLogged 0) entries (λ k d within.
          own_logged (get_or entries k d) (Contains-get_or entries k d within) (script.own k d within) (all_by_last graph entries script k d within));
      alarmed = λ node time within at. absurd (omega arith);
      few = omega (arith, length-filter_map event_of_entry entries, few_entries graph entries script);
      changes = omega (arith, own_changes entries, few_changes graph entries script);
      modes = λ instant. refl;
      last =
          let there = slice_get-filter_map event_of_entry entries (Stop stop) (event.Tick stop) (Contains-at entries (length entries - 1) (Stop stop) (stop_last entries stops)) refl in
          Contains-at (filter_map event_of_entry entries) there.0 (event.Tick stop) there.1;
    }

    -- The script's own events with the alarms of the first so many nodes.
    pub logged : (count : ℕ) → AreLogged count (with_alarms entries trace latenesses stop count)
    logged zero = none_logged
    logged (suc count) = logged_more count (alarm_at count) (with_alarms entries trace latenesses stop count) refl (logged count)
