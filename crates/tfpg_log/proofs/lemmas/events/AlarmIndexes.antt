-- The first alarm of a node among events: what an alarm is, where one more stands, and what came before an event.
use Rattle.std.proofs.Common.{◌≡◌, ℕ, true, List, [], ◌∷◌, ◌++◌, length, take, Some, None, refl, ap, ◌∙◌}
use Rattle.std.specs.Prelude.{find, is_none}
use Rattle.std.proofs.lemmas.Bool.{false≢true, eqb-true, eq-eqb}
use Rattle.tfpg_base.proofs.lemmas.lists.Positions.{position-push_yes}
use Rattle.tfpg_log.specs.declared.event.Event.{Event}
use Rattle.tfpg_log.specs.declared.event.Event.TheVariants.{Alarm, Silent, Sweep, Tick, Mode}
use Rattle.tfpg_log.specs.Log.{is_alarm_of, alarm_among, alarm_index, time_of_event}
use Rattle.tfpg_base.proofs.lemmas.lists.Choices.{option_map-none, is_none-option_map}
use Rattle.tfpg_base.proofs.lemmas.lists.FirstFound.{is_from, position-find_none, find-take_none}

-- what passes as an alarm of the node is one
pub alarm_is : (node : ℕ) (event : Event) → is_alarm_of node event ≡ true → event ≡ Alarm (time_of_event event) node
alarm_is node (Alarm time alarmed) it = ap (Alarm time) (eqb-true alarmed node it)
alarm_is node (Silent time silent) it = absurd (false≢true it)
alarm_is node (Sweep time) it = absurd (false≢true it)
alarm_is node (Tick time) it = absurd (false≢true it)
alarm_is node (Mode time mode) it = absurd (false≢true it)

-- a node without an alarm has no index
pub no_index : (events : List Event) (node : ℕ) → alarm_among events node ≡ None → alarm_index events node ≡ None
no_index events node none =
    position-find_none (is_alarm_of node) events (option_map-none time_of_event (find (is_alarm_of node) events) none)

-- the first alarm of a node stands after all events so far
pub alarm_index_new : (events : List Event) (time node : ℕ) → alarm_among events node ≡ None
    → alarm_index (events ++ Alarm time node ∷ []) node ≡ Some (length events)
alarm_index_new events time node none =
    position-push_yes (is_alarm_of node) events (Alarm time node) (no_index events node none) (eq-eqb node node refl)

-- None of the first events is an alarm of the node exactly where its index is not among theirs.
pub none_before : (events : List Event) (count node : ℕ)
    → is_none (alarm_among (take count events) node) ≡ is_from count (alarm_index events node)
none_before events count node =
    is_none-option_map time_of_event (find (is_alarm_of node) (take count events)) ∙ find-take_none (is_alarm_of node) events count
