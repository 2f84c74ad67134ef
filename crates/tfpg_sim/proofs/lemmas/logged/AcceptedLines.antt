-- The lines of a simulated log are accepted, and make its events.
use Rattle.std.proofs.Common.{◌≡◌, ℕ, ◌≤◌, cond, List, ◌∷◌, ◌++◌, length, get_or, All, Contains, Option, None, sym, ap, subst, arith, length-append}
use Rattle.std.specs.Prelude.{count_by, is_some}
use Rattle.std.specs.List.{flat_map}
use Rattle.std.proofs.lemmas.List.Elements.{All-contains, Contains-append_right}
use Rattle.std.proofs.lemmas.List.Sums.{sum_by-append, sum_by-cons}
use Rattle.tfpg_base.proofs.lemmas.lists.Elements.{Contains-head}
use Rattle.tfpg_base.specs.declared.activation.Activation.{Activation}
use Rattle.tfpg_base.specs.Lines.{lines_of}
use Rattle.tfpg_graph.specs.Graph.{Tfpg}
use Rattle.tfpg_graph.specs.Valid.{IsValid}
use Rattle.tfpg_log.specs.declared.event.Event.{Event}
use Rattle.tfpg_log.specs.declared.event.Event.TheVariants as event
use Rattle.tfpg_log.specs.Log.{is_mode_change, time_of_event, IsEventOf}
use Rattle.tfpg_log.specs.EventLines.{event_line, IsNextEvent, AreNextEvents}
use Rattle.tfpg_log.specs.LogOfLines.{log_of_events, log_of_lines}
use Rattle.tfpg_log.proofs.lemmas.logs_of_lines.AcceptedLines.{log_there as log_of_its_lines, lines_accepted as its_lines_accepted}
use Rattle.tfpg_log.proofs.lemmas.events.Order.{last_upto}
use Rattle.tfpg_sim.specs.declared.draws.Lateness.{Lateness}
use Rattle.tfpg_sim.specs.declared.entry.Entry.{Entry}
use Rattle.tfpg_log.specs.AcceptedLog.{AreAccepted}
use Rattle.tfpg_sim.specs.Draws.{latenesses}
use Rattle.tfpg_sim.specs.Script.{time_so_far}
use Rattle.tfpg_sim.specs.inside.Entries.{IsScript}
use Rattle.tfpg_sim.proofs.lemmas.logged.AlarmTimes.{length-latenesses, lateness_within, alarmed_at}
use Rattle.tfpg_sim.proofs.lemmas.logged.LoggedEvents.{IsLogged, AreLogged}
use Rattle.tfpg_sim.proofs.lemmas.logged.PutAlarms.{Precedes, MayStandInOrder, before_each, Precedes-times}
use Rattle.tfpg_sim.proofs.lemmas.scripts.ScriptOrder.{small}

module _ (graph : Tfpg) (valid : IsValid graph) (entries : List Entry) (script : IsScript graph entries) (trace : List Activation) (number : ℕ) (events : List Event)
    (logged : AreLogged graph entries trace (latenesses graph number) (length (latenesses graph number)) events) where
  abbrev lates : List (Option Lateness)
  lates = latenesses graph number

  abbrev IsLoggedHere : Event → Type 0
  IsLoggedHere e = IsLogged graph entries trace lates (length lates) e

  -- no event is later than the stop
  pub by_stop : (e : Event) → IsLoggedHere e → time_of_event e ≤ time_so_far entries
  by_stop (event.Alarm time node) is = (alarmed_at entries trace (get_or lates node None) node (time_so_far entries) time is.1).by_stop
  by_stop (event.Silent time node) is = absurd is
  by_stop (event.Sweep time) is = is.1
  by_stop (event.Tick time) is = is
  by_stop (event.Mode time mode) is = is.1

  -- each is of the graph
  own_event : (e : Event) → IsLoggedHere e → IsEventOf graph e
  own_event (event.Alarm time node) is =
      let alarm = alarmed_at entries trace (get_or lates node None) node (time_so_far entries) time is.1 in
      ap is_some (lateness_within graph number valid node alarm.late (omega (arith, is.0, length-latenesses graph number)) alarm.lateness_is).is
  own_event (event.Silent time node) is = absurd is
  own_event (event.Sweep time) is = tt
  own_event (event.Tick time) is = tt
  own_event (event.Mode time mode) is = is.0

  module _ (front back : List Event) (e : Event) (are : events ≡ front ++ e ∷ back) where
    -- an event of the log is one that is logged
    pub its : IsLoggedHere e
    its = All-contains (λ x. IsLoggedHere x) events e logged.each (subst (λ es. Contains es e) (sym are) (Contains-append_right front (e ∷ back) e (Contains-head e back)))

    earlier : All (λ x. Precedes x e) front
    earlier = before_each front back e (subst MayStandInOrder are logged.order)

    -- The event may come next.
    pub comes_next : IsNextEvent graph (log_of_events front) e
    comes_next = record {
      own = own_event e its;
      not_back = last_upto front 0 (time_of_event e) (omega arith) (λ k d within. Precedes-times _ e (earlier k d within));
      in_range = let upto = by_stop e its in omega (arith, small graph entries script);
      room = let few = logged.few in
          let few_nodes = valid.so_far.few_nodes in
          omega (arith, length-append front (e ∷ back), ap length are, length-latenesses graph number);
      mode_room = λ changes.
          let few = logged.changes in
          omega (
            arith,
            ap (count_by is_mode_change) are,
            sum_by-append (λ x. cond (is_mode_change x) 1 0) front (e ∷ back),
            sum_by-cons (λ x. cond (is_mode_change x) 1 0) e back,
            ap {B = ℕ} (λ b. cond b 1 0) changes,
          );
    }

  abbrev next : AreNextEvents graph events
  next front back e are = comes_next front back e are

  -- The log of the lines has these events.
  pub log_there : log_of_lines graph (lines_of (flat_map (event_line graph) events)) ≡ log_of_events events
  log_there = log_of_its_lines graph valid events next

  -- Each line is accepted.
  pub lines_accepted : AreAccepted graph (lines_of (flat_map (event_line graph) events))
  lines_accepted = its_lines_accepted graph valid events next
