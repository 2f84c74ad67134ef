-- The simulated trace shows each event of the simulated log.
use Rattle.std.proofs.Common.{◌≡◌, ℕ, ◌≤◌, inr, ⊎_elim, ◌-◌, List, [], ◌∷◌, ◌++◌, length, get_or, All, Contains, IsTrue, Option, Some, None, is_some, unwrap_or, ◌+◌, refl, sym, ap, ◌∙◌, subst, arith}
use Rattle.std.specs.Prelude.{find}
use Rattle.std.proofs.lemmas.Bool.{eq-eqb, leb-false, false≢true}
use Rattle.std.proofs.lemmas.List.Elements.{All-contains, Contains-append_cases}
use Rattle.tfpg_base.proofs.lemmas.lists.Elements.{Contains-cons_cases}
use Rattle.tfpg_base.proofs.lemmas.lists.Choices.{is_some-option_map}
use Rattle.tfpg_base.specs.declared.activation.Activation.{Activation}
use Rattle.tfpg_graph.specs.Graph.{Tfpg, lag_at, lag_or_zero, lag_up_to}
use Rattle.tfpg_graph.specs.Valid.{IsValid}
use Rattle.tfpg_graph.specs.declared.kind.Lag.{Lag}
use Rattle.tfpg_log.specs.declared.event.Event.{Event}
use Rattle.tfpg_log.specs.declared.event.Event.TheVariants as event
use Rattle.tfpg_log.specs.Log.{is_alarm_of, alarm_among, time_of_event}
use Rattle.tfpg_base.proofs.lemmas.lists.FirstFound.{find-Contains}
use Rattle.tfpg_log.specs.Explains.{IsActivatedBefore, Shows}
use Rattle.tfpg_log.specs.LogOfLines.{log_of_events}
use Rattle.tfpg_graph.proofs.lemmas.NodeAt.{monitored_within}
use Rattle.tfpg_sim.specs.declared.draws.Lateness.{Lateness}
use Rattle.tfpg_sim.specs.declared.entry.Entry.{Entry}
use Rattle.tfpg_sim.specs.Draws.{latenesses}
use Rattle.tfpg_sim.specs.Script.{time_so_far}
use Rattle.tfpg_sim.specs.SimulatedLog.{due_time}
use Rattle.tfpg_sim.specs.inside.Entries.{IsScript}
use Rattle.tfpg_sim.proofs.lemmas.logged.AlarmTimes.{length-latenesses, lateness_within, monitored_lateness, sweep_early, due_between, due_by_sweep, alarmed_at, alarm_comes}
use Rattle.tfpg_sim.proofs.lemmas.logged.LoggedEvents.{IsLogged, AreLogged}
use Rattle.tfpg_sim.proofs.lemmas.logged.PutAlarms.{Precedes, MayStandInOrder}
use Rattle.tfpg_sim.proofs.lemmas.scripts.ScriptOrder.{in_order}

-- an alarm of a node that stands among events is found there
alarm_found : (events : List Event) (time node : ℕ) → Contains events (event.Alarm time node) → IsTrue (is_some (alarm_among events node))
alarm_found events time node member =
    is_some-option_map time_of_event (find (is_alarm_of node) events) ∙ find-Contains (is_alarm_of node) events (event.Alarm time node) member (eq-eqb node node refl)

-- each event after another one in the list may stand after it
after_each : (front back : List Event) (e : Event) → MayStandInOrder (front ++ e ∷ back) → All (Precedes e) back
after_each [] back e order = order.0
after_each (first ∷ front) back e order = after_each front back e order.1

-- the lag of a node that has one
lag_there : (graph : Tfpg) (node : ℕ) (lag : Lag) → lag_at graph node ≡ Some lag → lag_or_zero graph node ≡ lag
lag_there graph node lag is = ap (λ o. unwrap_or o (lag_up_to 0)) is

module _ (graph : Tfpg) (valid : IsValid graph) (entries : List Entry) (script : IsScript graph entries) (trace : List Activation) (number : ℕ) (events : List Event)
    (logged : AreLogged graph entries trace (latenesses graph number) (length (latenesses graph number)) events) where
  abbrev lates : List (Option Lateness)
  lates = latenesses graph number

  -- The trace shows an event of the log, after those before it.
  pub shown : (front back : List Event) (e : Event) → events ≡ front ++ e ∷ back → IsLogged graph entries trace lates (length lates) e → Shows graph (log_of_events front) trace e
  shown front back (event.Alarm time node) are is =
      let alarm = alarmed_at entries trace (get_or lates node None) node (time_so_far entries) time is.1 in
      let own = lateness_within graph number valid node alarm.late (omega (arith, is.0, length-latenesses graph number)) alarm.lateness_is in
      let between = due_between entries alarm.active alarm.late own.from_least in
      let earliest : time - own.lag.most ≤ alarm.active = omega (arith, between.1, alarm.due, own.upto_most) in
      let latest : alarm.active ≤ time - own.lag.least = omega (arith, between.0, alarm.due, own.least) in (
        ap is_some own.is,
        inr
            (subst (λ (lag : Lag). IsActivatedBefore trace node lag time) (sym (lag_there graph node own.lag own.is))
            (alarm.active, alarm.active_is, earliest, latest)),
      )
  shown front back (event.Silent time node) are is = absurd is
  shown front back (event.Sweep time) are is = λ node monitored unalarmed. inr (λ x is_least active.
      let within = monitored_within graph node monitored in
      let late = monitored_lateness graph number node monitored in
      let own = lateness_within graph number valid node late.0 within late.1 in
      let least : (lag_or_zero graph node).least ≡ late.0.least = ap (λ (lag : Lag). lag.least) (lag_there graph node own.lag own.is) ∙ sym own.least in
      let asked : active.0 + late.0.least ≤ time = omega (arith, is_least, active.2, least) in
      let due : ℕ = due_time entries active.0 late.0 in
      let early : due ≤ time = due_by_sweep entries active.0 late.0 time (sweep_early (active.0 + late.0.least) time entries (in_order graph entries script) is.0 asked) in
      let at = alarm_comes entries trace (get_or lates node None) node (time_so_far entries) late.0 active.0 late.1 active.1 (omega (arith, early, is.1)) in
      let there = logged.alarmed node due (omega (arith, within, length-latenesses graph number)) at in
      ⊎_elim
      (λ before. false≢true (sym unalarmed ∙ alarm_found front due node before))
      (λ rest. ⊎_elim
      (λ here. absurd (cc))
      (λ after.
      let order = after_each front back (event.Sweep time) (subst MayStandInOrder are logged.order) in
      let later = leb-false due time (All-contains (Precedes (event.Sweep time)) back (event.Alarm due node) order after) in
      absurd (omega arith))
      (Contains-cons_cases (event.Sweep time) back (event.Alarm due node) rest))
      (Contains-append_cases front (event.Sweep time ∷ back) (event.Alarm due node) (subst (λ es. Contains es (event.Alarm due node)) are there)))
  shown front back (event.Tick time) are is = tt
  shown front back (event.Mode time mode) are is = tt
