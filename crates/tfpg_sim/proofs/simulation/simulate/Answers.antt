use Rattle.std.proofs.Common.{length, ap, subst, ◌∙◌, arith}
use Rattle.std.specs.List.{flat_map}
use Rattle.tfpg_log.specs.EventLines.{event_line}
use Rattle.tfpg_sim.specs.Script.{time_so_far}
use Rattle.tfpg_sim.specs.Draws.{delays, latenesses}
use Rattle.tfpg_sim.specs.Simulation.{IsSimulated}
use Rattle.tfpg_sim.specs.SimulatedLog.{set_of, log_events}
use Rattle.tfpg_sim.proofs.lemmas.logged.ExplainedLogs.{accepted, explained}
use Rattle.tfpg_sim.proofs.simulation.simulate.Goals as goal

pub log_events-requires-clause-few : goal.log_events-requires-clause-few
log_events-requires-clause-few c =
    let few = c.is_always_valid.ensures.few in
    omega (arith, ap length c.deref-5.ensures.value, c.in_ok-draws.ensures.each_lateness)

pub returns-clause-simulated : goal.returns-clause-simulated
returns-clause-simulated c =
    let graph = c.args.graph.now in
    let entries = c.in_ok-entries.entries.items in
    let trace = c.in_ok-trace.trace in
    let lates = latenesses graph c.args.number in
    record {
      entries = entries;
      right = c.in_ok-entries.ensures.read;
      set = c.started_set-set.ensures ∙ ap (set_of graph) c.deref-7.ensures.value;
      trace = subst (λ es. IsSimulated graph es (delays graph c.args.number) trace) c.deref.ensures.value
          (subst (λ ds. IsSimulated graph c.deref.result.now ds trace) (c.deref-2.ensures.value ∙ c.in_ok-draws.ensures.delays) c.in_ok-trace.ensures.simulated);
      log = c.in_ok-log.ensures ∙ ap (flat_map (event_line graph)) (c.deref-6.ensures.value ∙ c.in_ok-events.ensures.events
          ∙ ap (λ es. log_events es trace c.deref-5.result.now c.time_so_far-stop.result) c.deref-4.ensures.value
          ∙ ap (λ ls. log_events entries trace ls c.time_so_far-stop.result) (c.deref-5.ensures.value ∙ c.in_ok-draws.ensures.latenesses)
          ∙ ap (log_events entries trace lates) (c.time_so_far-stop.ensures ∙ ap time_so_far c.deref-3.ensures.value));
    }

pub returns-clause-accepted : goal.returns-clause-accepted
returns-clause-accepted c = accepted c.args.graph.now c.args.script.now c.args.number _ c.is_always_valid.ensures.valid (returns-clause-simulated c)

pub returns-clause-explained : goal.returns-clause-explained
returns-clause-explained c = explained c.args.graph.now c.args.script.now c.args.number _ c.is_always_valid.ensures.valid (returns-clause-simulated c)
