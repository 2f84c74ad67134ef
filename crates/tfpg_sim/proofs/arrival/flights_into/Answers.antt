use Rattle.std.proofs.Common.{arith}
use Rattle.std.proofs.lemmas.Grind.{common_steps}
use Rattle.std.proofs.lemmas.List.Elements.{filter_map-append}
use Rattle.tfpg_graph.proofs.lemmas.reach.Sources.{incoming_within}
use Rattle.tfpg_sim.proofs.arrival.flights_into.Goals as goal

pub flight_over-requires-clause-number : goal.flight_over-requires-clause-number
flight_over-requires-clause-number c =
    incoming_within c.args.graph.now c.args.node c.loop-number.number-index c.incoming-incoming.result.now c.incoming-incoming.ensures.edges c.loop-number-test.true

pub loop-number-preserved : goal.loop-number-preserved
loop-number-preserved c = grind (arith, common_steps, filter_map-append)
