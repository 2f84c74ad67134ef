use Rattle.std.proofs.Common.{length, true, false, sym, ap, subst, ◌∙◌, arith}
use Rattle.std.proofs.lemmas.Result.{IfOk-weaker}
use Rattle.tfpg_graph.specs.Graph.{incoming}
use Rattle.tfpg_sim.specs.inside.Arrivals.{AreNearFlights}
use Rattle.tfpg_sim.specs.inside.Flights.{LandsBy}
use Rattle.tfpg_sim.specs.Simulation.{IsFirst}
use Rattle.tfpg_sim.proofs.lemmas.flights.ArrivingFlights.{flights_small, or_arrival, and_arrival, no_arrival}
use Rattle.tfpg_sim.proofs.arrival.first_arrival.Goals as goal

pub first_landing-requires-clause-flights : goal.first_landing-requires-clause-flights
first_landing-requires-clause-flights c =
    subst (AreNearFlights) (sym (c.deref.ensures.value ∙ c.in_ok-flights.ensures))
    (flights_small c.args.delayed.now.graph.now c.args.delayed.now.delays.now c.args.trace.now (incoming c.args.delayed.now.graph.now c.args.node) c.requires.delayed.delays c.requires.times)

pub first_landing-requires-in-And-clause-flights : goal.first_landing-requires-in-And-clause-flights
first_landing-requires-in-And-clause-flights c =
    subst (AreNearFlights) (sym (c.deref-in-And.ensures.value ∙ c.in_ok-flights.ensures))
    (flights_small c.args.delayed.now.graph.now c.args.delayed.now.delays.now c.args.trace.now (incoming c.args.delayed.now.graph.now c.args.node) c.requires.delayed.delays c.requires.times)

pub returns-in-Or : goal.returns-in-Or
returns-in-Or c =
    IfOk-weaker c.first_landing.result _ _ (λ first landing log limit are.
    or_arrival c.args.delayed.now.graph.now log c.args.delayed.now.delays.now c.args.trace.now c.requires.delayed.each c.args.node c.in-Or.lag limit first c.in-Or.ensures
    (subst (λ flights. IsFirst (LandsBy false log flights) limit first) (c.deref.ensures.value ∙ c.in_ok-flights.ensures) (landing log limit are)))
    c.first_landing.ensures

pub returns-then-len-incoming : goal.returns-then-len-incoming
returns-then-len-incoming c log limit are =
    no_arrival c.args.delayed.now.graph.now log c.args.delayed.now.delays.now c.args.trace.now c.requires.delayed.each c.args.node c.in-And.lag limit c.in-And.ensures
    (omega (arith, ap length c.in_ok-flights.ensures, ap length c.incoming.ensures.edges))

pub returns : goal.returns
returns c =
    IfOk-weaker c.first_landing-in-And.result _ _ (λ first landing log limit are.
    and_arrival c.args.delayed.now.graph.now log c.args.delayed.now.delays.now c.args.trace.now c.requires.delayed.each c.args.node c.in-And.lag limit first c.in-And.ensures
    (omega (arith, ap length c.in_ok-flights.ensures, ap length c.incoming.ensures.edges))
    (subst (λ flights. IsFirst (LandsBy true log flights) limit first) (c.deref-in-And.ensures.value ∙ c.in_ok-flights.ensures) (landing log limit are)))
    c.first_landing-in-And.ensures
