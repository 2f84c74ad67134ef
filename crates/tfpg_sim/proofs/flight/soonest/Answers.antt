use Rattle.std.proofs.Common.{◌≡◌, ◌↔◌, length, refl, arith, subst}
use Rattle.tfpg_sim.specs.inside.Flights.{IsReached}
use Rattle.tfpg_sim.proofs.lemmas.flights.ReachedTimes.{SomeBelow, some_more, earlier-reached}
use Rattle.tfpg_sim.proofs.flight.soonest.Goals as goal

pub loop-pending-preserved : goal.loop-pending-preserved
loop-pending-preserved c =
    some_more c.args.pendings.now c.loop-pending.pending-index c.loop-pending.first _ c.earlier-first.result refl
    c.loop-pending.invariant (earlier-reached c.loop-pending.first _ c.earlier-first.result c.earlier-first.ensures)

pub returns : goal.returns
returns c = λ x.
    let all : c.loop-pending.pending-index ≡ length c.args.pendings.now = omega arith in
    subst (λ n. IsReached c.loop-pending.first x ↔ SomeBelow c.args.pendings.now n x) all (c.loop-pending.invariant x)
