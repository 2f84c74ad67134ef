use Rattle.std.proofs.Common.{◌≡◌, ◌+◌, ◌≤◌, ◌↔◌, length, arith, sym, subst}
use Rattle.tfpg_sim.proofs.lemmas.flights.ReachedTimes.{EachBelow, each_more}
use Rattle.tfpg_sim.proofs.flight.latest.Goals as goal

pub loop-pending-preserved : goal.loop-pending-preserved
loop-pending-preserved c = λ x.
    subst (λ last. (last ≤ x) ↔ EachBelow c.args.pendings.now (c.loop-pending.pending-index + 1) x) (sym c.max-last.ensures)
    (each_more c.args.pendings.now c.loop-pending.pending-index c.loop-pending.last c.in_ok-pending.field-0 c.in_ok-pending.was
    c.loop-pending.invariant x)

pub returns : goal.returns
returns c = λ x.
    let all : c.loop-pending.pending-index ≡ length c.args.pendings.now = omega arith in
    subst (λ n. (c.loop-pending.last ≤ x) ↔ EachBelow c.args.pendings.now n x) all (c.loop-pending.invariant x)
