use Rattle.std.proofs.Common.{refl}
use Rattle.tfpg_whatif.proofs.lemmas.Judging.{has_taken}
use Rattle.tfpg_whatif.proofs.early.takes.Goals as goal

pub returns-in-Open : goal.returns-in-Open
returns-in-Open c right =
    has_taken c.args.graph.now c.args.log.now c.args.step.now c.args.checker.now c.reserve.new.self c.take.new.self c.take.result _ c.reserve.ensures.same c.in-Open.is (λ steps. refl) c.take.ensures.reach
    c.take.ensures.represents

pub returns-in-Closed : goal.returns-in-Closed
returns-in-Closed c right =
    has_taken c.args.graph.now c.args.log.now c.args.step.now c.args.checker.now c.reserve.new.self c.take.new.self c.take.result _ c.reserve.ensures.same c.in-Closed.is (λ steps. refl) c.take.ensures.reach
    c.take.ensures.represents
