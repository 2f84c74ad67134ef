use Rattle.std.proofs.Common.{◌+◌, length, take, refl}
use Rattle.std.proofs.lemmas.Option.{slice_get_read}
use Rattle.tfpg_base.proofs.lemmas.lists.Cuts.{take-next}
use Rattle.tfpg_whatif.proofs.lemmas.Judging.{none_taken, one_more_taken}
use Rattle.tfpg_whatif.proofs.early.is_refutation.Goals as goal

pub loop-step-init : goal.loop-step-init
loop-step-init c =
    none_taken c.args.subject.now.graph.now c.args.subject.now.log.now c.args.subject.now.reach c.new-checker.result c.new-checker.ensures.reach (c.new-checker.ensures.represents c.args.subject.now.graph.now c.args.subject.now.log.now)

pub loop-step-preserved : goal.loop-step-preserved
loop-step-preserved c =
    let steps = c.args.steps.now in
    let index = c.loop-step.step-index in
    one_more_taken c.args.subject.now.graph.now c.args.subject.now.log.now c.args.subject.now.reach (take index steps) (take (index + 1) steps) c.step-item.result c.loop-step.checker c.takes.new.checker
    (take-next steps index c.step-item.result (slice_get_read steps (length steps) index c.step-item.result refl c.loop-step-test.true c.step-item.is))
    (c.in_ok-takes.ensures c.if-not-branch.false) c.loop-step.invariant
