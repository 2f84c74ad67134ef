use Rattle.std.proofs.Common.{◌<◌, length, take, ap, subst, arith, ◌∙◌}
use Rattle.tfpg_clause.specs.Case.{case_of}
use Rattle.tfpg_clause.specs.Paths.{with_steps}
use Rattle.tfpg_check.specs.inside.Parts.{IsTakenAs}
use Rattle.tfpg_check.proofs.lemmas.judging.StepsTaken.{taken_more, taken_bad, taken_all}
use Rattle.tfpg_check.proofs.lemmas.judging.TestsInTurn.{item_read, value_read}
use Rattle.tfpg_check.proofs.round.steps.take_steps.Goals as goal

pub returns-in-Some-clause-taken : goal.returns-in-Some-clause-taken
returns-in-Some-clause-taken c = λ earlier is.
    let graph = c.args.graph.now in
    let log = c.args.log.now in
    let part = c.args.part.now in
    let before = c.loop-index.invariant.1 earlier is in
    let step = c.index-steps-index.result in
    let line : c.loop-index.index < length c.as_slice-lines.result.now =
    omega (arith, c.loop-index-test.true, ap length c.as_slice-steps.ensures, ap length c.as_slice-lines.ensures, c.requires.lines) in
    taken_bad graph log c.args.checker.now.reach part.step_lines part.steps earlier c.loop-index.index _ step c.loop-index.checker c.take_step.new.checker c.in-Some.broken c.cause_of.result
    (item_read part.steps _ c.loop-index.index c.index-steps-index.result c.as_slice-steps.ensures c.loop-index-test.true c.index-steps-index.is)
    (value_read part.step_lines _ c.loop-index.index 0 c.as_slice-lines.ensures line) c.cause_of.ensures c.loop-index.invariant.0 before
    (subst (IsTakenAs (case_of graph log c.loop-index.checker.reach) (with_steps earlier log (take c.loop-index.index part.steps)) step c.take_step.new.checker) c.in-Some.is
    (c.in_ok-broken.ensures.taken (with_steps earlier log (take c.loop-index.index part.steps)) before.0))

pub loop-index-preserved : goal.loop-index-preserved
loop-index-preserved c =
    let graph = c.args.graph.now in
    let log = c.args.log.now in
    let part = c.args.part.now in
    let step = c.index-steps-index.result in (
      c.in_ok-broken.ensures.reach ∙ c.loop-index.invariant.0,
      λ earlier is. (let before = c.loop-index.invariant.1 earlier is in
          taken_more graph log c.args.checker.now.reach part.step_lines part.steps earlier c.loop-index.index step c.loop-index.checker c.take_step.new.checker
          (item_read part.steps _ c.loop-index.index c.index-steps-index.result c.as_slice-steps.ensures c.loop-index-test.true c.index-steps-index.is) c.loop-index.invariant.0 before
          (subst (IsTakenAs (case_of graph log c.loop-index.checker.reach) (with_steps earlier log (take c.loop-index.index part.steps)) step c.take_step.new.checker) c.in_default.is
          (c.in_ok-broken.ensures.taken (with_steps earlier log (take c.loop-index.index part.steps)) before.0))),
    )

pub returns-clause-taken : goal.returns-clause-taken
returns-clause-taken c = λ earlier is.
    taken_all c.args.graph.now c.args.log.now c.args.checker.now.reach c.args.part.now earlier c.loop-index.checker c.loop-index.index
    (omega (arith, c.loop-index-test.false, ap length c.as_slice-steps.ensures)) (c.loop-index.invariant.1 earlier is)
