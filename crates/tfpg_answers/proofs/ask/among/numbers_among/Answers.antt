use Rattle.std.proofs.Common.{◌∙◌}
use Rattle.tfpg_answers.proofs.lemmas.ask.Left.{numbers_pushed, numbers_kept}
use Rattle.tfpg_answers.proofs.ask.among.numbers_among.Goals as goal
use Rattle.tfpg_answers.proofs.ask.among.numbers_among.Goals.{then-is_left+in_ok-push, else-is_left}

pub loop-index-preserved : goal.loop-index-preserved
loop-index-preserved c =
    elim c.if-is_left.branch [
      | then-is_left+in_ok-push w ↦
          numbers_pushed c.args.findings.now c.loop-index.index c.index-findings-index.result c.loop-index.numbers c.if-is_left.numbers c.is_left.result c.loop-index-test.true c.index-findings-index.is c.loop-index.invariant
          c.is_left.ensures w.if-is_left.true (w.numbers-is ∙ w.in_ok-push.ensures.ok)
      | else-is_left w ↦
          numbers_kept c.args.findings.now c.loop-index.index c.index-findings-index.result c.loop-index.numbers c.if-is_left.numbers c.is_left.result c.loop-index-test.true c.index-findings-index.is c.loop-index.invariant
          c.is_left.ensures w.if-is_left.false w.numbers-is
    ]
