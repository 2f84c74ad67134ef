use Rattle.std.proofs.lemmas.Bool.{iff_false}
use Rattle.tfpg_trace.proofs.lemmas.NotDueBefore.{kept_at_failure, kept_at_or, kept_at_and}
use Rattle.tfpg_trace.proofs.due_first.can_be_late.Goals as goal

pub returns-in-Failure : goal.returns-in-Failure
returns-in-Failure c _ log instant =
    kept_at_failure c.args.graph.now log c.args.trace.now c.args.node instant c.in-Failure.rarity c.in-Failure.ensures

pub returns-in-Or : goal.returns-in-Or
returns-in-Or c cannot log instant =
    kept_at_or c.args.graph.now log c.args.trace.now c.args.node instant c.in-Or.lag c.at-until.result c.at-until.ensures c.in-Or.ensures
    (iff_false c.some_can_be_due.ensures cannot)

pub returns-in-And : goal.returns-in-And
returns-in-And c cannot log instant =
    kept_at_and c.args.graph.now log c.args.trace.now c.args.node instant c.in-And.lag c.at-until.result c.at-until.ensures c.in-And.ensures
    (iff_false c.all_can_be_due.ensures cannot)
