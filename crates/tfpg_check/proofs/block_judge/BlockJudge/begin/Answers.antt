-- The hypotheses that was made is kept.
use Rattle.tfpg_check.proofs.lemmas.going_on.BlocksJudged.{begins}
use Rattle.tfpg_check.proofs.block_judge.BlockJudge.begin.Goals as goal

pub returns-clause-judged : goal.returns-clause-judged
returns-clause-judged g c =
    begins c.args.self.now c.self.inside.graph c.self.inside.log_lines c.self.inside.log c.self.inside.hypotheses c.args.terms c.in_ok-new.field-0
    c.self.view_is c.in_ok-new.ensures.terms c.in_ok-new.ensures.table c.in_ok-new.ensures.keeps c.in_ok-new.ensures.few
