use Rattle.tfpg_check.proofs.lemmas.judging.NewHypotheses.{checkers_more}
use Rattle.tfpg_check.proofs.kept_hypotheses.new_checkers.Goals as goal

pub loop-number-preserved : goal.loop-number-preserved
loop-number-preserved c =
    checkers_more c.args.table.now.reaches c.loop-number.number c.reach.result.now c.loop-number.checkers.items c.push.new.self.items c.new.result c.reach.ensures c.loop-number.invariant
    c.new.ensures.reach c.new.ensures.represents c.in_ok-push.ensures.items
