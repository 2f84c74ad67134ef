use Rattle.std.proofs.Common.{arith}
use Rattle.tfpg_clause.proofs.lemmas.first_violated.FirstOfAll.{kind_met, subjects_more}
use Rattle.tfpg_clause.proofs.first_clause.first_of_kind.Goals as goal

pub loop-subject-preserved : goal.loop-subject-preserved
loop-subject-preserved c =
    subjects_more c.args.graph.now c.args.log.now c.args.times.now c.args.kind c.loop-subject.subject c.loop-subject.invariant c.in_default.ensures

pub returns : goal.returns
returns c =
    kind_met c.args.graph.now c.args.log.now c.args.times.now c.args.kind
    (λ subject within. c.loop-subject.invariant subject (omega (arith, within, c.subject_count-count.ensures, c.loop-subject-test.false)))
