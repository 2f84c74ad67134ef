use Rattle.std.proofs.Common.{arith}
use Rattle.tfpg_engine.proofs.lemmas.NewFindingIsRight.{not_yet, none_from_here, none_at_all}
use Rattle.tfpg_engine.proofs.covering.covering.Goals as goal

pub loop-number-preserved : goal.loop-number-preserved
loop-number-preserved c = not_yet c.args.findings.now c.args.hypothesis c.loop-number.number c.index-findings-number.result c.covers.result c.index-findings-number.is c.loop-number.invariant c.covers.ensures c.if-covers.false

pub returns : goal.returns
returns c = none_at_all c.args.findings.now c.args.hypothesis c.loop-number.number c.loop-number-test.false c.loop-number.invariant

pub returns-then-ranks_as_many : goal.returns-then-ranks_as_many
returns-then-ranks_as_many c = none_from_here c.args.findings.now c.args.hypothesis c.loop-number.number c.index-findings-number.result c.requires.parts_first c.index-findings-number.is c.loop-number-test.true
    (omega (arith, c.member_count-members.ensures, c.ranks_as_many.ensures c.if-ranks_as_many.true)) c.loop-number.invariant
