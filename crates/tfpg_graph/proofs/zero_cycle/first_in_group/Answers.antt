use Rattle.std.proofs.Common.{arith}
use Rattle.tfpg_graph.proofs.lemmas.zero_cycle.ZeroCycles.{LiesOnZeroCycle-stays, none_lies_before, HasZeroOrder-groups}
use Rattle.tfpg_graph.proofs.zero_cycle.first_in_group.Goals as goal

pub returns-then-stays_in_group-clause-lies : goal.returns-then-stays_in_group-clause-lies
returns-then-stays_in_group-clause-lies c =
    LiesOnZeroCycle-stays c.args.declared.now c.args.groups.now c.requires.valid c.requires.groups
    c.loop-number.number c.edge.result c.edge.ensures
    (c.stays_in_group.ensures.0 c.if-stays_in_group.true)

pub returns-then-stays_in_group-clause-first : goal.returns-then-stays_in_group-clause-first
returns-then-stays_in_group-clause-first c = λ earlier before lies.
    none_lies_before c.args.declared.now c.args.groups.now c.requires.valid c.requires.groups c.loop-number.number
    earlier c.loop-number.invariant before lies

pub returns-clause-order : goal.returns-clause-order
returns-clause-order c =
    HasZeroOrder-groups c.args.declared.now c.args.groups.now c.requires.valid c.requires.groups c.loop-number.number
    (omega arith) c.loop-number.invariant
