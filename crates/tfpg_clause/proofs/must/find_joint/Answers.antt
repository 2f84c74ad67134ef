use Rattle.tfpg_clause.proofs.lemmas.logs.TimesInRange.{small_joint_if}
use Rattle.tfpg_clause.proofs.must.find_joint.Goals as goal

pub returns-clause-small : goal.returns-clause-small
returns-clause-small c =
    small_joint_if c.args.site.now.graph.now c.args.site.now.log.now c.args.node c.args.site.now.span c.args.site.now.horizon c.joint_of.result c.is_always_ordered.ensures c.joint_of.ensures
