use Rattle.tfpg_clause.proofs.lemmas.first_violated.FirstOfAll.{none_where_kept}
use Rattle.tfpg_clause.proofs.first_clause.violated.Goals as goal

pub returns-clause-rules : goal.returns-clause-rules
returns-clause-rules c =
    none_where_kept c.args.graph.now c.args.log.now c.args.times.now c.is_always_valid.ensures.valid c.requires c.first_violated.result c.first_violated.ensures
