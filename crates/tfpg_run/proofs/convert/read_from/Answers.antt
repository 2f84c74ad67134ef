use Rattle.tfpg_run.proofs.convert.read_from.Goals as goal

pub returns-else-json-clause-spelled : goal.returns-else-json-clause-spelled
returns-else-json-clause-spelled c = rw c.if-json.false c.read.ensures.spelled
