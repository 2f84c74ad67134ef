use Rattle.std.proofs.Common.{subst}
use Rattle.tfpg_trace.specs.FirstFault.{IsVerdict}
use Rattle.tfpg_trace.proofs.lemmas.Explained.{only_yes}
use Rattle.tfpg_trace.proofs.judge.explains.Goals as goal

pub returns-clause-yes : goal.returns-clause-yes
returns-clause-yes c =
    only_yes c.args.graph.now c.args.log.now c.args.set c.args.trace.now c.first_fault.result
    (subst
    (λ trace. IsVerdict c.args.graph.now c.args.log.now c.args.set trace c.first_fault.result) c.of-table.ensures c.first_fault.ensures)
