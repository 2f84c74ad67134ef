use Rattle.std.proofs.Common.{[]}
use Rattle.tfpg_base.proofs.lemmas.lists.Choices.{IfErr-from}
use Rattle.tfpg_run.specs.declared.fault.FetchFault.TheVariants.{NoMemory}
use Rattle.tfpg_run.specs.inside.Faults.{IsFetchFault}
use Rattle.tfpg_run.proofs.fleet.fetch_graph_and_names.Goals as goal

pub returns-in_err-names-clause-fault : goal.returns-in_err-names-clause-fault
returns-in_err-names-clause-fault g c =
    let before = g.F.Shelf.state c.args.shelf.now in
    let now = g.F.Shelf.state c.fetch_graph.new.shelf in
    IfErr-from (IsFetchFault c.args.subject.now.file.now [] before now) c.from_residual-in_err-names.result NoMemory c.from_residual-in_err-names.ensures.1
    (1, c.in_ok-graph.ensures.fetched)
