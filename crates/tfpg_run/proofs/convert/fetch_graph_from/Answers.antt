use Rattle.std.proofs.Common.{[], refl}
use Rattle.std.proofs.lemmas.Result.{err_from_is_err_and}
use Rattle.tfpg_base.proofs.lemmas.lists.Choices.{IfErr-from}
use Rattle.tfpg_run.specs.Fetch.{HasFile, IsFetchFaultBy}
use Rattle.tfpg_run.specs.convert.Converting.{IsFaultFrom}
use Rattle.tfpg_run.specs.inside.Faults.{fetch_fault_of_shelf}
use Rattle.tfpg_run.proofs.lemmas.Refused.{IsFetchFault-first, IsFetchFault-refused}
use Rattle.tfpg_run.proofs.convert.fetch_graph_from.Goals as goal

pub returns-in_err-text-clause-fault : goal.returns-in_err-text-clause-fault
returns-in_err-text-clause-fault g c =
    let before = g.F.Shelf.state c.args.shelf.now in
    let now = g.F.Shelf.state c.fetch_file.new.shelf in
    IfErr-from (IsFetchFaultBy (IsFaultFrom c.args.json) c.args.name.now [] before now) c.from_residual.result (fetch_fault_of_shelf c.in_err-text.field-0.0) c.from_residual.ensures.1
    (IsFetchFault-first (IsFaultFrom c.args.json) before now c.args.name.now [] c.in_err-text.field-0.0 c.in_err-text.ensures.fault)

pub returns-in_err-read_from-clause-fault : goal.returns-in_err-read_from-clause-fault
returns-in_err-read_from-clause-fault g c =
    let before = g.F.Shelf.state c.args.shelf.now in
    let now = g.F.Shelf.state c.fetch_file.new.shelf in
    let file : HasFile before c.args.name.now c.deref.result.now = rw c.deref.ensures.value c.in_ok-text.ensures.file in
    let p = err_from_is_err_and c.from_residual-in_err-read_from.result c.from_residual-in_err-read_from.ensures.1 in
    rw (p.1, p.2)
    (IsFetchFault-refused c.args.json before now c.args.name.now [] 1 c.deref.result.now c.in_err-read_from.field-0.0 refl c.in_ok-text.ensures.fetched file c.in_err-read_from.ensures.refused)
