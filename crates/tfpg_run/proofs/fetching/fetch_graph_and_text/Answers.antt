use Rattle.std.proofs.Common.{[], ◌∷◌, false, refl}
use Rattle.std.proofs.lemmas.Result.{err_from_is_err_and}
use Rattle.tfpg_base.proofs.lemmas.lists.Choices.{IfErr-from}
use Rattle.tfpg_graph.specs.Faults.{IsFirstFault}
use Rattle.tfpg_run.specs.Fetch.{HasFile}
use Rattle.tfpg_run.specs.inside.Faults.{IsFetchFault, fetch_fault_of_shelf}
use Rattle.tfpg_run.proofs.lemmas.Refused.{IsFetchFault-first, IsFetchFault-second, IsFetchFault-refused, fetched_two}
use Rattle.tfpg_run.proofs.fetching.fetch_graph_and_text.Goals as goal

pub returns-in_err-graph_text-clause-fault : goal.returns-in_err-graph_text-clause-fault
returns-in_err-graph_text-clause-fault g c =
    let before = g.F.Shelf.state c.args.shelf.now in
    let now = g.F.Shelf.state c.fetch_file.new.shelf in
    let others = c.args.text_name.now ∷ [] in
    IfErr-from (IsFetchFault c.args.graph_name.now others before now) c.from_residual.result (fetch_fault_of_shelf c.in_err-graph_text.field-0.0) c.from_residual.ensures.1
    (IsFetchFault-first IsFirstFault before now c.args.graph_name.now others c.in_err-graph_text.field-0.0 c.in_err-graph_text.ensures.fault)

pub returns-in_err-text-clause-fault : goal.returns-in_err-text-clause-fault
returns-in_err-text-clause-fault g c =
    let before = g.F.Shelf.state c.args.shelf.now in
    let between = g.F.Shelf.state c.fetch_file.new.shelf in
    let now = g.F.Shelf.state c.fetch_file-2.new.shelf in
    IfErr-from (IsFetchFault c.args.graph_name.now (c.args.text_name.now ∷ []) before now) c.from_residual-in_err-text.result (fetch_fault_of_shelf c.in_err-text.field-0.0) c.from_residual-in_err-text.ensures.1
    (IsFetchFault-second IsFirstFault before between now c.args.graph_name.now c.args.text_name.now c.in_err-text.field-0.0 c.fetch_file.ensures.same_files
    c.in_ok-graph_text.ensures.fetched c.in_err-text.ensures.fault)

pub returns-in_err-graph-clause-fault : goal.returns-in_err-graph-clause-fault
returns-in_err-graph-clause-fault g c =
    let before = g.F.Shelf.state c.args.shelf.now in
    let between = g.F.Shelf.state c.fetch_file.new.shelf in
    let now = g.F.Shelf.state c.fetch_file-2.new.shelf in
    let file : HasFile before c.args.graph_name.now c.deref.result.now = rw c.deref.ensures.value c.in_ok-graph_text.ensures.file in
    let p = err_from_is_err_and c.from_residual-in_err-graph.result c.from_residual-in_err-graph.ensures.1 in
    rw (p.1, p.2)
    (IsFetchFault-refused false before now c.args.graph_name.now (c.args.text_name.now ∷ []) 2 c.deref.result.now c.in_err-graph.field-0.0 refl
    (fetched_two before between now c.args.graph_name.now c.args.text_name.now _ c.in_ok-text.text.items c.fetch_file.ensures.same_files c.in_ok-graph_text.ensures.file c.in_ok-text.ensures.file
    c.in_ok-graph_text.ensures.fetched c.in_ok-text.ensures.fetched)
    file c.in_err-graph.ensures.refused)

pub returns-clause-fetched : goal.returns-clause-fetched
returns-clause-fetched g c =
    let before = g.F.Shelf.state c.args.shelf.now in
    let between = g.F.Shelf.state c.fetch_file.new.shelf in
    let now = g.F.Shelf.state c.fetch_file-2.new.shelf in
    fetched_two before between now c.args.graph_name.now c.args.text_name.now _ c.in_ok-text.text.items c.fetch_file.ensures.same_files c.in_ok-graph_text.ensures.file c.in_ok-text.ensures.file
    c.in_ok-graph_text.ensures.fetched c.in_ok-text.ensures.fetched
