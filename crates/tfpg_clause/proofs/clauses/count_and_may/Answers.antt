use Rattle.std.proofs.Common.{[], length, slice_get, sym, ap, ◌∙◌}
use Rattle.std.specs.Prelude.{option_map}
use Rattle.tfpg_graph.specs.Graph.{is_and}
use Rattle.tfpg_clause.proofs.lemmas.first_violated.ClausesBySpan.{and_may_over}
use Rattle.tfpg_clause.proofs.lemmas.alternatives.ClauseFound.{target_there, no_may_of_edge}
use Rattle.tfpg_clause.proofs.clauses.count_and_may.Goals as goal

pub returns-in_err-target : goal.returns-in_err-target
returns-in_err-target c =
    rw c.from_residual.ensures
    (sym (ap (option_map length)
    (no_may_of_edge c.args.site.now.graph.now c.args.site.now.log.now c.args.site.now.span c.args.site.now.horizon
    (slice_get c.args.site.now.graph.now.edges c.args.edge) c.in_err-target.ensures.value)))

pub returns : goal.returns
returns c =
    let graph = c.args.site.now.graph.now in
    let there = target_there is_and graph c.in_ok-target.target (slice_get graph.edges c.args.edge) c.in_ok-target.ensures.value in
    c.may_count.ensures c.in_ok-target.target
    ∙ sym (ap (option_map length)
    (and_may_over graph c.args.site.now.log.now [] c.args.site.now.horizon c.args.edge c.in_ok-target.target c.args.site.now.span
    (slice_get graph.edges c.args.edge) there.0 there.1))
