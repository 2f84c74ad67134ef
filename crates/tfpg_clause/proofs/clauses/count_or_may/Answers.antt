use Rattle.std.proofs.Common.{List, ℕ, [], length, sym, ap, ◌∙◌}
use Rattle.std.specs.Prelude.{option_map}
use Rattle.tfpg_graph.specs.Graph.{is_kind_at, is_or, edges_into}
use Rattle.tfpg_clause.specs.inside.FirstSpan.{may_over}
use Rattle.tfpg_clause.proofs.lemmas.first_violated.ClausesBySpan.{or_may_over}
use Rattle.tfpg_clause.proofs.lemmas.alternatives.ClauseFound.{no_may}
use Rattle.tfpg_clause.proofs.clauses.count_or_may.Goals as goal

pub returns-then-not-is_or : goal.returns-then-not-is_or
returns-then-not-is_or c =
    let graph = c.args.site.now.graph.now in
    sym
    (ap (option_map length)
    (no_may c.args.site.now.log.now (is_kind_at is_or graph c.args.node) c.args.node
    (edges_into graph c.args.node) c.args.site.now.span c.args.site.now.horizon (sym c.is_or.ensures.value ∙ c.if-not-is_or.true)))

pub returns : goal.returns
returns c =
    let graph = c.args.site.now.graph.now in
    let log = c.args.site.now.log.now in
    c.may_count.ensures c.args.node
    ∙ ap
    (λ (edges : List ℕ). option_map length
    (may_over graph log c.args.node edges c.args.site.now.horizon c.args.site.now.span)) c.incoming.ensures.edges
    ∙ sym
    (ap (option_map length)
    (or_may_over graph log [] c.args.site.now.horizon c.args.node (sym c.is_or.ensures.value ∙ c.if-not-is_or.false) c.args.site.now.span))
