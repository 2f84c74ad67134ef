use Rattle.std.proofs.Common.{length, sym, ap, ◌∙◌}
use Rattle.std.specs.Prelude.{option_map, option_and_then}
use Rattle.tfpg_clause.specs.Clauses.{must_in}
use Rattle.tfpg_clause.specs.inside.Alternatives.{dues_over}
use Rattle.tfpg_clause.proofs.lemmas.alternatives.ClauseFound.{and_must_found}
use Rattle.tfpg_clause.proofs.clauses.count_and_must.Goals as goal

pub returns : goal.returns
returns c =
    let graph = c.args.site.now.graph.now in
    let log = c.args.site.now.log.now in
    let window = c.in_ok-window.window in
    c.must_count.ensures c.args.node
    ∙ ap
    (λ edges.
    option_map length
    (option_and_then (λ dues. must_in c.args.node c.args.site.now.span window dues)
    (dues_over graph log c.args.site.now.span c.args.site.now.horizon edges)))
    c.incoming.ensures.edges
    ∙ sym (ap (option_map length)
    (and_must_found graph log c.args.node c.args.site.now.span c.args.site.now.horizon window
    (sym c.is_and.ensures.value ∙ c.if-not-is_and.false) (sym c.in_ok-window.ensures.value)))
