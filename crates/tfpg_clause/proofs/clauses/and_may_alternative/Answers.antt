use Rattle.std.proofs.Common.{List, [], slice_get, sym, ap, ◌∙◌}
use Rattle.std.specs.Prelude.{option_map}
use Rattle.tfpg_base.specs.declared.constraint.Constraint.{Constraint}
use Rattle.tfpg_graph.specs.Graph.{is_and}
use Rattle.tfpg_base.specs.Choice.{item_at}
use Rattle.tfpg_clause.proofs.lemmas.first_violated.ClausesBySpan.{and_may_over}
use Rattle.tfpg_clause.proofs.lemmas.alternatives.ClauseFound.{target_there}
use Rattle.tfpg_clause.proofs.clauses.and_may_alternative.Goals as goal

pub returns : goal.returns
returns c =
    let graph = c.args.site.now.graph.now in
    let there =
    target_there is_and graph c.in_ok-target.target (slice_get graph.edges c.args.edge)
    (sym (sym c.and_target.ensures.value ∙ c.in_ok-target.ensures.ok_part)) in
    c.may_alternative_in.ensures
    ∙ sym (ap (option_map (λ (clause : List (List Constraint)). item_at clause c.args.alternative))
    (and_may_over graph c.args.site.now.log.now [] c.args.site.now.horizon c.args.edge c.in_ok-target.target c.args.site.now.span
    (slice_get graph.edges c.args.edge) there.0 there.1))
