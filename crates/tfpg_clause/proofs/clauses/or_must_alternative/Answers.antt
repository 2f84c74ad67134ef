use Rattle.std.proofs.Common.{List, slice_get, sym, ap, ◌∙◌}
use Rattle.std.specs.Prelude.{option_map}
use Rattle.tfpg_base.specs.declared.constraint.Constraint.{Constraint}
use Rattle.tfpg_graph.specs.Graph.{is_or}
use Rattle.tfpg_base.specs.Choice.{item_at}
use Rattle.tfpg_clause.proofs.lemmas.alternatives.ClauseFound.{target_there, or_must_found}
use Rattle.tfpg_clause.proofs.clauses.or_must_alternative.Goals as goal

pub returns : goal.returns
returns c =
    let graph = c.args.site.now.graph.now in
    let there =
    target_there is_or graph c.in_ok-target.target (slice_get graph.edges c.args.edge)
    (sym (sym c.or_target.ensures.value ∙ c.in_ok-target.ensures.ok_part)) in
    c.must_alternative_in.ensures
    ∙ sym (ap (option_map (λ (clause : List (List Constraint)). item_at clause c.args.alternative))
    (or_must_found graph c.args.site.now.log.now c.args.site.now.span c.args.site.now.horizon c.in_ok-target.target c.in_ok-window.window
    (slice_get graph.edges c.args.edge) there.0 there.1
    (sym (sym c.find_window.ensures.value ∙ c.in_ok-window.ensures.ok_part))))
