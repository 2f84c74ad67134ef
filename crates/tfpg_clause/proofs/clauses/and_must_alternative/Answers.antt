use Rattle.std.proofs.Common.{List, sym, ap, ◌∙◌}
use Rattle.std.specs.Prelude.{option_map, option_and_then}
use Rattle.tfpg_base.specs.declared.constraint.Constraint.{Constraint}
use Rattle.tfpg_clause.specs.Clauses.{must_in}
use Rattle.tfpg_base.specs.Choice.{item_at}
use Rattle.tfpg_clause.specs.inside.Alternatives.{dues_over}
use Rattle.tfpg_clause.proofs.lemmas.alternatives.ClauseFound.{and_must_found}
use Rattle.tfpg_clause.proofs.clauses.and_must_alternative.Goals as goal

pub returns : goal.returns
returns c =
    let graph = c.args.site.now.graph.now in
    let log = c.args.site.now.log.now in
    let window = c.in_ok-window.window in
    c.must_alternative_in.ensures
    ∙ ap
    (λ edges.
    option_map (λ (clause : List (List Constraint)). item_at clause c.args.alternative)
    (option_and_then (λ dues. must_in c.args.node c.args.site.now.span window dues)
    (dues_over graph log c.args.site.now.span c.args.site.now.horizon edges)))
    c.incoming-edges.ensures.edges
    ∙ sym (ap (option_map (λ (clause : List (List Constraint)). item_at clause c.args.alternative))
    (and_must_found graph log c.args.node c.args.site.now.span c.args.site.now.horizon window
    (sym c.is_and.ensures.value ∙ c.if-not-is_and.false)
    (sym c.find_joint.ensures.value ∙ c.in_ok-window.ensures.ok_part)))
