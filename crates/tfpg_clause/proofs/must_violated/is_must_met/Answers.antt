use Rattle.std.proofs.Common.{sym}
use Rattle.std.proofs.lemmas.Bool.{both_ways, true_from_ne_false}
use Rattle.tfpg_clause.specs.inside.Alternatives.{due_by_number}
use Rattle.tfpg_clause.proofs.lemmas.first_violated.MustMet.{met_by_excuse, not_met}
use Rattle.tfpg_clause.proofs.must_violated.is_must_met.Goals as goal

pub returns-else-times-must : goal.returns-else-times-must
returns-else-times-must c =
    let edges = c.args.must.now.edges.now in
    let f = due_by_number c.args.site.now.graph.now c.args.site.now.log.now c.args.site.now.span c.args.site.now.horizon in
    let room = sym c.in-Some.ensures.value in (
      λ yes. met_by_excuse f edges c.args.times.now c.args.must.now.node c.args.site.now.span c.args.window c.in-Some.latest room
          (c.is_excused.ensures.0 yes),
      λ met.
          true_from_ne_false c.is_excused.result
          (λ no.
          not_met f edges c.args.times.now c.args.must.now.node c.args.site.now.span c.args.window c.in-Some.latest room c.if-window-site.false c.if-times-must.false
          (λ excuse. both_ways c.is_excused.result no (c.is_excused.ensures.1 excuse)) met),
    )
