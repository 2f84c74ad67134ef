use Rattle.std.proofs.Common.{◌≡◌, ap, sym, ◌∙◌, get_or}
use Rattle.std.specs.Prelude.{is_some}
use Rattle.tfpg_base.proofs.lemmas.lists.Valued.{filter_map-counts_some, filter_map-counts_none}
use Rattle.tfpg_base.proofs.lemmas.lists.Choices.{is_some-option_map}
use Rattle.tfpg_clause.specs.inside.Alternatives.{arrival_over, constraints_in}
use Rattle.tfpg_clause.proofs.may.arrival_count.Goals as goal
use Rattle.tfpg_clause.proofs.may.arrival_count.Goals.{then-is_some, else-is_some}

pub loop-edge-preserved : goal.loop-edge-preserved
loop-edge-preserved c =
    let h = arrival_over c.args.site.now.graph.now c.args.site.now.log.now c.args.site.now.span c.args.site.now.horizon c.args.span in
    let edges = c.args.edges.now in
    let i = c.loop-edge.edge-index in
    let there : is_some (h (get_or edges i 0)) ≡ c.is_some.result =
    ap is_some (sym c.arrival_over.ensures) ∙ is_some-option_map constraints_in c.arrival_over.result ∙ sym c.is_some.ensures in
    elim c.if-is_some.branch [
      | then-is_some w ↦
          rw w.count-is
          (filter_map-counts_some h edges i 0 c.loop-edge-test.true c.loop-edge.count
          (there ∙ w.if-is_some.true) c.loop-edge.invariant)
      | else-is_some w ↦
          rw w.count-is
          (filter_map-counts_none h edges i 0 c.loop-edge-test.true c.loop-edge.count
          (there ∙ w.if-is_some.false) c.loop-edge.invariant)
    ]
