use Rattle.std.proofs.Common.{length, subst, ◌++◌, ◌+◌, ◌∷◌, [], IfSome, Option, sym, ap, ◌∙◌}
use Rattle.tfpg_graph.specs.Graph.{lag_of}
use Rattle.tfpg_sim.specs.declared.draws.Lateness.{Lateness}
use Rattle.tfpg_sim.specs.Draws.{after_lag, lateness_drawn}
use Rattle.tfpg_sim.specs.inside.Entries.{IsLatenessInRange, AreLatenessesInRange}
use Rattle.tfpg_sim.proofs.lemmas.simulations.DrawLists.{latenesses_from-more, after_nodes-more, valid_lag}
use Rattle.tfpg_sim.proofs.draws.draw_latenesses.Goals as goal
use Rattle.std.proofs.lemmas.List.{length_push}
use Rattle.std.proofs.lemmas.Option.{IfSome_then}
use Rattle.std.proofs.lemmas.List.Elements.{All-append, All-cons, All-nil}

pub draw_lateness-requires : goal.draw_lateness-requires
draw_lateness-requires c =
    IfSome_then (lag_of c.kind.result) (valid_lag c.args.graph.now c.node_count-node-end.ensures.valid c.loop-node.node c.kind.result c.kind.ensures)
    (λ lag valid. (valid.in_order, valid.most))

pub loop-node-preserved : goal.loop-node-preserved
loop-node-preserved c =
    let before = c.loop-node.invariant in
    let one = c.draw_lateness.ensures.lateness ∙ ap (λ state. lateness_drawn state (lag_of c.kind.result)) before.after in
    let InRange : Option Lateness → Type 0 = λ lateness. IfSome lateness IsLatenessInRange in
    record {
      latenesses = c.in_ok-push.ensures.items ∙ (λ i. before.latenesses i ++ one i ∷ [])
          ∙ sym (latenesses_from-more c.args.state.now c.args.graph.now.nodes c.loop-node.node c.kind.result c.kind.ensures);
      after = c.draw_lateness.ensures.after ∙ ap (λ state. after_lag state (lag_of c.kind.result)) before.after
          ∙ sym (after_nodes-more c.args.state.now c.args.graph.now.nodes c.loop-node.node c.kind.result c.kind.ensures);
      small = subst AreLatenessesInRange (sym c.in_ok-push.ensures.items)
          (All-append InRange c.loop-node.latenesses.items (c.draw_lateness.result ∷ []) before.small (All-cons InRange c.draw_lateness.result [] c.draw_lateness.ensures.small (All-nil InRange)));
      count = ap length c.in_ok-push.ensures.items ∙ length_push c.loop-node.latenesses.items c.draw_lateness.result ∙ ap (λ n. n + 1) before.count;
    }
