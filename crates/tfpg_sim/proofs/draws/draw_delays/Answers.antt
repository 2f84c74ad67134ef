use Rattle.std.proofs.Common.{◌+◌, ◌≤◌, length, subst, ◌++◌, ◌∷◌, [], sym, ap, ◌∙◌}
use Rattle.tfpg_sim.specs.inside.Arrivals.{AreNearDelays, far}
use Rattle.tfpg_sim.specs.Draws.{drawn, after_draw, delay_of}
use Rattle.tfpg_sim.proofs.lemmas.simulations.DrawLists.{delays_from-more, after_edges-more}
use Rattle.tfpg_sim.proofs.draws.draw_delays.Goals as goal
use Rattle.std.proofs.lemmas.List.{length_push}
use Rattle.std.proofs.lemmas.List.Elements.{All-append, All-cons, All-nil}

pub loop-number-preserved : goal.loop-number-preserved
loop-number-preserved c =
    let before = c.loop-number.invariant in
    let one = c.draw_delay.ensures.delay ∙ ap (λ state. delay_of c.edge.result (drawn state)) before.after in
    record {
      delays = c.in_ok-push.ensures.items ∙ (λ i. before.delays i ++ one i ∷ [])
          ∙ sym (delays_from-more c.args.state.now c.args.graph.now.edges c.loop-number.number c.edge.result c.edge.ensures);
      after = c.draw_delay.ensures.after ∙ ap after_draw before.after
          ∙ sym (after_edges-more c.args.state.now c.args.graph.now.edges c.loop-number.number c.edge.result c.edge.ensures);
      small = subst (AreNearDelays) (sym c.in_ok-push.ensures.items)
          (All-append (λ delay. delay ≤ far) c.loop-number.delays.items (c.draw_delay.result ∷ []) before.small (All-cons (λ delay. delay ≤ far) c.draw_delay.result [] c.draw_delay.ensures.small (All-nil (λ delay. delay ≤ far))));
      count = ap length c.in_ok-push.ensures.items ∙ length_push c.loop-number.delays.items c.draw_delay.result ∙ ap (λ n. n + 1) before.count;
    }
