use Rattle.std.proofs.Common.{sym, ◌∙◌, ap, length, arith}
use Rattle.std.proofs.lemmas.Bool.{false≢true}
use Rattle.tfpg_graph.proofs.lemmas.reach.Reaches.{Widens-along, IsFullBefore-more}
use Rattle.tfpg_graph.proofs.graph.Graph.sweep_up.Goals as goal
use Rattle.tfpg_graph.proofs.graph.Graph.sweep_up.Goals.{then-add_if_fed, else-add_if_fed}

pub loop-node-preserved : goal.loop-node-preserved
loop-node-preserved c =
    let widens = Widens-along c.args.self.now c.args.reached.now c.loop-node.reached c.add_if_fed.new.reached c.loop-node.invariant.widens c.add_if_fed.ensures.widens in
    elim c.if-add_if_fed.branch [
      | then-add_if_fed w ↦ record {
        widens = widens;
        added = λ added. omega (arith, c.loop-node.invariant.widens.longer, c.add_if_fed.ensures.added w.if-add_if_fed.true);
        full = λ none. absurd (false≢true (sym none ∙ w.added-is));
      }
      | else-add_if_fed w ↦ record {
        widens = widens;
        added = λ added. omega (arith, c.loop-node.invariant.added (sym w.added-is ∙ added), ap length (c.add_if_fed.ensures.same w.if-add_if_fed.false));
        full = λ none. IsFullBefore-more c.args.self.now c.loop-node.reached c.add_if_fed.new.reached c.loop-node.node
            (c.add_if_fed.ensures.same w.if-add_if_fed.false) (c.add_if_fed.ensures.full w.if-add_if_fed.false) (c.loop-node.invariant.full (sym w.added-is ∙ none));
      }
    ]
