use Rattle.std.proofs.Common.{sym, ◌∙◌, arith}
use Rattle.std.proofs.lemmas.Bool.{false≢true}
use Rattle.tfpg_graph.proofs.lemmas.reach.Reaches.{AreReachedBefore-none, AreReachedBefore-to, AreReachedBefore-without, AreReachedBefore-all, own_small}
use Rattle.tfpg_graph.proofs.graph.Graph.own_nodes.Goals as goal
use Rattle.tfpg_graph.proofs.graph.Graph.own_nodes.Goals.{then-has, else-has}

pub loop-position-init : goal.loop-position-init
loop-position-init c = rw c.empty-nodes.ensures (AreReachedBefore-none c.args.self.now c.args.set)

pub with-nodes-requires : goal.with-nodes-requires
with-nodes-requires c = own_small c.args.self.now c.args.set c.is_always_valid.ensures.valid c.loop-position.position c.failure_node.result c.failure_node.ensures.node

pub loop-position-preserved : goal.loop-position-preserved
loop-position-preserved c =
    elim c.if-has.branch [
      | then-has w ↦ rw w.nodes-is
          (AreReachedBefore-to c.args.self.now c.args.set c.loop-position.position c.loop-position.nodes c.loop-position.invariant w.with-nodes.result w.failure_node.result
          c.is_always_valid.ensures.valid w.with-nodes.ensures.nodes (c.has.ensures.member.0 w.if-has.true) w.failure_node.ensures.node)
      | else-has w ↦ rw w.nodes-is
          (AreReachedBefore-without c.args.self.now c.args.set c.loop-position.position c.loop-position.nodes c.loop-position.invariant
          (λ member. false≢true (sym w.if-has.false ∙ c.has.ensures.member.1 member)))
    ]

pub returns : goal.returns
returns c = AreReachedBefore-all c.args.self.now c.args.set c.loop-position.position c.loop-position.nodes c.loop-position.invariant (omega arith)
