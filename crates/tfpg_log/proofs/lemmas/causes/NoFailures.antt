-- Without a failure mode nothing becomes active: the empty set reaches no node, since the test that passes none is closed.
-- An AND node of a valid graph has an edge into it, so its sources do not all pass.
use Rattle.std.proofs.Common.{◌≡◌, false, List, [], ◌∷◌, refl, arith}
use Rattle.std.proofs.lemmas.Bool.{false≢true}
use Rattle.tfpg_base.specs.declared.activation.Activation.{Activation}
use Rattle.tfpg_graph.specs.Graph.{Tfpg}
use Rattle.tfpg_graph.specs.Reach.{IsClosed}
use Rattle.tfpg_graph.specs.Valid.{IsValid}
use Rattle.tfpg_graph.specs.ZeroCycle.{HasZeroOrder}
use Rattle.tfpg_log.specs.Log.{Logbook}
use Rattle.tfpg_log.specs.Explains.{Explains}
use Rattle.tfpg_log.proofs.lemmas.causes.AndNodes.{and_node_has_edge}
use Rattle.tfpg_log.proofs.lemmas.causes.InReach.{trace_in_reach}

-- the test that passes no node is closed for the empty set
closed_without : (graph : Tfpg) → IsValid graph → IsClosed graph [] (λ node. false)
closed_without graph valid = record {
  members = λ index d within. absurd (omega arith);
  or_nodes = λ node or edge into passes. passes;
  and_nodes = λ node and each. let first = and_node_has_edge graph node valid and in each 0 first.0 (rw first.2 (omega arith));
}

-- No trace from the empty set activates a node.
pub none_active : (graph : Tfpg) (log : Logbook) (trace : List Activation) → IsValid graph → HasZeroOrder graph
    → Explains graph log [] trace → trace ≡ []
none_active graph log [] valid order explains = refl
none_active graph log (first ∷ others) valid order explains =
    absurd
    (false≢true
    (trace_in_reach graph log [] (first ∷ others) order explains 0 first (omega arith) (λ node. false) (closed_without graph valid)))
