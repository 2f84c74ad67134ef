-- A trace that explains a log from a set stays within the reach of the set.
--
-- Take a test that is closed for the set. It passes the failure modes of the set, and an active node that the failure came
-- to, since it passes the sources that it came from. So it passes each active node.
use Rattle.std.proofs.Common.{◌≡◌, ℕ, ◌<◌, Bool, List, length, get_or, Some, ap, inl, inr, arith}
use Rattle.std.specs.Prelude.{IsTrue, IfSome, All}
use Rattle.std.proofs.lemmas.List.{get_or_default}
use Rattle.std.proofs.lemmas.List.Elements.{All-contains, Contains-get_or}
use Rattle.tfpg_base.specs.declared.activation.Activation.{Activation}
use Rattle.tfpg_base.specs.Trace.{time_of, IsRisingByNode}
use Rattle.tfpg_base.proofs.lemmas.Traces.{time_of-stands}
use Rattle.tfpg_graph.specs.Graph.{Tfpg, failure_at, edges_into}
use Rattle.tfpg_graph.specs.Reach.{IsClosed, Reaches}
use Rattle.tfpg_graph.specs.ZeroCycle.{HasZeroOrder}
use Rattle.tfpg_log.specs.Log.{Logbook}
use Rattle.tfpg_log.specs.Explains.{IsMember, Explains}
use Rattle.tfpg_log.proofs.lemmas.causes.Causes.{caused}
use Rattle.tfpg_log.proofs.lemmas.causes.WalkBack.{traced_back}

-- a closed test passes the failure modes of the set
passes_member : (graph : Tfpg) (set : List ℕ) (test : ℕ → Bool) (node : ℕ) → IsClosed graph set test → IsMember graph set node
    → IsTrue (test node)
passes_member graph set test node closed member =
    rw member.2 at (All-contains (λ index. IfSome (failure_at graph index) (λ n. IsTrue (test n))) set member.0 closed.members member.1)

-- it passes each active node
passes : (graph : Tfpg) (log : Logbook) (set : List ℕ) (trace : List Activation) (test : ℕ → Bool) → HasZeroOrder graph
    → Explains graph log set trace → IsClosed graph set test
    → (node time : ℕ) → time_of trace node ≡ Some time → IsTrue (test node)
passes graph log set trace test order explains closed =
    traced_back graph log trace order (λ node time. IsTrue (test node))
    (λ node time at sources. elim (caused graph log set trace node time explains at) [
      | inl member ↦ passes_member graph set test node closed member
      | inr (inl or) ↦ closed.or_nodes node or.0 or.1.0 or.1.1 (sources or.1.0 or.1.1 or.1.2)
      | inr (inr and) ↦ closed.and_nodes node and.0
          (λ index d within. sources (get_or (edges_into graph node) index d) (Contains-get_or (edges_into graph node) index d within)
          (and.1 index d within))
    ])

-- an activation of a trace says the time of its node
time_of-get_or : (trace : List Activation) (index : ℕ) (d : Activation) → IsRisingByNode trace → index < length trace
    → time_of trace (get_or trace index d).node ≡ Some (get_or trace index d).time
time_of-get_or trace index d rising within =
    time_of-stands trace (get_or trace index d).node index d (record {
      in_range = within;
      before =
          λ k other from upto. omega (
            arith,
            rising k index d upto within,
            ap (λ (a : Activation). a.node) (get_or_default trace k other d (omega arith)),
          );
      here = λ other. ap (λ (a : Activation). a.node) (get_or_default trace index other d within);
    })

-- The set reaches each node that the trace activates.
pub trace_in_reach : (graph : Tfpg) (log : Logbook) (set : List ℕ) (trace : List Activation) → HasZeroOrder graph
    → Explains graph log set trace
    → All (λ activation. Reaches graph set activation.node) trace
trace_in_reach graph log set trace order explains index d within test closed =
    passes graph log set trace test order explains closed (get_or trace index d).node (get_or trace index d).time
    (time_of-get_or trace index d explains.trace_of.0 within)
