-- The text of the map of what was simulated spells it.
use Rattle.std.proofs.Common.{◌≡◌, ℕ, ◌<◌, ◌≤◌, List, [], ◌∷◌, length, All, Bool, true, false, IsTrue, sym, subst, arith}
use Rattle.std.specs.Prelude.{if◌then◌else◌}
use Rattle.std.proofs.lemmas.List.Elements.{All-nil, All-cons, All-head, All-tail}
use Rattle.tfpg_base.specs.Hypothesis.{believing}
use Rattle.tfpg_base.specs.declared.activation.Activation.{Activation}
use Rattle.tfpg_base.specs.Lines.{lines_of}
use Rattle.tfpg_base.specs.declared.limits.TheConstants.{MAX_TIME}
use Rattle.tfpg_graph.specs.Graph.{Tfpg, IsSetOf}
use Rattle.tfpg_graph.specs.Valid.{IsValid}
use Rattle.tfpg_log.specs.Log.{Logbook, IsOrdered, now_of}
use Rattle.tfpg_log.specs.Explains.{Explains}
use Rattle.tfpg_clause.proofs.lemmas.logs.TimesInRange.{now_in_range}
use Rattle.tfpg_sim.specs.declared.simulated.Simulated.{Simulated}
use Rattle.tfpg_map.specs.Spelling.{IsActivationOf, SpellsMap}
use Rattle.tfpg_map.specs.MapText.{map_text}
use Rattle.tfpg_map.proofs.lemmas.WrittenMaps.{written_believing}

-- a trace that explains a log is of activations of the graph
explaining_activations : (graph : Tfpg) (now : ℕ) (trace : List Activation) → now ≤ MAX_TIME → All (λ activation. activation.node < length graph.nodes) trace → All (λ activation. activation.time ≤ now) trace
    → All (IsActivationOf graph) trace
explaining_activations graph now [] small within by_now = All-nil (IsActivationOf graph)
explaining_activations graph now (first ∷ others) small within by_now =
    All-cons (IsActivationOf graph) first others
    (record {
      in_graph = All-head (λ activation. activation.node < length graph.nodes) first others within;
      in_range = omega (arith, small, All-head (λ activation. activation.time ≤ now) first others by_now);
    })
    (explaining_activations graph now others small (All-tail (λ activation. activation.node < length graph.nodes) first others within)
    (All-tail (λ activation. activation.time ≤ now) first others by_now))

-- The text of the map of a trace that explains a log spells it.
pub explaining_map : (graph : Tfpg) (log : Logbook) (set : List ℕ) (trace : List Activation) → IsValid graph → IsOrdered log → IsSetOf graph set → Explains graph log set trace
    → SpellsMap graph (lines_of (map_text graph (believing set) trace)) (believing set) trace
explaining_map graph log set trace valid ordered of explains =
    written_believing graph set trace valid of
    (explaining_activations graph (now_of log) trace (now_in_range log ordered) explains.trace_of.1 explains.by_now)
    explains.trace_of.0

-- What is written of a simulation spells its map, where its trace is asked for.
pub simulation_spells : (graph : Tfpg) (log : Logbook) (simulated : Simulated) (trace : Bool) (text : List ℕ) → IsValid graph → IsOrdered log → IsSetOf graph simulated.set
    → Explains graph log simulated.set simulated.trace → text ≡ (if trace then map_text graph (believing simulated.set) simulated.trace else simulated.log) → IsTrue trace → SpellsMap graph (lines_of text) (believing simulated.set) simulated.trace
simulation_spells graph log simulated true text valid ordered of explains is asked =
    subst (λ (t : List ℕ). SpellsMap graph (lines_of t) (believing simulated.set) simulated.trace) (sym is) (explaining_map graph log simulated.set simulated.trace valid ordered of explains)
simulation_spells graph log simulated false text valid ordered of explains is asked = cc
