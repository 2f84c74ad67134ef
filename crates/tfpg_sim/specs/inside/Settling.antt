-- A simulation under way: which nodes are active, and when each other discrepancy is activated by them. No public
-- contract cites this.
use Rattle.std.specs.Prelude.{◌≡◌, zero, suc, ◌+◌, is_none, if◌then◌else◌, ℕ, ◌<◌, ◌≤◌, List, length, All, IsTrue, false, Option, Some, None, slice_index_or}
use Rattle.tfpg_base.specs.declared.activation.Activation.{Activation}
use Rattle.tfpg_base.specs.Trace.{time_of, with_time}
use Rattle.tfpg_sim.specs.declared.entry.Entry.{Entry}
use Rattle.tfpg_sim.specs.declared.entry.Entry.TheVariants.{Start, Mode, Sweep, Tick, Stop}
use Rattle.tfpg_graph.specs.Graph.{Tfpg, is_kind_at, is_failure}
use Rattle.tfpg_log.specs.Log.{Logbook}
use Rattle.tfpg_sim.specs.Simulation.{Arrives, IsFirst}

-- the candidates, where there is none of a node
abbrev pub candidate_at : List (Option ℕ) → ℕ → Option ℕ
candidate_at candidates node = slice_index_or candidates node None

-- What a simulation goes by: a graph, the log that has the changes of mode, the delay of each edge, and the last instant.
pub record SimulationCase : Type 0 where
  pub graph : Tfpg
  pub log : Logbook
  pub delays : List ℕ
  pub limit : ℕ

-- the case of a graph, a log, delays and a last instant
abbrev pub simulation_case : Tfpg → Logbook → List ℕ → ℕ → SimulationCase
simulation_case graph log delays limit = record { graph = graph; log = log; delays = delays; limit = limit }

-- the failure arrives at the node by this trace
abbrev pub ArrivesBy : SimulationCase → List Activation → ℕ → ℕ → Type 0
ArrivesBy case trace node instant = Arrives case.graph case.log case.delays trace node instant

-- What is known of the next activation of a node: nothing of a failure mode or of a node that is active already, and
-- else the first arrival by the nodes that are active so far.
pub record IsCandidate (case : SimulationCase) (trace : List Activation) (node : ℕ) (candidate : Option ℕ) : Type 0 where
  pub failure_mode : IsTrue (is_kind_at is_failure case.graph node) → candidate ≡ None
  pub active : (time : ℕ) → time_of trace node ≡ Some time → candidate ≡ None
  pub waiting : is_kind_at is_failure case.graph node ≡ false → time_of trace node ≡ None
      → IsFirst (ArrivesBy case trace node) case.limit candidate

-- so much of each node
pub record AreCandidates (case : SimulationCase) (trace : List Activation) (candidates : List (Option ℕ)) : Type 0 where
  pub count : length candidates ≡ length case.graph.nodes
  pub each : (node : ℕ) → node < length case.graph.nodes
      → IsCandidate case trace node (candidate_at candidates node)

-- the least of the candidates
pub record IsEarliest (candidates : List (Option ℕ)) (node time : ℕ) : Type 0 where
  pub within : node < length candidates
  pub here : candidate_at candidates node ≡ Some time
  pub least : (other later : ℕ) → candidate_at candidates other ≡ Some later → time ≤ later

-- A simulation is under way: the discrepancies that are active are so from their first arrival on, and no candidate is
-- earlier than one of them.
pub record IsUnderWay (case : SimulationCase) (starts : ℕ → Option ℕ) (trace : List Activation) (candidates : List (Option ℕ)) : Type 0 where
  pub within : All (λ activation. activation.node < length case.graph.nodes) trace
  pub times : All (λ activation. activation.time ≤ case.limit) trace
  pub failure_modes : (node : ℕ) → IsTrue (is_kind_at is_failure case.graph node) → time_of trace node ≡ starts node
  pub settled : (node time : ℕ) → is_kind_at is_failure case.graph node ≡ false → time_of trace node ≡ Some time
      → IsFirst (ArrivesBy case trace node) case.limit (Some time)
  pub known : AreCandidates case trace candidates
  pub ordered : (node time other later : ℕ) → is_kind_at is_failure case.graph node ≡ false → time_of trace node ≡ Some time
      → candidate_at candidates other ≡ Some later → time ≤ later

-- the least of the first candidates, where there is one
abbrev pub IsEarliestBelow : List (Option ℕ) → ℕ → Option (ℕ × ℕ) → Type 0
IsEarliestBelow candidates count None = (node : ℕ) → node < count → candidate_at candidates node ≡ None
IsEarliestBelow candidates count (Some found) =
    (found.0 < count) × (candidate_at candidates found.0 ≡ Some found.1)
    × ((other later : ℕ) → other < count → candidate_at candidates other ≡ Some later → found.1 ≤ later)

-- a failure mode of the graph becomes active up to the stop
abbrev pub IsFailureStart : Tfpg → ℕ → Activation → Type 0
IsFailureStart graph stop activation = IsTrue (is_kind_at is_failure graph activation.node) × (activation.time ≤ stop)

-- the trace with the failure mode that a line starts
abbrev pub with_start : Entry → List Activation → List Activation
with_start (Start time node) trace = with_time node time trace
with_start (Mode time mode) trace = trace
with_start (Sweep time) trace = trace
with_start (Tick time) trace = trace
with_start (Stop time) trace = trace

-- how many of the first nodes are not active
abbrev pub waiting_count : List Activation → ℕ → ℕ
waiting_count trace zero = 0
waiting_count trace (suc node) = waiting_count trace node + (if is_none (time_of trace node) then 1 else 0)
