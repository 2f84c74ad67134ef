-- What an event of a log of a graph names is of the graph: so a node that is silent is a node of the graph.
use Rattle.std.proofs.Common.{◌≡◌, ℕ, zero, suc, ◌-◌, ◌<◌, eqb, length, Some, subst}
use Rattle.std.specs.Prelude.{IsTrue}
use Rattle.std.proofs.lemmas.Bool.{eqb-true, and_parts}
use Rattle.std.proofs.lemmas.Option.{option_and_then_some, cond_some}
use Rattle.tfpg_base.proofs.lemmas.lists.Elements.{All-at}
use Rattle.tfpg_graph.specs.Graph.{Tfpg, is_monitored}
use Rattle.tfpg_graph.proofs.lemmas.NodeAt.{monitored_within}
use Rattle.tfpg_log.specs.declared.event.Event.{Event}
use Rattle.tfpg_log.specs.declared.event.Event.TheVariants.{Alarm, Silent, Sweep, Tick, Mode}
use Rattle.tfpg_log.specs.Log.{Logbook, IsLogOf, IsEventOf, event_at, first_events, silence_time, silence_at, inactive_until, quiet_at}

-- what holds of each event holds of that of a number
pub event_own : (graph : Tfpg) (log : Logbook) (number : ℕ) (event : Event) → IsLogOf graph log → event_at log number ≡ Some event
    → IsEventOf graph event
event_own graph log zero event of at = absurd cc
event_own graph log (suc before) event of at = All-at (IsEventOf graph) log.events before event of.own at

silence_monitored : (graph : Tfpg) (before : Logbook) (event : Event) (node time : ℕ) → IsEventOf graph event
    → silence_time graph before event node ≡ Some time
    → IsTrue (is_monitored graph node)
silence_monitored graph before (Alarm at alarmed) node time own is = absurd cc
silence_monitored graph before (Silent at silent) node time own is =
    subst (λ (n : ℕ). IsTrue (is_monitored graph n)) (eqb-true silent node (cond_some (eqb silent node) at time is).0) own
silence_monitored graph before (Sweep at) node time own is = (and_parts _ _ (cond_some _ at time is).0).0
silence_monitored graph before (Tick at) node time own is = absurd cc
silence_monitored graph before (Mode at mode) node time own is = absurd cc

-- A node that is silent is a monitored node of the graph.
pub silent_monitored : (graph : Tfpg) (log : Logbook) (number node time : ℕ) → IsLogOf graph log
    → silence_at graph log number node ≡ Some time → IsTrue (is_monitored graph node)
silent_monitored graph log number node time of is =
    option_and_then_some (λ (event : Event). silence_time graph (first_events log (number - 1)) event node) (event_at log number) time is
    (λ event at rest. silence_monitored graph (first_events log (number - 1)) event node time (event_own graph log number event of at) rest)

-- So it is a node of the graph.
pub silent_within : (graph : Tfpg) (log : Logbook) (number node time : ℕ) → IsLogOf graph log → silence_at graph log number node ≡ Some time
    → node < length graph.nodes
silent_within graph log number node time of is = monitored_within graph node (silent_monitored graph log number node time of is)

-- So is one of which an event says that it is not active.
pub quiet_within : (graph : Tfpg) (log : Logbook) (number node until : ℕ) → IsLogOf graph log → quiet_at graph log number node ≡ Some until
    → node < length graph.nodes
quiet_within graph log number node until of is =
    option_and_then_some (inactive_until graph log node) (silence_at graph log number node) until is
    (λ time at rest. silent_within graph log number node time of at)
