-- Where a trace breaks the rules first.
use Rattle.std.specs.Prelude.{◌≡◌, ℕ, ◌<◌, ◌≤◌, List, Some}
use Rattle.tfpg_base.specs.declared.activation.Activation.{Activation}
use Rattle.tfpg_base.specs.Trace.{time_of}
use Rattle.tfpg_graph.specs.Graph.{Tfpg}
use Rattle.tfpg_log.specs.Log.{Logbook, now_of}
use Rattle.tfpg_log.specs.Rules.{KeepsMay, KeepsMust}

-- At this instant, which is its time, the node breaks the may rule.
pub record BreaksMay (graph : Tfpg) (log : Logbook) (trace : List Activation) (node instant : ℕ) : Type 0 where
  pub at : time_of trace node ≡ Some instant
  pub by_now : instant ≤ now_of log
  pub broken : KeepsMay graph log trace node instant → ⊥

-- At this instant, and at none before, the node breaks the must rule.
pub record FirstBreaksMust (graph : Tfpg) (log : Logbook) (trace : List Activation) (node instant : ℕ) : Type 0 where
  pub by_now : instant ≤ now_of log
  pub broken : KeepsMust graph log trace node instant → ⊥
  pub first : (earlier : ℕ) → earlier < instant → KeepsMust graph log trace node earlier
