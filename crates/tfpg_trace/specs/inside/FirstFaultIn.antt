-- Where a node breaks the must rule first: in a span, and at all.
use Rattle.std.specs.Prelude.{◌≡◌, ℕ, ◌<◌, ◌≤◌, List, Option, Some, None}
use Rattle.tfpg_base.specs.declared.activation.Activation.{Activation}
use Rattle.tfpg_graph.specs.Graph.{Tfpg}
use Rattle.tfpg_log.specs.Log.{Logbook, now_of}
use Rattle.tfpg_log.specs.Rules.{KeepsMust}
use Rattle.tfpg_log.specs.Spans.{span_number}
use Rattle.tfpg_trace.specs.Broken.{FirstBreaksMust}

-- At this instant, and at none before in the span of this number, the node breaks the must rule.
pub record FirstBreaksIn (graph : Tfpg) (log : Logbook) (trace : List Activation)
    (node number instant : ℕ) : Type 0 where
  pub by_now : instant ≤ now_of log
  pub inside : span_number log instant ≡ number
  pub broken : KeepsMust graph log trace node instant → ⊥
  pub first : (earlier : ℕ) → earlier < instant → span_number log earlier ≡ number
      → KeepsMust graph log trace node earlier

-- the first instant of the span of this number at which the node breaks the must rule, where there is one up to now
abbrev pub IsFirstFaultIn : Tfpg → Logbook → List Activation → ℕ → ℕ → Option ℕ → Type 0
IsFirstFaultIn graph log trace node number None =
    (instant : ℕ) → instant ≤ now_of log → span_number log instant ≡ number → KeepsMust graph log trace node instant
IsFirstFaultIn graph log trace node number (Some instant) = FirstBreaksIn graph log trace node number instant

-- the first instant at which the node breaks the must rule, where there is one up to now
abbrev pub IsFirstMustFault : Tfpg → Logbook → List Activation → ℕ → Option ℕ → Type 0
IsFirstMustFault graph log trace node None =
    (instant : ℕ) → instant ≤ now_of log → KeepsMust graph log trace node instant
IsFirstMustFault graph log trace node (Some instant) = FirstBreaksMust graph log trace node instant
