-- The age of an edge by its window, with no counting back through instants.
use Rattle.std.specs.Prelude.{◌≡◌, ℕ, ◌+◌, ◌≤◌, List, Option, Some}
use Rattle.tfpg_base.specs.declared.activation.Activation.{Activation}
use Rattle.tfpg_base.specs.Trace.{time_of}
use Rattle.tfpg_graph.specs.declared.edge.Edge.{Edge}
use Rattle.tfpg_log.specs.declared.span.Window.{Window}

-- By an instant both are at least so many milliseconds old: the window, which there is, and the activation of the edge's
-- source.
pub record HasAgeInWindow (found : Option Window) (trace : List Activation) (edge : Edge)
    (instant age : ℕ) : Type 0 where
  pub window : Window
  pub there : found ≡ Some window
  pub start : ℕ
  pub source : time_of trace edge.source ≡ Some start
  pub since_window : window.lo + age ≤ instant
  pub since_source : start + age ≤ instant
