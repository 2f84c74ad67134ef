-- The may rule at an AND node.
use Rattle.std.proofs.Common.{◌≡◌, ℕ, Bool, List, Option, Some, refl}
use Rattle.std.specs.Prelude.{IsTrue, ◌↔◌}
use Rattle.tfpg_base.specs.declared.activation.Activation.{Activation}
use Rattle.tfpg_base.specs.Trace.{time_of}
use Rattle.tfpg_graph.specs.declared.kind.Kind.TheVariants.{And}
use Rattle.tfpg_graph.specs.declared.kind.Lag.{Lag}
use Rattle.tfpg_graph.specs.Graph.{Tfpg, kind_at, is_or, is_and}
use Rattle.tfpg_graph.proofs.lemmas.NodeAt.{kind_test, not_so}
use Rattle.tfpg_log.specs.Log.{Logbook}
use Rattle.tfpg_log.specs.Rules.{KeepsMay, AllArrive}

module _ (graph : Tfpg) (log : Logbook) (trace : List Activation) (node instant : ℕ) where
  module _ (result : Bool) (at : time_of trace node ≡ Some instant) (lag : Option Lag) where
    -- an AND node keeps it where each edge has
    pub may_of_and : kind_at graph node ≡ Some (And lag) → IsTrue result ↔ AllArrive graph log trace node instant
        → IsTrue result ↔ KeepsMay graph log trace node instant
    may_of_and is same = (
      λ yes. record { or_node = λ or _. absurd (not_so graph node is_or (And lag) is refl or); and_node = λ and _. same.0 yes },
      λ keeps. same.1 (keeps.and_node (kind_test graph node is_and (And lag) is) at),
    )
