-- The name of a probe.
use Rattle.std.specs.Prelude.{◌≡◌, ℕ, ◌<◌, ◌^◌, List}
use Rattle.tfpg_graph.specs.Graph.{Tfpg}
use Rattle.tfpg_predict.specs.Probed.{probe_word, IsProbeNumber}

-- The name is that of a probe of the graph.
pub record IsProbeName (graph : Tfpg) (name : List ℕ) : Type 0 where
  pub number : ℕ
  pub small : number < 2 ^ 32
  pub is : name ≡ probe_word number
  pub named : IsProbeNumber graph number
