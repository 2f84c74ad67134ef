-- What the lines of a round say of a graph.
use Rattle.std.specs.Prelude.{◌<◌, length, All}
use Rattle.tfpg_base.specs.declared.activation.Activation.{Activation}
use Rattle.tfpg_graph.specs.Graph.{Tfpg}
use Rattle.tfpg_report.specs.SetText.{IsHypothesisOf}
use Rattle.tfpg_report.specs.ReadRounds.{HasLineForEachStep, hypothesis_ranked}
use Rattle.tfpg_report.specs.declared.read_round.RankedLine.{RankedLine}
use Rattle.tfpg_report.specs.declared.read_round.ReadRound.{ReadRound}

-- A ranked line names failure modes, monitors and nodes of the graph.
pub record IsRankedLineOf (graph : Tfpg) (r : RankedLine) : Type 0 where
  pub hypothesis : IsHypothesisOf graph (hypothesis_ranked r)
  pub nodes : All (λ (activation : Activation). activation.node < length graph.nodes) r.trace

-- The ranked lines of a round are of the graph, and each of its steps has a line.
pub record IsReadRoundOf (graph : Tfpg) (read : ReadRound) : Type 0 where
  pub ranked : All (IsRankedLineOf graph) read.ranked
  pub lines : All HasLineForEachStep read.parts
