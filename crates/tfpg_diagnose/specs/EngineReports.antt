-- What the engine of a diagnosis represents.
use Rattle.std.specs.Prelude.{◌≡◌}
use Rattle.tfpg_graph.specs.Graph.{Tfpg}
use Rattle.tfpg_engine.specs.EngineState.{EngineState, EngineRepresents}
use Rattle.tfpg_check.specs.Report.{Progress}
use Rattle.tfpg_base.specs.declared.terms.Terms.{Terms}

-- The engine is of this graph and of these terms. It has the log of this progress, and has returned its rounds.
pub record EngineReports (graph : Tfpg) (terms : Terms) (engine : EngineState) (progress : Progress) : Type 0 where
  pub graph_is : engine.graph ≡ graph
  pub terms_is : engine.terms ≡ terms
  pub log_is : engine.log ≡ progress.log
  pub represents : EngineRepresents engine progress.rounds
