-- A new engine of the graph that a text spells.
use Rattle.std.specs.Prelude.{◌≡◌, ℕ, List, []}
use Rattle.tfpg_base.specs.declared.terms.Terms.{Terms}
use Rattle.tfpg_log.specs.LogOfLines.{new_log}
use Rattle.tfpg_engine.specs.EngineState.{EngineState, EngineRepresents, calls_of_engine}
use Rattle.tfpg_check.specs.Report.{HasReports}
use Rattle.tfpg_diagnose.specs.texts.Opening.{GivesGraphOf}

-- The engine is of the graph that the text spells, on these terms, of which there are reports, took no line, and made no counted call.
pub record IsNewEngineOf (text : List ℕ) (terms : Terms) (engine : EngineState) : Type 0 where
  pub gives : GivesGraphOf text engine.graph
  pub terms_is : engine.terms ≡ terms
  pub log_is : engine.log ≡ new_log
  pub represents : EngineRepresents engine []
  pub uncounted : calls_of_engine engine ≡ 0
  pub has_reports : HasReports engine.graph engine.terms
