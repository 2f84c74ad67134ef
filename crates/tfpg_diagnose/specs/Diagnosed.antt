-- What a diagnosis of lines in memory has come to.
use Rattle.std.specs.Prelude.{◌≡◌, ℕ, List, [], ◌∷◌, ◌++◌, flat_map, Option, Some, None}
use Rattle.tfpg_base.specs.declared.terms.Terms.{Terms}
use Rattle.tfpg_graph.specs.Graph.{Tfpg}
use Rattle.tfpg_graph.specs.Valid.{IsValid}
use Rattle.tfpg_log.specs.Log.{Logbook}
use Rattle.tfpg_log.specs.LogOfLines.{log_of_lines}
use Rattle.tfpg_evidence.specs.declared.round.Round.{Round}
use Rattle.tfpg_hyp.specs.Rounds.{IsRound}
use Rattle.tfpg_report.specs.Blocks.{Block}
use Rattle.tfpg_check.specs.Report.{AreBlocks, progress_of, rounds_of}
use Rattle.tfpg_diagnose.specs.declared.diagnosis.Diagnosis.{Diagnosis}
use Rattle.tfpg_diagnose.specs.RightReport.{RoundSays, RoundsSay}
use Rattle.tfpg_diagnose.specs.EngineReports.{EngineReports}

-- The round is the last of these rounds. It is one of the log, and says what a round says.
pub record IsLastOf (graph : Tfpg) (terms : Terms) (log : Logbook) (rounds : List Round) (round : Round) : Type 0 where
  pub earlier : List Round
  pub cut : rounds ≡ earlier ++ round ∷ []
  pub line : ℕ
  pub is_round : IsRound graph terms earlier log line round
  pub says : RoundSays graph terms earlier log round

-- So it is where there is a last round, and else there are no rounds.
abbrev pub HasLastOf : Tfpg → Terms → Logbook → List Round → Option Round → Type 0
HasLastOf graph terms log rounds None = rounds ≡ []
HasLastOf graph terms log rounds (Some round) = IsLastOf graph terms log rounds round

-- The diagnosis of the graph on these terms has taken these lines, each of which has its block.
pub record HasDiagnosed (graph : Tfpg) (terms : Terms) (lines : List (List ℕ)) (diagnosis : Diagnosis) : Type 0 where
  pub valid : IsValid graph
  pub blocks : List Block
  pub are_blocks : AreBlocks graph terms lines blocks
  pub say : RoundsSay graph terms lines blocks
  pub reports : EngineReports graph terms diagnosis.engine (progress_of graph lines blocks)
  pub last : HasLastOf graph terms (log_of_lines graph lines) (flat_map rounds_of blocks) diagnosis.last

-- The diagnosis has taken some lines.
abbrev pub IsDiagnosed : Diagnosis → Type 0
IsDiagnosed diagnosis =
    (lines : List (List ℕ)) × HasDiagnosed diagnosis.engine.graph diagnosis.engine.terms lines diagnosis
