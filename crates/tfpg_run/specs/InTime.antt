-- Each block, and each answer, is written before the next read.
use Rattle.std.specs.Prelude.{◌≡◌, ◌⊎◌, List, [], ℕ, Ok}
use Rattle.tfpg_base.specs.declared.terms.Terms.{Terms}
use Rattle.tfpg_base.specs.Lines.{whole_lines}
use Rattle.tfpg_graph.specs.Graph.{Tfpg}
use Rattle.tfpg_words.specs.Meaning.{Meaning, Diagnose, Fleet}
use Rattle.tfpg_run.specs.declared.end.End.{End}
use Rattle.tfpg_run.specs.declared.end.End.TheVariants.{ReadFault}
use Rattle.tfpg_run.specs.Fetch.{GivesGraph, LacksFiles}
use Rattle.tfpg_streams.specs.Outputs.{TakesAndWrites}
use Rattle.tfpg_run.specs.Run.{RunEnds}
use Rattle.tfpg_run.specs.World.{World, streams_of}
use Rattle.tfpg_run.specs.fleet.FleetOutput.{IsFleetOutputSoFar, fleet_problem}
use Rattle.tfpg_diagnose.specs.RightReport.{IsRightReport}
use Rattle.tfpg_diagnose.specs.TellsPanels.{desks}

-- The output has what is right for the lines that the input gave whole, and no write failed.
pub record WritesWholeLines (IsRight : Tfpg → List (List ℕ) → List ℕ → Type 0) (name : List ℕ) (before now : World) : Type 0 where
  pub graph : Tfpg
  pub gives : GivesGraph before.shelf name graph
  pub works : TakesAndWrites (λ taken written. IsRight graph (whole_lines taken) written) (streams_of before) (streams_of now)
  pub no_write_failed : now.output.faults ≡ before.output.faults

-- What is right for a line is written before the next read. If a read fails, what is right for all lines that came whole is written, and no
-- write failed (`whole`); or the file that could not be read was that of the graph. No run has a failed read and a failed write
-- (`not_both`). A body cannot know which will fail. If it read on before it wrote, that read could fail, then the write, and it had no end.
pub record WritesInTime (meant : Meaning) (name : List ℕ) (IsRight : World → World → Tfpg → List (List ℕ) → List ℕ → Type 0) : Type 0 where
  pub whole : (before now : World) → RunEnds (Ok meant) before now ReadFault
      → LacksFiles name [] before now ReadFault ⊎ WritesWholeLines (IsRight before now) name before now
  pub not_both : (before now : World) (end : End) → RunEnds (Ok meant) before now end
      → (now.input.faults ≡ before.input.faults) ⊎ (now.output.faults ≡ before.output.faults)

-- So `diagnose` writes the block of each line, and tells the panels its round.
abbrev pub BlocksComeInTime : Type 0
BlocksComeInTime = (terms : Terms) (name : List ℕ)
    → WritesInTime (Diagnose terms name) name (λ before now graph. IsRightReport graph terms (desks before.desk now.desk))

-- So `fleet` writes the answer to each line.
abbrev pub AnswersComeInTime : Type 0
AnswersComeInTime = (terms : Terms) (name : List ℕ) (names : List (List ℕ))
    → WritesInTime (Fleet terms name names) name (λ before now graph. IsFleetOutputSoFar (fleet_problem graph terms names))
