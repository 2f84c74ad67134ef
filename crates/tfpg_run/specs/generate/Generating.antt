-- What `generate` does: it draws a graph and a script, simulates the script, diagnoses the log, and writes what became
-- of the truth.
use Rattle.std.specs.Prelude.{◌≡◌, ℕ, List, [], ◌∷◌, ◌++◌, length, Contains, false}
use Rattle.tfpg_base.specs.Hypothesis.{believing}
use Rattle.tfpg_base.specs.Lines.{lines_of}
use Rattle.tfpg_evidence.specs.declared.finding.Finding.{Finding}
use Rattle.tfpg_evidence.specs.declared.round.Round.{Round}
use Rattle.tfpg_evidence.specs.Findings.{hypothesis_of}
use Rattle.tfpg_evidence.specs.RoundOf.{is_rejected}
use Rattle.tfpg_sim.specs.declared.simulated.Simulated.{Simulated}
use Rattle.tfpg_sim.specs.Generated.{generated_graph, generated_script}
use Rattle.tfpg_sim.specs.Simulated.{IsSimulationOf}
use Rattle.tfpg_run.specs.declared.end.End.{End}
use Rattle.tfpg_run.specs.EndsOf.{EndsBy, end_of_output_fault}
use Rattle.tfpg_diagnose.specs.Rounds.{AreRoundsOf}
use Rattle.tfpg_run.specs.generate.Terms.{generated_terms}
use Rattle.tfpg_streams.specs.Outputs.{TextEnds}
use Rattle.tfpg_run.specs.generate.Summary.{drawn_text, rounds_text, truth_text}
use Rattle.tfpg_run.specs.World.{World}

-- The text says what was drawn by the number and the size, and what the last of the rounds of the simulated log says:
-- how many hypotheses have each status, and the status of the simulated set, which is never rejected. A hypothesis has at most
-- `GENERATED_K` failure modes, and at most `GENERATED_BUDGET` splits in a round.
pub record HasSummary (number size : ℕ) (text : List ℕ) : Type 0 where
  pub simulated : Simulated
  pub simulation : IsSimulationOf (generated_graph number size) (generated_script number size) number simulated
  pub earlier : List Round
  pub last : Round
  pub rounds : AreRoundsOf (generated_graph number size) generated_terms (lines_of simulated.log) (earlier ++ last ∷ [])
  pub truth : Finding
  pub found : Contains last.findings truth
  pub of_truth : hypothesis_of truth ≡ believing simulated.set
  pub not_rejected : is_rejected truth.status ≡ false
  pub text_is : text ≡ drawn_text number size (generated_graph number size) (length (lines_of simulated.log))
      ++ rounds_text (length (earlier ++ last ∷ [])) last.counts
      ++ truth_text (generated_graph number size) simulated.set truth.status

-- How `generate` ends, which asks for no file and takes nothing from the input.
abbrev pub GenerateEnds : ℕ → ℕ → World → World → End → Type 0
GenerateEnds number size before now end =
    EndsBy (TextEnds (HasSummary number size) before.output now.output) end_of_output_fault end
    × (now.input ≡ before.input) × (now.shelf ≡ before.shelf)
