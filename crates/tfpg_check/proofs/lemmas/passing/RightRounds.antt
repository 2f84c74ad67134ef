-- A round that passes each test is a right round.
use Rattle.std.proofs.Common.{◌≡◌, ℕ, ◌<◌, List, length, map, take, All, sym, subst, subst₂}
use Rattle.tfpg_base.specs.declared.terms.Terms.{Terms}
use Rattle.tfpg_graph.specs.Graph.{Tfpg}
use Rattle.tfpg_graph.specs.Valid.{IsValid}
use Rattle.tfpg_log.specs.declared.event.Event.{Event}
use Rattle.tfpg_log.specs.Log.{Logbook, IsOrdered}
use Rattle.tfpg_evidence.specs.declared.finding.Finding.{Finding}
use Rattle.tfpg_evidence.specs.declared.round.Round.{Round}
use Rattle.tfpg_hyp.specs.Table.{IsTable}
use Rattle.tfpg_hyp.specs.Rounds.{IsRound, steps_so_far}
use Rattle.tfpg_hyp.specs.Views.{case_for}
use Rattle.tfpg_report.specs.declared.read_round.Part.{Part}
use Rattle.tfpg_report.specs.declared.read_round.ReadRound.{ReadRound}
use Rattle.tfpg_report.specs.Blocks.{Block, round_lines}
use Rattle.tfpg_report.specs.ReadRounds.{NumberedLine, lines_of_round, HasLineForEachStep}
use Rattle.tfpg_check.specs.Report.{AreBlocks}
use Rattle.tfpg_check.specs.Causes.{DiagnosisProblem, IsRoundBasis, progress_after_blocks}
use Rattle.tfpg_check.specs.Judging.{RoundBasis}
use Rattle.tfpg_check.specs.Passing.{RoundPasses}
use Rattle.tfpg_check.proofs.lemmas.passing.StepsSoFar.{AreRightSteps, EachHasRightSteps, steps_before_are_right}
use Rattle.tfpg_check.proofs.lemmas.passing.ReadFindings.{AreReadFindings, findings_read}
use Rattle.tfpg_check.proofs.lemmas.passing.RightFindings.{round_read, are_findings, is_order}
use Rattle.tfpg_check.proofs.lemmas.passing.RightCounts.{are_counts}
use Rattle.tfpg_check.proofs.lemmas.passing.RightLines.{are_lines}

-- Each part has a step, and each step has a line on which it begins.
pub record HasWholeParts (read : ReadRound) : Type 0 where
  pub each_has : All (λ (part : Part). 0 < length part.steps) read.parts
  pub each_step : All HasLineForEachStep read.parts

-- Some round after these rounds has the lines that were read.
pub record IsRightRound (graph : Tfpg) (terms : Terms) (rounds : List Round) (log : Logbook) (line : ℕ) (read : ReadRound) : Type 0 where
  pub round : Round
  pub is_round : IsRound graph terms rounds log line round
  pub lines_are : map (λ (l : NumberedLine). l.says) (lines_of_round read) ≡ round_lines round

-- A round that passes each test is a right round, where the steps before are right.
pub right_round : (graph : Tfpg) (terms : Terms) (rounds : List Round) (basis : RoundBasis) (line : ℕ) (read : ReadRound) → IsValid graph → basis.graph ≡ graph → basis.terms ≡ terms
    → IsTable graph terms basis.hypotheses → ((number : ℕ) → basis.steps number ≡ steps_so_far number rounds) → EachHasRightSteps graph basis.log basis.hypotheses basis.steps
    → HasWholeParts read → RoundPasses basis line read → IsRightRound graph terms rounds basis.log line read
right_round graph terms rounds basis line read valid of_graph on_terms table steps before whole passes =
    record {
      round = round_read read found.0;
      is_round = subst₂ (λ (g : Tfpg) (t : Terms). IsRound g t rounds basis.log line (round_read read found.0)) of_graph on_terms
          (record {
            number = passes.begins.number;
            line_is = passes.begins.line_is;
            now_is = passes.begins.now;
            hypotheses = basis.hypotheses;
            table = subst₂ (λ (g : Tfpg) (t : Terms). IsTable g t basis.hypotheses) (sym of_graph) (sym on_terms) table;
            complete = found.1.as_many;
            findings = are_findings basis line read passes found.0 found.1 rounds steps;
            order = is_order basis line read passes found.0 found.1;
            counts = are_counts basis line read passes found.0 found.1;
          });
      lines_are = are_lines basis line read passes found.0 found.1 whole.each_has whole.each_step;
    }
  where
    found : (findings : List Finding) × AreReadFindings basis read findings
    found =
        findings_read basis line read passes (subst IsValid (sym of_graph) valid)
        (subst (λ (g : Tfpg). EachHasRightSteps g basis.log basis.hypotheses basis.steps) (sym of_graph) before)

-- So is one that comes after right blocks.
pub right_round_after : (problem : DiagnosisProblem) (terms : Terms) (blocks : List Block) (event : Event) (basis : RoundBasis) (line : ℕ) (read : ReadRound) → IsValid problem.graph
    → AreBlocks problem.graph terms (take (length blocks) problem.log_lines) blocks → IsRoundBasis problem terms blocks event basis → IsOrdered basis.log → HasWholeParts read
    → RoundPasses basis line read → IsRightRound problem.graph terms (progress_after_blocks problem blocks).rounds basis.log line read
right_round_after problem terms blocks event basis line read valid are is ordered whole passes =
    right_round problem.graph terms (progress_after_blocks problem blocks).rounds basis line read valid is.graph is.terms_are is.hypotheses is.steps
    (λ number hypothesis at reach reached. subst (AreRightSteps (case_for problem.graph basis.log hypothesis reach)) (sym (is.steps number))
    (steps_before_are_right problem.graph terms (take (length blocks) problem.log_lines) blocks basis.hypotheses is.hypotheses are event basis.log is.log ordered number hypothesis at reach reached))
    whole passes
