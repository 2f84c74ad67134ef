-- Lines that are right so far go on right, with a line within a round, or one that completes the next block.
use Rattle.std.proofs.Common.{◌≡◌, ℕ, ◌+◌, ◌≤◌, false, List, [], ◌∷◌, ◌++◌, length, Some, slice_get, Result, Ok, Err, refl, sym, ap, subst, subst₂, ◌∙◌, arith, append_assoc}
use Rattle.std.specs.Prelude.{flat_map}
use Rattle.std.proofs.lemmas.List.Elements.{All-nil}
use Rattle.tfpg_base.specs.declared.terms.Terms.{Terms}
use Rattle.tfpg_base.specs.Hypothesis.{Hypothesis}
use Rattle.tfpg_base.specs.declared.limits.TheConstants.{MAX_PANEL_NUMBER}
use Rattle.tfpg_graph.specs.Graph.{Tfpg}
use Rattle.tfpg_log.specs.declared.event.Event.{Event}
use Rattle.tfpg_log.specs.Log.{Logbook, with_event}
use Rattle.tfpg_evidence.specs.declared.round.Round.{Round as RoundOf}
use Rattle.tfpg_clause.specs.Trees.{Judged}
use Rattle.tfpg_kernel.specs.Represents.{CheckerRepresents}
use Rattle.tfpg_hyp.specs.Hypotheses.{IsTableOf}
use Rattle.tfpg_hyp.specs.Rounds.{IsRound, steps_so_far}
use Rattle.tfpg_hyp.specs.Views.{log_for}
use Rattle.tfpg_log.specs.declared.refused_line.RefusedLine.{RefusedLine}
use Rattle.tfpg_report.specs.declared.report_line.ReportLine.{ReportLine}
use Rattle.tfpg_report.specs.Blocks.{Block, Loss, RefusedBlock, RoundBlock, block_lines}
use Rattle.tfpg_report.specs.Reading.{begun_in, is_last}
use Rattle.tfpg_report.proofs.lemmas.block_reader.BegunLines.{begun_in_on}
use Rattle.tfpg_check.specs.Report.{AreLosses, IsBlockOf, rounds_of}
use Rattle.tfpg_check.specs.Judging.{RoundBasis}
use Rattle.tfpg_check.specs.Causes.{AreRightSoFar, DiagnosisProblem, progress_after_blocks}
use Rattle.tfpg_check.specs.HypothesesState.{HypothesesState, HasChecker, KeepsBasis}
use Rattle.tfpg_check.specs.JudgeState.{BlocksState, KeepsHypotheses, KeepsLog, basis_after}
use Rattle.tfpg_check.specs.inside.BlockSteps.{NextBrings}
use Rattle.tfpg_check.proofs.lemmas.completeness.RightBlocksPass.{IsNextBlock}
use Rattle.tfpg_check.proofs.lemmas.completeness.RightFronts.{right_with_block}
use Rattle.tfpg_check.proofs.lemmas.going_on.NextLines.{event_at, text_at}

-- ---- lines

module _ (problem : DiagnosisProblem) (terms : Terms) (blocks : List Block) (reads : List ReportLine) (right : AreRightSoFar problem terms blocks reads) where
  lines_with : (read : ReportLine) → reads ++ read ∷ [] ≡ right.head ∷ (flat_map block_lines blocks ++ (begun_in reads ++ read ∷ []))
  lines_with read =
      ap (λ (lines : List ReportLine). lines ++ read ∷ []) right.lines_are
      ∙ ap (λ (lines : List ReportLine). right.head ∷ lines) (append_assoc (flat_map block_lines blocks) (begun_in reads) (read ∷ []))

  -- A line within a round goes on right.
  pub right_within : (read : ReportLine) → is_last read ≡ false → AreRightSoFar problem terms blocks (reads ++ read ∷ [])
  right_within read within = record {
    has_reports = right.has_reports;
    head = right.head;
    is_head = right.is_head;
    few = right.few;
    are_blocks = right.are_blocks;
    lines_are = lines_with read ∙ ap (λ (begun : List ReportLine). right.head ∷ (flat_map block_lines blocks ++ begun)) (sym (begun_in_on reads read within));
  }

  -- So does one that completes the next block.
  pub right_with : (block : Block) (read : ReportLine) → IsNextBlock problem terms blocks block → block_lines block ≡ begun_in reads ++ read ∷ []
      → AreRightSoFar problem terms (blocks ++ block ∷ []) (reads ++ read ∷ [])
  right_with block read next lines =
      right_with_block problem terms right.has_reports right.head right.is_head blocks block (reads ++ read ∷ []) right.are_blocks next
      (lines_with read ∙ ap (λ (ls : List ReportLine). right.head ∷ (flat_map block_lines blocks ++ ls)) (sym lines))

-- ---- the next block

-- no panel is lost
pub no_losses : AreLosses []
no_losses = record {
  numbers = All-nil (λ (loss : Loss). loss.panel ≤ MAX_PANEL_NUMBER);
  rising = λ i j d before within. absurd (omega arith);
}

module _ (problem : DiagnosisProblem) (terms : Terms) (blocks : List Block) (state : BlocksState) (keeps : KeepsLog problem blocks state) where
  next_by : (block : Block) (brings : Result Event RefusedLine) → NextBrings state brings
      → IsBlockOf problem.graph terms (progress_after_blocks problem blocks) (length blocks + 1) block brings → IsNextBlock problem terms blocks block
  next_by block brings next is = record {
    text = next.text;
    at = text_at problem blocks state keeps brings next;
    is_block = subst (IsBlockOf problem.graph terms (progress_after_blocks problem blocks) (length blocks + 1) block) (sym (event_at problem blocks state keeps brings next)) is;
  }

  -- The block of a refused line is the next one.
  pub next_refused : (refused : RefusedLine) → NextBrings state (Err refused) → IsNextBlock problem terms blocks (RefusedBlock (length blocks + 1) refused)
  next_refused refused next = next_by (RefusedBlock (length blocks + 1) refused) (Err refused) next refl

  -- So is that of a round of an accepted one.
  pub next_round : (event : Event) (round : RoundOf) → NextBrings state (Ok event)
      → IsRound problem.graph terms (progress_after_blocks problem blocks).rounds (with_event (progress_after_blocks problem blocks).log event) (length blocks + 1) round
      → IsNextBlock problem terms blocks (RoundBlock round [])
  next_round event round next is = next_by (RoundBlock round []) (Ok event) next (round, [], refl, is, no_losses)

-- ---- what is kept of the hypotheses

-- What is kept of a basis is kept of one with the same steps.
pub keeps_same : (basis other : RoundBasis) (log : Logbook) (kept : HypothesesState) → basis.graph ≡ other.graph → basis.terms ≡ other.terms → basis.hypotheses ≡ other.hypotheses
    → ((number : ℕ) (hypothesis : Hypothesis) → slice_get other.hypotheses number ≡ Some hypothesis → basis.steps number ≡ other.steps number)
    → KeepsBasis basis log kept → KeepsBasis other log kept
keeps_same basis other log kept graph terms hypotheses steps keeps = record {
  terms = keeps.terms ∙ terms;
  table = subst₂ (λ (g : Tfpg) (t : Terms). IsTableOf g t kept.table) graph terms keeps.table;
  hypotheses = keeps.hypotheses ∙ hypotheses;
  one_each = keeps.one_each ∙ ap length hypotheses;
  each = each;
}
  where
    each : (number : ℕ) (hypothesis : Hypothesis) → slice_get other.hypotheses number ≡ Some hypothesis → HasChecker other log kept number hypothesis
    each number hypothesis at =
        let own = keeps.each number hypothesis (ap (λ (hs : List Hypothesis). slice_get hs number) hypotheses ∙ at) in
        record {
          checker = own.checker;
          at = own.at;
          reach = own.reach;
          represents = subst₂ (λ (g : Tfpg) (s : List Judged). CheckerRepresents g (log_for log hypothesis) own.checker s) graph (steps number hypothesis at) own.represents;
        }

-- Blocks with the same rounds, after which the log is the same, leave the same of the hypotheses.
pub keeps_hypotheses_same : (problem : DiagnosisProblem) (terms : Terms) (blocks more : List Block) (old new : BlocksState) → flat_map rounds_of blocks ≡ flat_map rounds_of more → new.hypotheses ≡ old.hypotheses
    → new.log ≡ old.log → KeepsHypotheses problem terms blocks old → KeepsHypotheses problem terms more new
keeps_hypotheses_same problem terms blocks more old new rounds basis log keeps = record {
  kept = keeps.kept;
  is_kept = basis ∙ keeps.is_kept;
  on_terms = keeps.on_terms;
  keeps =
      subst (λ (l : Logbook). KeepsBasis (basis_after problem more keeps.kept l) l keeps.kept) (sym log)
      (keeps_same (basis_after problem blocks keeps.kept old.log) (basis_after problem more keeps.kept old.log) old.log keeps.kept refl refl refl
      (λ number hypothesis at. ap (steps_so_far number) rounds) keeps.keeps);
}
