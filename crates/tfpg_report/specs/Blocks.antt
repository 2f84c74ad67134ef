-- The blocks of a report: the lines of each, and its text.
use Rattle.std.specs.Prelude.{ℕ, List, [], ◌∷◌, ◌++◌, length, map, flat_map, Bool, if◌then◌else◌, ◌==◌}
use Rattle.tfpg_base.specs.declared.terms.Terms.{Terms}
use Rattle.tfpg_base.specs.TextLine.{text_line}
use Rattle.tfpg_graph.specs.Graph.{Tfpg}
use Rattle.tfpg_evidence.specs.declared.finding.Status.{Status}
use Rattle.tfpg_evidence.specs.declared.finding.Status.TheVariants as status
use Rattle.tfpg_evidence.specs.declared.finding.Finding.{Finding}
use Rattle.tfpg_evidence.specs.declared.round.Round.{Round as RoundOf}
use Rattle.tfpg_evidence.specs.Findings.{ranked_in_order, open_in, newly_rejected, hypothesis_of}
use Rattle.tfpg_log.specs.declared.refused_line.RefusedLine.{RefusedLine}
use Rattle.tfpg_report.specs.declared.report_line.ReportLine.{ReportLine}
use Rattle.tfpg_report.specs.declared.report_line.ReportLine.TheVariants.{Refused, Round, Hyp, Ranked, At, Open, Rejected, Counts, Panel}
use Rattle.tfpg_report.specs.LineWords.{head_words, refused_words, lost_words}
use Rattle.tfpg_report.specs.ReportLines.{lines_text}
use Rattle.tfpg_report.specs.ReadRounds.{step_lines}

-- the first line of a report
abbrev pub head_text : Terms → List ℕ
head_text terms = text_line (head_words terms)

-- the lines of a hypothesis with its steps, if it has any in this round
abbrev pub lines_of_finding : Finding → List ReportLine
lines_of_finding finding =
    if length finding.steps == 0 then [] else Hyp finding.number ∷ flat_map step_lines finding.steps

-- the lines of a ranked hypothesis with its trace
abbrev pub lines_if_ranked : Finding → Status → List ReportLine
lines_if_ranked finding (status.Ranked trace cost alarmed monitored) =
    Ranked finding.number cost alarmed monitored (hypothesis_of finding) ∷ map At trace
lines_if_ranked finding _ = []

-- The lines of a round before its counts: its first line; the steps by rising numbers; the ranked hypotheses in ranking
-- order; the open ones and those that this round rejected by rising numbers.
abbrev pub lines_before_counts : RoundOf → List ReportLine
lines_before_counts round =
    Round round.number round.line round.now
    ∷ flat_map lines_of_finding round.findings
    ++ flat_map (λ finding. lines_if_ranked finding finding.status) (ranked_in_order round)
    ++ map (λ finding. Open finding.number (hypothesis_of finding)) (open_in round)
    ++ map (λ finding. Rejected finding.number (hypothesis_of finding)) (newly_rejected round)

-- the lines of a round, the last of which has its counts
abbrev pub round_lines : RoundOf → List ReportLine
round_lines round = lines_before_counts round ++ Counts round.counts ∷ []

-- a panel that was lost, or for which memory ran out, at the round before
pub record Loss : Type 0 where
  pub panel : ℕ
  pub memory : Bool

-- the block of a line: of a refused line, or of a round with the panels that were lost at it
pub data Block : Type 0 where
  RefusedBlock : (line : ℕ) (cause : RefusedLine) → Block
  RoundBlock : (round : RoundOf) (losses : List Loss) → Block

-- the lines of a block
abbrev pub block_lines : Block → List ReportLine
block_lines (RefusedBlock line cause) = Refused line cause ∷ []
block_lines (RoundBlock round losses) = round_lines round ++ map (λ loss. Panel loss.panel loss.memory) losses

-- The text of a block is that of its lines.
abbrev pub block_text : Tfpg → Block → List ℕ
block_text graph block = lines_text graph (block_lines block)

-- the block of a refused line
abbrev pub refused_text : ℕ → RefusedLine → List ℕ
refused_text line cause = text_line (refused_words line cause)

-- the text of a round without the panels that were lost at it
abbrev pub round_text : Tfpg → RoundOf → List ℕ
round_text graph round = lines_text graph (round_lines round)

-- the line of a panel that was lost, or for which memory ran out
abbrev pub lost_text : Loss → List ℕ
lost_text loss = text_line (lost_words loss.panel loss.memory)
