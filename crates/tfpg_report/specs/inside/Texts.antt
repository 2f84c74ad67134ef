-- The text of each part of a round's block, as it is written.
use Rattle.std.specs.Prelude.{ℕ, List, [], ◌∷◌, ◌++◌, length, map, flat_map, if◌then◌else◌, ◌==◌, codes, decimal}
use Rattle.tfpg_base.specs.TextLine.{text_line}
use Rattle.tfpg_graph.specs.Graph.{Tfpg}
use Rattle.tfpg_evidence.specs.declared.reason.Reason.{Reason}
use Rattle.tfpg_evidence.specs.declared.step.Step.{Step}
use Rattle.tfpg_evidence.specs.declared.step.Step.TheVariants.{Split, Cycle, Again}
use Rattle.tfpg_evidence.specs.declared.finding.Status.{Status}
use Rattle.tfpg_evidence.specs.declared.finding.Status.TheVariants.{Ranked, Covered, Rejected, Open}
use Rattle.tfpg_evidence.specs.declared.finding.Finding.{Finding}
use Rattle.tfpg_evidence.specs.declared.round.Counts.{Counts}
use Rattle.tfpg_evidence.specs.declared.round.Round.{Round}
use Rattle.tfpg_evidence.specs.Findings.{hypothesis_of, ranked_in_order, open_in, newly_rejected}
use Rattle.tfpg_report.specs.SetText.{set_word}
use Rattle.tfpg_report.specs.LineWords.{clause_words, reason_words, robustness_word, counts_words}
use Rattle.tfpg_report.specs.declared.report_line.ReportLine.TheVariants.{At}
use Rattle.tfpg_report.specs.ReportLines.{lines_text}

-- the line of a reason
abbrev pub reason_text : Tfpg → Reason → List ℕ
reason_text graph reason = text_line (codes "why" ∷ reason_words graph reason)

-- the lines of a step
abbrev pub step_text : Tfpg → Step → List ℕ
step_text graph (Split name) = text_line (codes "split" ∷ clause_words graph name)
step_text graph (Cycle reasons) =
    text_line (codes "cycle" ∷ decimal (length reasons) ∷ []) ++ flat_map (reason_text graph) reasons
step_text graph Again = text_line (codes "again" ∷ [])

-- a hypothesis with its steps, where it has any in this round
abbrev pub steps_text : Tfpg → Finding → List ℕ
steps_text graph finding =
    if length finding.steps == 0 then []
    else text_line (codes "hyp" ∷ decimal finding.number ∷ []) ++ flat_map (step_text graph) finding.steps

-- the number of a hypothesis and the text of its set
abbrev pub hypothesis_words : Tfpg → Finding → List (List ℕ)
hypothesis_words graph finding = decimal finding.number ∷ codes "set" ∷ set_word graph (hypothesis_of finding) ∷ []

-- the first line of a ranked hypothesis
abbrev pub ranked_line : Tfpg → Finding → ℕ → ℕ → ℕ → List ℕ
ranked_line graph finding cost alarmed monitored =
    text_line (codes "ranked" ∷ decimal finding.number ∷ codes "cost" ∷ decimal cost
    ∷ codes "robust" ∷ robustness_word alarmed monitored ∷ codes "set" ∷ set_word graph (hypothesis_of finding) ∷ [])

-- a ranked hypothesis and the times of its trace
abbrev pub ranked_text : Tfpg → Finding → Status → List ℕ
ranked_text graph finding (Ranked trace cost alarmed monitored) =
    ranked_line graph finding cost alarmed monitored ++ lines_text graph (map At trace)
ranked_text graph finding (Covered by) = []
ranked_text graph finding Rejected = []
ranked_text graph finding Open = []

-- an open hypothesis
abbrev pub open_text : Tfpg → Finding → List ℕ
open_text graph finding = text_line (codes "open" ∷ hypothesis_words graph finding)

-- a hypothesis that this round rejected
abbrev pub rejected_text : Tfpg → Finding → List ℕ
rejected_text graph finding = text_line (codes "rejected" ∷ hypothesis_words graph finding)

-- the line that says how many hypotheses have each status
abbrev pub counts_text : Counts → List ℕ
counts_text counts = text_line (codes "counts" ∷ counts_words counts)

-- The block of a round: its first line; the steps by rising numbers; the ranked hypotheses in ranking order; the open
-- ones and those that this round rejected by rising numbers; the counts.
abbrev pub written_round : Tfpg → Round → List ℕ
written_round graph round =
    text_line (codes "round" ∷ decimal round.number ∷ decimal round.line ∷ decimal round.now ∷ [])
    ++ flat_map (steps_text graph) round.findings
    ++ flat_map (λ finding. ranked_text graph finding finding.status) (ranked_in_order round)
    ++ flat_map (open_text graph) (open_in round)
    ++ flat_map (rejected_text graph) (newly_rejected round)
    ++ counts_text round.counts
