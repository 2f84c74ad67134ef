-- The lines of a report: how each is written, and which numbers it may have.
use Rattle.std.specs.Prelude.{◌≡◌, ℕ, ◌<◌, ◌≤◌, ◌^◌, List, [], ◌∷◌, length, flat_map, codes, decimal}
use Rattle.tfpg_base.specs.Lines.{with_line_end}
use Rattle.tfpg_base.specs.Words.{line_of}
use Rattle.tfpg_base.specs.Terms.{AreReportTerms}
use Rattle.tfpg_base.specs.declared.limits.TheConstants.{LONGEST_LINE, MAX_LINE_NUMBER, MAX_PANEL_NUMBER, MAX_TIME}
use Rattle.tfpg_graph.specs.Graph.{Tfpg, name_word}
use Rattle.tfpg_evidence.specs.declared.clause_name.ClauseName.{ClauseName}
use Rattle.tfpg_evidence.specs.declared.clause_name.ClauseName.TheVariants.{OrMay, AndMay, OrMust, AndMust}
use Rattle.tfpg_evidence.specs.declared.reason.Reason.{Reason}
use Rattle.tfpg_evidence.specs.declared.reason.Reason.TheVariants.{Zero, Top, Unreached, From, Upto, Quiet, Pick}
use Rattle.tfpg_report.specs.SetText.{IsHypothesisOf, set_word}
use Rattle.tfpg_report.specs.LineWords.{head_words, old_head_words, refused_words, clause_words, reason_words, numbered_set_words, robustness_word, counts_words, lost_words}
use Rattle.tfpg_log.specs.declared.refusal.Refusal.TheVariants.{TimeBack}
use Rattle.tfpg_log.specs.declared.refused_line.RefusedLine.{RefusedLine}
use Rattle.tfpg_log.specs.declared.refused_line.RefusedLine.TheVariants.{Offer}
use Rattle.tfpg_report.specs.declared.report_line.ReportLine.{ReportLine}
use Rattle.tfpg_report.specs.declared.report_line.ReportLine.TheVariants.{Head, OldHead, Refused, Round, Hyp, Split, Cycle, Why, Again, Ranked, At, Open, Rejected, Counts, Panel}

-- the words that a line is written with
abbrev pub line_words : Tfpg → ReportLine → List (List ℕ)
line_words graph (Head terms) = head_words terms
line_words graph (OldHead k budget) = old_head_words k budget
line_words graph (Refused line cause) = refused_words line cause
line_words graph (Round number line now) = codes "round" ∷ decimal number ∷ decimal line ∷ decimal now ∷ []
line_words graph (Hyp number) = codes "hyp" ∷ decimal number ∷ []
line_words graph (Split name) = codes "split" ∷ clause_words graph name
line_words graph (Cycle count) = codes "cycle" ∷ decimal count ∷ []
line_words graph (Why reason) = codes "why" ∷ reason_words graph reason
line_words graph Again = codes "again" ∷ []
line_words graph (Ranked number cost alarmed monitored hypothesis) =
    codes "ranked" ∷ decimal number ∷ codes "cost" ∷ decimal cost ∷ codes "robust" ∷ robustness_word alarmed monitored
    ∷ codes "set" ∷ set_word graph hypothesis ∷ []
line_words graph (At activation) = codes "at" ∷ name_word graph activation.node ∷ decimal activation.time ∷ []
line_words graph (Open number hypothesis) = codes "open" ∷ numbered_set_words graph number hypothesis
line_words graph (Rejected number hypothesis) =
    codes "rejected" ∷ numbered_set_words graph number hypothesis
line_words graph (Counts counts) = codes "counts" ∷ counts_words counts
line_words graph (Panel panel memory) = lost_words panel memory

-- how a line is written
abbrev pub written_line : Tfpg → ReportLine → List ℕ
written_line graph line = line_of (line_words graph line)

-- the text of lines, each with its line end
abbrev pub lines_text : Tfpg → List ReportLine → List ℕ
lines_text graph lines = flat_map (λ line. with_line_end (written_line graph line)) lines

-- A number that is no time, no number of a line, a panel or a split, and no budget, has 32 bits.
abbrev pub Has32Bits : ℕ → Type 0
Has32Bits number = number < 2 ^ 32

-- The time that a refusal carries, if any, is not too large.
abbrev pub IsCauseWithin : RefusedLine → Type 0
IsCauseWithin (Offer (TimeBack last)) = last ≤ MAX_TIME
IsCauseWithin _ = Unit {0}

-- A clause is of a node or an edge of the graph, and its numbers are within their limits.
abbrev pub IsNameWithin : Tfpg → ClauseName → Type 0
IsNameWithin graph (OrMay node span horizon) = (node < length graph.nodes) × Has32Bits span × (horizon ≤ MAX_TIME)
IsNameWithin graph (AndMay edge span horizon) = (edge < length graph.edges) × Has32Bits span × (horizon ≤ MAX_TIME)
IsNameWithin graph (OrMust edge span horizon) = (edge < length graph.edges) × Has32Bits span × (horizon ≤ MAX_TIME)
IsNameWithin graph (AndMust node span horizon) = (node < length graph.nodes) × Has32Bits span × (horizon ≤ MAX_TIME)

-- A reason names nodes of the graph alone, and its numbers are within their limits.
abbrev pub IsReasonWithin : Tfpg → Reason → Type 0
IsReasonWithin graph (Zero node) = node < length graph.nodes
IsReasonWithin graph (Top node) = node < length graph.nodes
IsReasonWithin graph (Unreached node horizon) = (node < length graph.nodes) × (horizon ≤ MAX_TIME)
IsReasonWithin graph (From event) = Has32Bits event
IsReasonWithin graph (Upto event) = Has32Bits event
IsReasonWithin graph (Quiet event node) = Has32Bits event × (node < length graph.nodes)
IsReasonWithin graph (Pick split constraint) = (split ≤ MAX_LINE_NUMBER) × Has32Bits constraint

-- A line names what the graph has, and its numbers are within their limits.
abbrev pub IsLineWithin : Tfpg → ReportLine → Type 0
IsLineWithin graph (Head terms) = AreReportTerms terms
IsLineWithin graph (OldHead k budget) = AreReportTerms (record { k = k; doubt = 0; budget = budget })
IsLineWithin graph (Refused line cause) = (line ≤ MAX_LINE_NUMBER) × IsCauseWithin cause
IsLineWithin graph (Round number line now) = Has32Bits number × (line ≤ MAX_LINE_NUMBER) × (now ≤ MAX_TIME)
IsLineWithin graph (Hyp number) = Has32Bits number
IsLineWithin graph (Split name) = IsNameWithin graph name
IsLineWithin graph (Cycle count) = Has32Bits count
IsLineWithin graph (Why reason) = IsReasonWithin graph reason
IsLineWithin graph Again = Unit {0}
IsLineWithin graph (Ranked number cost alarmed monitored hypothesis) =
    Has32Bits number × Has32Bits cost × Has32Bits alarmed × Has32Bits monitored × IsHypothesisOf graph hypothesis
IsLineWithin graph (At activation) = (activation.node < length graph.nodes) × (activation.time ≤ MAX_TIME)
IsLineWithin graph (Open number hypothesis) = Has32Bits number × IsHypothesisOf graph hypothesis
IsLineWithin graph (Rejected number hypothesis) = Has32Bits number × IsHypothesisOf graph hypothesis
IsLineWithin graph (Counts counts) =
    Has32Bits counts.ranked × Has32Bits counts.covered × Has32Bits counts.rejected × Has32Bits counts.unsettled
IsLineWithin graph (Panel panel memory) = panel ≤ MAX_PANEL_NUMBER

-- The bytes say this line: they are how it is written, its names and numbers are within their limits, and they are not too
-- many.
pub record Says (graph : Tfpg) (line : ReportLine) (bytes : List ℕ) : Type 0 where
  pub written : bytes ≡ written_line graph line
  pub within : IsLineWithin graph line
  pub short : length bytes ≤ LONGEST_LINE
