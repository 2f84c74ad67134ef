-- The lines of a report are its first line and those of its blocks, and it has no cause.
use Rattle.std.proofs.Common.{◌≡◌, ◌⊎◌, ℕ, List, ◌∷◌, map, drop, inl, inr, refl, ap, ◌∙◌}
use Rattle.std.specs.Prelude.{flat_map}
use Rattle.tfpg_base.specs.declared.terms.Terms.{Terms}
use Rattle.tfpg_base.specs.Lines.{lines_of}
use Rattle.tfpg_base.specs.Words.{line_of}
use Rattle.tfpg_graph.specs.Graph.{Tfpg}
use Rattle.tfpg_graph.specs.Valid.{IsValid}
use Rattle.tfpg_report.specs.declared.report_line.ReportLine.{ReportLine}
use Rattle.tfpg_report.specs.declared.report_line.ReportLine.TheVariants.{Head, OldHead}
use Rattle.tfpg_report.specs.LineWords.{old_head_words}
use Rattle.tfpg_report.specs.ReportLines.{written_line}
use Rattle.tfpg_report.specs.Blocks.{Block, block_lines}
use Rattle.tfpg_report.specs.Reading.{IsHead}
use Rattle.tfpg_check.specs.Causes.{AreReportLines, DiagnosisProblem}
use Rattle.tfpg_check.specs.RightReports.{ReportsHaveNoCause}
use Rattle.tfpg_check.proofs.lemmas.FirstLines.{OneLine}
use Rattle.tfpg_check.proofs.lemmas.WholeReports.{lines_of_report}
use Rattle.tfpg_check.proofs.lemmas.completeness.NamedLines.{NamesOfGraph}
use Rattle.tfpg_check.proofs.lemmas.completeness.NoCause.{no_cause}

-- ---- the lines of a report

-- The first line of a report, with which its lines are these.
pub record HasLines (graph : Tfpg) (terms : Terms) (blocks : List Block) (lines : List (List ℕ)) : Type 0 where
  pub head : ReportLine
  pub is_head : IsHead terms head
  pub named : NamesOfGraph graph head
  pub lines_are : lines ≡ map (written_line graph) (head ∷ flat_map block_lines blocks)

-- The lines of a report are its first line and those of its blocks, as they are written.
pub has_lines : (problem : DiagnosisProblem) (terms : Terms) (blocks : List Block) (lines : List (List ℕ)) → IsValid problem.graph → AreReportLines problem terms blocks lines → HasLines problem.graph terms blocks lines
has_lines problem terms blocks lines valid are =
    let whole : lines_of are.bytes ≡ map (written_line problem.graph) (Head terms ∷ flat_map block_lines blocks) =
    ap lines_of are.report.text ∙ lines_of_report problem.graph terms blocks valid in
    by are.lines_are whole
  where
    by : (lines ≡ lines_of are.bytes) ⊎ ((terms.doubt ≡ 0) × (lines ≡ line_of (old_head_words terms.k terms.budget) ∷ drop 1 (lines_of are.bytes)))
        → lines_of are.bytes ≡ map (written_line problem.graph) (Head terms ∷ flat_map block_lines blocks) → HasLines problem.graph terms blocks lines
    by (inl new) whole = record { head = Head terms; is_head = inl refl; named = tt; lines_are = new ∙ whole }
    by (inr old) whole = record {
      head = OldHead terms.k terms.budget;
      is_head = inr (old.0, refl);
      named = tt;
      lines_are = old.1 ∙ ap (λ (ls : List (List ℕ)). line_of (old_head_words terms.k terms.budget) ∷ drop 1 ls) whole;
    }

-- ---- they have no cause

-- A report each of whose lines can be read has no cause.
pub reports_have_no_cause : OneLine → ReportsHaveNoCause
reports_have_no_cause one_line problem terms blocks lines head at why valid are is_head read =
    no_cause problem (λ line other bytes says also. one_line problem.graph line other bytes valid says also) terms blocks lines are.report.has_reports head is_head are.report.are_blocks read at why
