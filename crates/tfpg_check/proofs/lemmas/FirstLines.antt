-- The first line of a report says the terms of the report, on which there are not too many hypotheses.
use Rattle.std.proofs.Common.{◌≡◌, ◌⊎◌, ℕ, ◌≤◌, List, ◌∷◌, drop, Some, slice_get, inl, inr, refl, sym, ap, subst, ◌∙◌}
use Rattle.std.proofs.lemmas.Option.{same_Some}
use Rattle.tfpg_base.specs.declared.terms.Terms.{Terms}
use Rattle.tfpg_base.specs.Lines.{lines_of}
use Rattle.tfpg_base.specs.Words.{line_of}
use Rattle.tfpg_graph.specs.Graph.{Tfpg}
use Rattle.tfpg_graph.specs.Valid.{IsValid}
use Rattle.tfpg_hyp.specs.Hypotheses.{HasHypotheses}
use Rattle.tfpg_hyp.specs.declared.limits.TheConstants.{MAX_HYPOTHESES}
use Rattle.tfpg_report.specs.declared.report_line.ReportLine.{ReportLine}
use Rattle.tfpg_report.specs.declared.report_line.ReportLine.TheVariants.{Head, OldHead}
use Rattle.tfpg_report.specs.LineWords.{old_head_words}
use Rattle.tfpg_report.specs.ReportLines.{Says, IsLineWithin, written_line}
use Rattle.tfpg_report.specs.Blocks.{Block}
use Rattle.tfpg_report.specs.Reading.{IsHead}
use Rattle.tfpg_check.specs.Report.{report_text}
use Rattle.tfpg_check.specs.Causes.{AreReportLines, DiagnosisProblem}
use Rattle.tfpg_check.proofs.lemmas.WholeReports.{lines_of_report}
use Rattle.tfpg_check.proofs.lemmas.completeness.EqualBlocks.{one_head}

-- That bytes say at most one line of a valid graph is a law of lines.
abbrev pub OneLine : Type 0
OneLine = (graph : Tfpg) (line other : ReportLine) (bytes : List ℕ) → IsValid graph → Says graph line bytes → Says graph other bytes → line ≡ other

module _ (one_line : OneLine) (problem : DiagnosisProblem) (valid : IsValid problem.graph) (terms : Terms) (blocks : List Block) (lines : List (List ℕ)) (report : AreReportLines problem terms blocks lines)
    (first : List ℕ) (at : slice_get lines 0 ≡ Some first) (head : ReportLine) (says : Says problem.graph head first) where
  -- the first line is that of the terms, if it is written so
  same_head : (own : ReportLine) → IsLineWithin problem.graph own → Some (written_line problem.graph own) ≡ Some first → own ≡ head
  same_head own within written =
      let is : written_line problem.graph own ≡ first = same_Some (written_line problem.graph own) first written in
      one_line problem.graph own head first valid (record { written = sym is; within = within; short = says.short }) says

  own_lines : lines_of report.bytes ≡ lines_of (report_text problem.graph terms blocks)
  own_lines = ap lines_of report.report.text

  own_head : (own : ReportLine) × IsHead terms own × (own ≡ head)
  own_head = by report.lines_are
    where
      by : (lines ≡ lines_of report.bytes) ⊎ ((terms.doubt ≡ 0) × (lines ≡ line_of (old_head_words terms.k terms.budget) ∷ drop 1 (lines_of report.bytes)))
          → (own : ReportLine) × IsHead terms own × (own ≡ head)
      by (inl new) = (
        Head terms,
        inl refl,
        same_head (Head terms) report.report.has_reports.within
            (sym (ap (λ (ls : List (List ℕ)). slice_get ls 0) (new ∙ own_lines ∙ lines_of_report problem.graph terms blocks valid)) ∙ at),
      )
      by (inr old) = (
        OldHead terms.k terms.budget,
        inr (old.0, refl),
        same_head (OldHead terms.k terms.budget) (rw old.0 at report.report.has_reports.within) (sym (ap (λ (ls : List (List ℕ)). slice_get ls 0) old.1) ∙ at),
      )

  -- The first line says no terms on which there are too many hypotheses.
  pub few_hypotheses : (others : Terms) → IsHead others head → (count : ℕ) → HasHypotheses problem.graph others count → count ≤ MAX_HYPOTHESES
  few_hypotheses others is_head count counted =
      let own = own_head in
      let same : terms ≡ others = one_head terms others head (subst (IsHead terms) own.2 own.1) is_head in
      report.report.has_reports.few_hypotheses count (subst (λ (t : Terms). HasHypotheses problem.graph t count) (sym same) counted)
