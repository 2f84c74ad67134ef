-- Lines whose numbers are within their limits: whatever they name, as long as the graph has it, such lines are within their limits.
use Rattle.std.proofs.Common.{◌+◌, ◌≤◌, length}
use Rattle.tfpg_base.specs.Hypothesis.{Hypothesis}
use Rattle.tfpg_base.specs.Terms.{AreReportTerms}
use Rattle.tfpg_base.specs.declared.limits.TheConstants.{MAX_LINE_NUMBER, MAX_MEMBERS, MAX_PANEL_NUMBER, MAX_TIME}
use Rattle.tfpg_graph.specs.Graph.{Tfpg}
use Rattle.tfpg_evidence.specs.declared.clause_name.ClauseName.{ClauseName}
use Rattle.tfpg_evidence.specs.declared.clause_name.ClauseName.TheVariants.{OrMay, AndMay, OrMust, AndMust}
use Rattle.tfpg_evidence.specs.declared.reason.Reason.{Reason}
use Rattle.tfpg_evidence.specs.declared.reason.Reason.TheVariants.{Zero, Top, Unreached, From, Upto, Quiet, Pick}
use Rattle.tfpg_clause.specs.Order.{horizon_of, span_of}
use Rattle.tfpg_report.specs.declared.report_line.ReportLine.{ReportLine}
use Rattle.tfpg_report.specs.declared.report_line.ReportLine.TheVariants.{Head, OldHead, Refused, Round, Hyp, Split, Cycle, Why, Again, Ranked, At, Open, Rejected, Counts, Panel}
use Rattle.tfpg_report.specs.ReportLines.{IsCauseWithin, IsLineWithin, IsNameWithin, IsReasonWithin, Has32Bits}
use Rattle.tfpg_check.proofs.lemmas.completeness.NamedLines.{NamesOfGraph}

-- The span and the horizon of a clause are within their limits.
abbrev pub HasSmallName : ClauseName → Type 0
HasSmallName name = Has32Bits (span_of name) × (horizon_of name ≤ MAX_TIME)

-- The numbers of a reason are within their limits.
abbrev pub HasSmallReason : Reason → Type 0
HasSmallReason (Zero node) = Unit {0}
HasSmallReason (Top node) = Unit {0}
HasSmallReason (Unreached node horizon) = horizon ≤ MAX_TIME
HasSmallReason (From event) = Has32Bits event
HasSmallReason (Upto event) = Has32Bits event
HasSmallReason (Quiet event node) = Has32Bits event
HasSmallReason (Pick split constraint) = (split ≤ MAX_LINE_NUMBER) × Has32Bits constraint

-- A hypothesis has few members.
abbrev pub HasFewMembers : Hypothesis → Type 0
HasFewMembers hypothesis = length hypothesis.set + length hypothesis.doubts ≤ MAX_MEMBERS

-- The numbers of a line are within their limits, and so is how many members its set has.
abbrev pub HasSmallNumbers : ReportLine → Type 0
HasSmallNumbers (Head terms) = AreReportTerms terms
HasSmallNumbers (OldHead k budget) = AreReportTerms (record { k = k; doubt = 0; budget = budget })
HasSmallNumbers (Refused line cause) = (line ≤ MAX_LINE_NUMBER) × IsCauseWithin cause
HasSmallNumbers (Round number line now) = Has32Bits number × (line ≤ MAX_LINE_NUMBER) × (now ≤ MAX_TIME)
HasSmallNumbers (Hyp number) = Has32Bits number
HasSmallNumbers (Split name) = HasSmallName name
HasSmallNumbers (Cycle count) = Has32Bits count
HasSmallNumbers (Why reason) = HasSmallReason reason
HasSmallNumbers Again = Unit {0}
HasSmallNumbers (Ranked number cost alarmed monitored hypothesis) =
    Has32Bits number × Has32Bits cost × Has32Bits alarmed × Has32Bits monitored × HasFewMembers hypothesis
HasSmallNumbers (At activation) = activation.time ≤ MAX_TIME
HasSmallNumbers (Open number hypothesis) = Has32Bits number × HasFewMembers hypothesis
HasSmallNumbers (Rejected number hypothesis) = Has32Bits number × HasFewMembers hypothesis
HasSmallNumbers (Counts counts) =
    Has32Bits counts.ranked × Has32Bits counts.covered × Has32Bits counts.rejected × Has32Bits counts.unsettled
HasSmallNumbers (Panel panel memory) = panel ≤ MAX_PANEL_NUMBER

module _ (graph : Tfpg) where
  name_within : (name : ClauseName) → NamesOfGraph graph (Split name) → HasSmallName name → IsNameWithin graph name
  name_within (OrMay node span horizon) named small = (named, small.0, small.1)
  name_within (AndMay edge span horizon) named small = (named, small.0, small.1)
  name_within (OrMust edge span horizon) named small = (named, small.0, small.1)
  name_within (AndMust node span horizon) named small = (named, small.0, small.1)

  reason_within : (reason : Reason) → NamesOfGraph graph (Why reason) → HasSmallReason reason → IsReasonWithin graph reason
  reason_within (Zero node) named small = named
  reason_within (Top node) named small = named
  reason_within (Unreached node horizon) named small = (named, small)
  reason_within (From event) named small = small
  reason_within (Upto event) named small = small
  reason_within (Quiet event node) named small = (small, named)
  reason_within (Pick split constraint) named small = small

  -- A line with small numbers that names only what the graph has is within its limits.
  pub line_within : (line : ReportLine) → NamesOfGraph graph line → HasSmallNumbers line → IsLineWithin graph line
  line_within (Head terms) named small = small
  line_within (OldHead k budget) named small = small
  line_within (Refused line cause) named small = small
  line_within (Round number line now) named small = small
  line_within (Hyp number) named small = small
  line_within (Split name) named small = name_within name named small
  line_within (Cycle count) named small = small
  line_within (Why reason) named small = reason_within reason named small
  line_within Again named small = tt
  line_within (Ranked number cost alarmed monitored hypothesis) named small = (small.0, small.1, small.2, small.3, named)
  line_within (At activation) named small = (named, small)
  line_within (Open number hypothesis) named small = (small.0, named)
  line_within (Rejected number hypothesis) named small = (small.0, named)
  line_within (Counts counts) named small = small
  line_within (Panel panel memory) named small = small
