-- Each line of a report that is not too long can be read, and may come where it stands.
use Rattle.std.proofs.Common.{◌≡◌, ℕ, ◌≤◌, ◌^◌, List, ◌∷◌, length, map, All, Some, slice_get, inl, inr, sym, ap, subst, ◌∙◌, arith}
use Rattle.std.specs.Prelude.{flat_map, option_map, true}
use Rattle.std.proofs.lemmas.List.{length-map}
use Rattle.std.proofs.lemmas.List.Elements.{All-cons}
use Rattle.std.proofs.lemmas.Option.{same_Some, slice_get-map}
use Rattle.tfpg_base.specs.declared.terms.Terms.{Terms}
use Rattle.tfpg_base.specs.declared.limits.TheConstants.{LONGEST_LINE, MAX_BYTES}
use Rattle.tfpg_base.specs.Lines.{lines_of}
use Rattle.tfpg_base.specs.Terms.{AreReportTerms}
use Rattle.tfpg_base.proofs.lemmas.lists.Elements.{All-at}
use Rattle.tfpg_graph.specs.Graph.{Tfpg}
use Rattle.tfpg_graph.specs.Valid.{IsValid}
use Rattle.tfpg_report.specs.declared.report_line.ReportLine.{ReportLine}
use Rattle.tfpg_report.specs.declared.stand.Stand.{Stand}
use Rattle.tfpg_report.specs.Blocks.{Block, block_lines}
use Rattle.tfpg_report.specs.InOrder.{IsInOrder}
use Rattle.tfpg_report.specs.Reading.{IsHead}
use Rattle.tfpg_report.specs.ReportLines.{Says, written_line}
use Rattle.tfpg_report.specs.Stands.{may_begin_block, stand_of}
use Rattle.tfpg_check.specs.RightReports.{LinesOfReportsCanBeRead, ShortReportsHaveNoCause}
use Rattle.tfpg_check.proofs.lemmas.EqualSayings.{RoundsAreOfTheirGraph}
use Rattle.tfpg_streams.proofs.lemmas.FewLines.{few_lines}
use Rattle.tfpg_check.proofs.lemmas.FirstLines.{OneLine}
use Rattle.tfpg_check.proofs.lemmas.completeness.ReportsRead.{has_lines, reports_have_no_cause}
use Rattle.tfpg_check.proofs.lemmas.completeness.NamedLines.{NamesOfGraph, blocks_named}
use Rattle.tfpg_check.proofs.lemmas.readable.RightBlocks.{blocks_in_order, blocks_small}
use Rattle.tfpg_check.proofs.lemmas.readable.ShortLines.{line_short}
use Rattle.tfpg_check.proofs.lemmas.readable.SmallNumbers.{HasSmallNumbers, line_within}

-- That the first line of a report and its blocks may come in this order is a law of lines.
abbrev pub LinesComeInOrder : Type 0
LinesComeInOrder =
    (terms : Terms) (head : ReportLine) (blocks : List Block) → IsHead terms head → All IsInOrder blocks
    → (after : Stand) × (stand_of (head ∷ flat_map block_lines blocks) ≡ Some after) × (may_begin_block after ≡ true)

-- the first line has small numbers
head_small : (terms : Terms) (head : ReportLine) → AreReportTerms terms → IsHead terms head → HasSmallNumbers head
head_small terms head within (inl new) = subst HasSmallNumbers (sym new) within
head_small terms head within (inr old) =
    subst HasSmallNumbers (sym old.1)
    (record { few_members = within.few_members; few_doubts = omega arith; some_splits = within.some_splits; few_splits = within.few_splits })

-- There are not more lines of blocks than bytes.
block_lines_few : (graph : Tfpg) (head : ReportLine) (blocks : List Block) (bytes : List ℕ) → lines_of bytes ≡ map (written_line graph) (head ∷ flat_map block_lines blocks)
    → length bytes ≤ MAX_BYTES → length (flat_map block_lines blocks) ≤ 2 ^ 32
block_lines_few graph head blocks bytes lines_are few =
    omega (arith, few, few_lines bytes, ap length lines_are, length-map (flat_map block_lines blocks) (written_line graph))

-- Written lines that name what the graph has, with small numbers, can be read.
lines_say : (graph : Tfpg) → IsValid graph → (lines : List (List ℕ)) (own : List ReportLine) → lines ≡ map (written_line graph) own → All (NamesOfGraph graph) own → All HasSmallNumbers own
    → (index : ℕ) (bytes : List ℕ) (read : ReportLine) → slice_get lines index ≡ Some bytes → slice_get own index ≡ Some read → Says graph read bytes
lines_say graph valid lines own are named small index bytes read at there =
    let written : bytes ≡ written_line graph read =
    same_Some bytes (written_line graph read)
    (sym at ∙ ap (λ (ls : List (List ℕ)). slice_get ls index) are ∙ slice_get-map (written_line graph) own index ∙ ap (option_map (written_line graph)) there) in
    let numbers : HasSmallNumbers read = All-at HasSmallNumbers own index read small there in
    record {
      written = written;
      within = line_within graph read (All-at (NamesOfGraph graph) own index read named there) numbers;
      short = subst (λ (line : List ℕ). length line ≤ LONGEST_LINE) (sym written) (line_short graph valid read numbers);
    }

-- The lines of a report can be read.
pub lines_can_be_read : RoundsAreOfTheirGraph → LinesComeInOrder → LinesOfReportsCanBeRead
lines_can_be_read of_graph in_order problem terms blocks bytes valid are few =
    let has = has_lines problem terms blocks (lines_of bytes) valid are in
    let report = are.report in
    let own : List ReportLine = has.head ∷ flat_map block_lines blocks in
    let named : All (NamesOfGraph problem.graph) own =
    All-cons (NamesOfGraph problem.graph) has.head (flat_map block_lines blocks) has.named (blocks_named of_graph problem.graph terms problem.log_lines blocks report.are_blocks) in
    let small : All HasSmallNumbers own =
    All-cons HasSmallNumbers has.head (flat_map block_lines blocks) (head_small terms has.head report.has_reports.within has.is_head)
    (blocks_small problem.graph terms problem.log_lines blocks report.are_blocks valid report.has_reports report.few_lines
    (block_lines_few problem.graph has.head blocks bytes has.lines_are few)) in
    let stands = in_order terms has.head blocks has.is_head (blocks_in_order problem.graph terms problem.log_lines blocks report.are_blocks) in (
      has.head,
      has.is_head,
      record {
        one_each = sym (ap length has.lines_are ∙ length-map own (written_line problem.graph));
        each = lines_say problem.graph valid (lines_of bytes) own has.lines_are named small;
        stand = stands.0;
        stands = stands.1;
      },
    )

-- So they have no cause.
pub short_reports_have_no_cause : OneLine → RoundsAreOfTheirGraph → LinesComeInOrder → ShortReportsHaveNoCause
short_reports_have_no_cause one_line of_graph in_order problem terms blocks bytes at why valid are few =
    let read = lines_can_be_read of_graph in_order problem terms blocks bytes valid are few in
    reports_have_no_cause one_line problem terms blocks (lines_of bytes) read.0 at why valid are read.1 read.2
