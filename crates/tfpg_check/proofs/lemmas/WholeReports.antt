-- Lines that are the whole report are the lines of a report.
use Rattle.std.proofs.Common.{◌≡◌, ◌⊎◌, ℕ, List, [], ◌∷◌, ◌++◌, length, get_or, map, drop, Some, slice_get, inl, inr, refl, sym, ap, subst, subst₂, ◌∙◌, arith, append-nil, length-append}
use Rattle.std.specs.Prelude.{flat_map, option_map}
use Rattle.std.proofs.lemmas.List.{length-map, same_lists, take_all}
use Rattle.std.proofs.lemmas.Grind.{flat_map-append}
use Rattle.std.proofs.lemmas.Option.{get_or_from_slice_get, slice_get-get_or, slice_get-map, slice_get_within}
use Rattle.tfpg_base.specs.declared.terms.Terms.{Terms}
use Rattle.tfpg_base.specs.Lines.{lines_of, with_line_end}
use Rattle.tfpg_base.specs.Words.{line_of}
use Rattle.tfpg_base.proofs.lemmas.lists.Written.{slice_get-push_cases}
use Rattle.tfpg_graph.specs.Graph.{Tfpg}
use Rattle.tfpg_graph.specs.Valid.{IsValid}
use Rattle.tfpg_report.specs.declared.report_line.ReportLine.{ReportLine}
use Rattle.tfpg_report.specs.declared.report_line.ReportLine.TheVariants.{Head}
use Rattle.tfpg_report.specs.LineWords.{old_head_words}
use Rattle.tfpg_report.specs.ReportLines.{Says, lines_text, written_line}
use Rattle.tfpg_report.specs.Blocks.{Block, block_lines, block_text, head_text}
use Rattle.tfpg_report.specs.Reading.{IsHead, MayCome}
use Rattle.tfpg_report.proofs.lemmas.CleanLines.{lines_of_text}
use Rattle.tfpg_check.specs.Report.{AreBlocks, report_text}
use Rattle.tfpg_check.specs.Causes.{AreRead}
use Rattle.tfpg_check.specs.RightReports.{WholeLinesAreThoseOfReports}

-- What is read of lines goes on with what is read of one more.
pub one_more_read : (graph : Tfpg) (lines : List (List ℕ)) (reads : List ReportLine) (bytes : List ℕ) (read : ReportLine) → AreRead graph lines reads → MayCome graph reads bytes read
    → AreRead graph (lines ++ bytes ∷ []) (reads ++ read ∷ [])
one_more_read graph lines reads bytes read are may = record {
  one_each = omega (arith, same, length-append reads (read ∷ []), length-append lines (bytes ∷ []));
  each = λ index some one at said. by index some one (slice_get-push_cases lines bytes index some at) (slice_get-push_cases reads read index one said);
  stand = may.stand;
  stands = may.stands;
}
  where
    same : length reads ≡ length lines
    same = are.one_each

    by : (index : ℕ) (some : List ℕ) (one : ReportLine) → (slice_get lines index ≡ Some some) ⊎ ((index ≡ length lines) × (bytes ≡ some))
        → (slice_get reads index ≡ Some one) ⊎ ((index ≡ length reads) × (read ≡ one)) → Says graph one some
    by index some one (inl at) (inl said) = are.each index some one at said
    by index some one (inr at) (inr said) = subst₂ (Says graph) said.1 at.1 may.says
    by index some one (inl at) (inr said) = let last = said.0 in absurd (omega (arith, slice_get_within lines index some at, last, same))
    by index some one (inr at) (inl said) = let last = at.0 in absurd (omega (arith, slice_get_within reads index one said, last, same))

-- lines are as what they say is written
written_as_read : (graph : Tfpg) (lines : List (List ℕ)) (reads : List ReportLine) → AreRead graph lines reads → lines ≡ map (written_line graph) reads
written_as_read graph lines reads are =
    let each = are.one_each in
    let long = length-map reads (written_line graph) in
    same_lists lines (map (written_line graph) reads) (sym (long ∙ each))
    (λ index d within. (
    let bytes = slice_get-get_or lines index d within in
    let read = slice_get-get_or reads index (Head (record { k = 0; doubt = 0; budget = 0 })) (omega (arith, within, each)) in
    let says = are.each index (get_or lines index d) (get_or reads index (Head (record { k = 0; doubt = 0; budget = 0 }))) bytes read in
    says.written
    ∙ sym (get_or_from_slice_get (map (written_line graph) reads) index (written_line graph (get_or reads index (Head (record { k = 0; doubt = 0; budget = 0 })))) d
    (slice_get-map (written_line graph) reads index ∙ ap (option_map (written_line graph)) read))
    ))

-- the text of blocks is that of their lines
blocks_text : (graph : Tfpg) (blocks : List Block) → flat_map (block_text graph) blocks ≡ lines_text graph (flat_map block_lines blocks)
blocks_text graph [] = refl
blocks_text graph (block ∷ blocks) =
    ap (λ (text : List ℕ). block_text graph block ++ text) (blocks_text graph blocks)
    ∙ sym (flat_map-append (λ (line : ReportLine). with_line_end (written_line graph line)) (block_lines block) (flat_map block_lines blocks))

-- the lines of the text of a report are its first line and those of its blocks
pub lines_of_report : (graph : Tfpg) (terms : Terms) (blocks : List Block) → IsValid graph → lines_of (report_text graph terms blocks) ≡ map (written_line graph) (Head terms ∷ flat_map block_lines blocks)
lines_of_report graph terms blocks valid =
    ap lines_of (ap (λ (text : List ℕ). head_text terms ++ text) (blocks_text graph blocks))
    ∙ lines_of_text graph valid (Head terms ∷ flat_map block_lines blocks)

-- Lines that say the whole report are those of a report.
pub whole_report : WholeLinesAreThoseOfReports
whole_report problem lines reads rounds valid few are whole = record {
  terms = whole.terms;
  blocks = whole.blocks;
  report = record {
    bytes = report_text problem.graph whole.terms whole.blocks;
    report = record {
      has_reports = whole.right.has_reports;
      few_lines = few;
      are_blocks = subst (λ (ls : List (List ℕ)). AreBlocks problem.graph whole.terms ls whole.blocks) (take_all (length whole.blocks) problem.log_lines (omega (arith, all))) whole.right.are_blocks;
      text = refl;
    };
    lines_are = by whole.right.is_head;
  };
  counted = whole.counted;
}
  where
    all : length whole.blocks ≡ length problem.log_lines
    all = whole.all_lines

    reads_are : reads ≡ whole.right.head ∷ flat_map block_lines whole.blocks
    reads_are =
        whole.right.lines_are ∙ ap (λ (begun : List ReportLine). whole.right.head ∷ flat_map block_lines whole.blocks ++ begun) whole.none_begun
        ∙ ap (λ (ls : List ReportLine). whole.right.head ∷ ls) (append-nil (flat_map block_lines whole.blocks))

    written : lines ≡ map (written_line problem.graph) (whole.right.head ∷ flat_map block_lines whole.blocks)
    written = written_as_read problem.graph lines reads are ∙ ap (map (written_line problem.graph)) reads_are

    own : lines_of (report_text problem.graph whole.terms whole.blocks) ≡ map (written_line problem.graph) (Head whole.terms ∷ flat_map block_lines whole.blocks)
    own = lines_of_report problem.graph whole.terms whole.blocks valid

    by : IsHead whole.terms whole.right.head → (lines ≡ lines_of (report_text problem.graph whole.terms whole.blocks))
        ⊎ ((whole.terms.doubt ≡ 0) × (lines ≡ line_of (old_head_words whole.terms.k whole.terms.budget) ∷ drop 1 (lines_of (report_text problem.graph whole.terms whole.blocks))))
    by (inl new) = inl (written ∙ ap (λ (head : ReportLine). map (written_line problem.graph) (head ∷ flat_map block_lines whole.blocks)) new ∙ sym own)
    by (inr old) = inr (
      old.0,
      written ∙ ap (λ (head : ReportLine). map (written_line problem.graph) (head ∷ flat_map block_lines whole.blocks)) old.1
          ∙ ap (λ (ls : List (List ℕ)). line_of (old_head_words whole.terms.k whole.terms.budget) ∷ drop 1 ls) (sym own),
    )
