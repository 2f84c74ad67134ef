-- What is returned at the end of a report is right.
use Rattle.std.proofs.Common.{◌≡◌, ◌≢◌, ◌⊎◌, ℕ, zero, suc, ◌+◌, ◌-◌, ◌<◌, ◌≤◌, Bool, true, false, List, [], ◌∷◌, ◌++◌, length, take, drop, Some, Result, Ok, Err, inl, inr, refl, sym, ap, subst, ◌∙◌, arith, add-one, length-append, length-drop}
use Rattle.std.specs.Prelude.{flat_map}
use Rattle.std.proofs.lemmas.Bool.{false≢true}
use Rattle.std.proofs.lemmas.List.{take_all}
use Rattle.tfpg_base.specs.declared.terms.Terms.{Terms}
use Rattle.tfpg_base.proofs.lemmas.lists.Cuts.{take-next}
use Rattle.tfpg_base.proofs.lemmas.lists.Elements.{slice_get-there}
use Rattle.tfpg_graph.specs.Graph.{Tfpg}
use Rattle.tfpg_log.specs.declared.event.Event.{Event}
use Rattle.tfpg_log.specs.Log.{Logbook}
use Rattle.tfpg_log.specs.LogOfLines.{log_after, log_of_lines}
use Rattle.tfpg_log.proofs.lemmas.logs_of_lines.LogsOfLines.{log_of_lines-push}
use Rattle.tfpg_log.specs.declared.refused_line.RefusedLine.{RefusedLine}
use Rattle.tfpg_report.specs.declared.stand.Stand.{Stand}
use Rattle.tfpg_report.specs.declared.stand.Stand.TheVariants as stand
use Rattle.tfpg_report.specs.declared.report_line.ReportLine.{ReportLine}
use Rattle.tfpg_report.specs.Blocks.{Block}
use Rattle.tfpg_report.specs.Reading.{begun_in, is_last}
use Rattle.tfpg_report.specs.Stands.{may_begin_block, stand_of}
use Rattle.tfpg_report.proofs.lemmas.block_reader.BegunLines.{begun_in_on}
use Rattle.tfpg_check.specs.declared.cause.CheckCause.TheVariants as cause
use Rattle.tfpg_check.specs.Report.{AreBlocks, IsBlockOf, Progress, event_of_line, progress_of, rounds_of}
use Rattle.tfpg_check.specs.Causes.{AreRight, EndFails, DiagnosisProblem}
use Rattle.tfpg_check.specs.Judged.{IsWhole}
use Rattle.tfpg_check.specs.JudgeState.{JudgeRepresents, JudgeState, KeepsBlocks, KeepsNone}
use Rattle.tfpg_check.proofs.lemmas.RoundsOfReports.{log_by_event}
use Rattle.tfpg_check.proofs.lemmas.going_on.StandsOfLines.{comes_by, ends_with, last_leads, none_begun}
use Rattle.tfpg_check.proofs.lemmas.going_on.NextLines.{log_by_refusal, rounds_with}
use Rattle.tfpg_check.proofs.lemmas.going_on.JudgedLines.{not_none}

-- ---- as many rounds as events

module _ (graph : Tfpg) (terms : Terms) where
  -- a block has a round where its line brings an event
  one_more : (before : Progress) (number : ℕ) (line : List ℕ) (block : Block) (brings : Result Event RefusedLine) → event_of_line graph before.log line ≡ brings
      → IsBlockOf graph terms before number block brings → length (log_after graph before.log line).events ≡ length before.log.events + length (rounds_of block)
  one_more before number line block (Err refused) event is =
      ap (λ (log : Logbook). length log.events) (log_by_refusal graph before.log line refused event)
      ∙ omega arith ∙ ap (λ (b : Block). length before.log.events + length (rounds_of b)) (sym is)
  one_more before number line block (Ok brought) event is =
      ap (λ (log : Logbook). length log.events) (log_by_event graph before.log line brought event)
      ∙ length-append before.log.events (brought ∷ []) ∙ ap (λ (b : Block). length before.log.events + length (rounds_of b)) (sym is.2)

  module _ (lines : List (List ℕ)) (blocks : List Block) (are : AreBlocks graph terms lines blocks) where
    -- up to so many lines
    counted_upto : (count : ℕ) → count ≤ length blocks → length (log_of_lines graph (take count lines)).events ≡ length (flat_map rounds_of (take count blocks))
    counted_upto zero within = refl
    counted_upto (suc count) within =
        let one_each = are.one_each in
        let block = slice_get-there blocks count within in
        let line = slice_get-there lines count (omega (arith, within, one_each)) in
        let before = progress_of graph (take count lines) (take count blocks) in
        let log : log_of_lines graph (take (count + 1) lines) ≡ log_after graph (log_of_lines graph (take count lines)) line.0 =
        ap (log_of_lines graph) (take-next lines count line.0 line.1) ∙ log_of_lines-push graph (take count lines) line.0 in
        let rounds : flat_map rounds_of (take (count + 1) blocks) ≡ flat_map rounds_of (take count blocks) ++ rounds_of block.0 =
        ap (flat_map rounds_of) (take-next blocks count block.0 block.1) ∙ rounds_with (take count blocks) block.0 in
        subst (λ (n : ℕ). length (log_of_lines graph (take n lines)).events ≡ length (flat_map rounds_of (take n blocks))) (add-one count)
        (ap (λ (l : Logbook). length l.events) log
        ∙ one_more before (count + 1) line.0 block.0 (event_of_line graph before.log line.0) refl (are.each count line.0 block.0 line.1 block.1)
        ∙ ap (λ (n : ℕ). n + length (rounds_of block.0)) (counted_upto count (omega (arith, within)))
        ∙ sym (ap length rounds ∙ length-append (flat_map rounds_of (take count blocks)) (rounds_of block.0)))

    -- There are as many rounds as events.
    as_many_rounds : length (log_of_lines graph lines).events ≡ length (flat_map rounds_of blocks)
    as_many_rounds =
        let one_each = are.one_each in
        ap (λ (ls : List (List ℕ)). length (log_of_lines graph ls).events) (sym (take_all (length blocks) lines (omega (arith, one_each))))
        ∙ counted_upto (length blocks) (omega arith)
        ∙ ap (λ (bs : List Block). length (flat_map rounds_of bs)) (take_all (length blocks) blocks (omega arith))

-- ---- where a round has begun

-- where no block may begin, one has begun
some_begun : (reads : List ReportLine) (at : Stand) → reads ≢ [] → stand_of reads ≡ Some at → may_begin_block at ≡ false → begun_in reads ≢ []
some_begun [] at some stands may = absurd (some refl)
some_begun (read ∷ reads) at some stands may =
    let whole = ends_with read reads in
    let comes = comes_by stand.Nothing whole.front (whole.last ∷ []) at (ap stand_of (sym whole.is) ∙ stands) in
    by whole.front whole.last (is_last whole.last) refl whole.is (last_leads comes.between at whole.last comes.back_leads)
  where
    not_empty : (xs : List ReportLine) (x : ReportLine) → xs ++ x ∷ [] ≡ [] → ⊥
    not_empty [] x same = cc
    not_empty (y ∷ xs) x same = cc

    by : (front : List ReportLine) (last : ReportLine) (ends : Bool) → is_last last ≡ ends → read ∷ reads ≡ front ++ last ∷ [] → (is_last last ≡ true → may_begin_block at ≡ true) → begun_in (read ∷ reads) ≢ []
    by front last true ends same leads = absurd (false≢true (sym may ∙ leads ends))
    by front last false ends same leads =
        λ none. not_empty (begun_in front) last (sym (begun_in_on front last ends) ∙ ap begun_in (sym same) ∙ none)

-- ---- the end

module _ (problem : DiagnosisProblem) (reads : List ReportLine) (judge : JudgeState) (represents : JudgeRepresents problem judge reads) where
  -- Where a block may begin and no line of the log is left, the lines are a whole report.
  pub whole_at_end : (rounds : ℕ) → rounds ≡ length judge.blocks.log.events → may_begin_block judge.reader.stand ≡ true → judge.blocks.log_lines.left ≡ [] → IsWhole problem reads rounds
  whole_at_end rounds counted may none = by represents.blocks
    where
      by : KeepsNone problem reads judge.blocks ⊎ ((terms : Terms) × (blocks : List Block) × KeepsBlocks problem terms blocks reads judge.blocks) → IsWhole problem reads rounds
      by (inl unbegun) =
          let first : Some stand.Nothing ≡ Some judge.reader.stand = ap stand_of (sym unbegun.none_read) ∙ represents.reader.stands in
          let same : stand.Nothing ≡ judge.reader.stand = cc in
          absurd (false≢true (ap may_begin_block same ∙ may))
      by (inr (terms, blocks, keeps)) =
          let few = keeps.right.few in
          let rest : length judge.blocks.log_lines.left ≡ length problem.log_lines - length blocks = ap length keeps.log.left ∙ length-drop (length blocks) problem.log_lines in
          let empty : length judge.blocks.log_lines.left ≡ 0 = ap length none in
          record {
            terms = terms;
            blocks = blocks;
            right = keeps.right;
            none_begun = none_begun reads judge.reader.stand represents.reader.stands may;
            all_lines = omega (arith, few, rest, empty);
            counted = counted ∙ ap (λ (log : Logbook). length log.events) keeps.log.log
                ∙ as_many_rounds problem.graph terms (take (length blocks) problem.log_lines) blocks keeps.right.are_blocks;
          }

  -- Else the report ends too early.
  pub early_at_end : (may_begin_block judge.reader.stand ≡ true → judge.blocks.log_lines.left ≡ [] → ⊥) → AreRight problem reads × EndFails problem reads (judge.lines + 1) cause.EndsEarly
  early_at_end more = by represents.blocks
    where
      some_left : (blocks : List Block) (left : List (List ℕ)) → left ≡ drop (length blocks) problem.log_lines → (left ≡ [] → ⊥) → length blocks < length problem.log_lines
      some_left blocks [] is some = absurd (some refl)
      some_left blocks (text ∷ rest) is some =
          let long : length (text ∷ rest) ≡ length problem.log_lines - length blocks = ap length is ∙ length-drop (length blocks) problem.log_lines in
          omega (arith, long)

      by_stand : (terms : Terms) (blocks : List Block) → KeepsBlocks problem terms blocks reads judge.blocks → (may : Bool) → may_begin_block judge.reader.stand ≡ may
          → (begun_in reads ≢ []) ⊎ (length blocks < length problem.log_lines)
      by_stand terms blocks keeps true may = inr (some_left blocks judge.blocks.log_lines.left keeps.log.left (more may))
      by_stand terms blocks keeps false may = inl (some_begun reads judge.reader.stand (λ none. not_none problem terms blocks reads keeps.right none) represents.reader.stands may)

      by : KeepsNone problem reads judge.blocks ⊎ ((terms : Terms) × (blocks : List Block) × KeepsBlocks problem terms blocks reads judge.blocks)
          → AreRight problem reads × EndFails problem reads (judge.lines + 1) cause.EndsEarly
      by (inl none) = (inl none.none_read, (refl, ap (λ (n : ℕ). n + 1) represents.lines, inl none.none_read))
      by (inr (terms, blocks, keeps)) = (
        inr (terms, blocks, keeps.right),
        (refl, ap (λ (n : ℕ). n + 1) represents.lines, inr (terms, blocks, keeps.right, by_stand terms blocks keeps (may_begin_block judge.reader.stand) refl)),
      )
