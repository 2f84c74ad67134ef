-- A report has no cause.
use Rattle.std.proofs.Common.{◌≡◌, ◌⊎◌, ℕ, suc, ◌+◌, ◌<◌, ◌≤◌, cond, Bool, true, false, List, [], ◌∷◌, ◌++◌, length, get_or, take, drop, All, Option, Some, None, slice_get, inl, inr, refl, sym, ap, subst, subst₂, ◌∙◌, arith, append-nil, append_assoc, length-append}
use Rattle.std.specs.Prelude.{flat_map, fold, option_and_then}
use Rattle.std.proofs.lemmas.Bool.{cases_Bool, false≢true}
use Rattle.std.proofs.lemmas.List.{length-take, length-take-le, same_lists, take-take, take_all}
use Rattle.std.proofs.lemmas.List.Elements.{All-nil, All-push}
use Rattle.std.proofs.lemmas.List.Sums.{fold-append}
use Rattle.std.proofs.lemmas.Option.{get_or_from_slice_get, slice_get_within, slice_get-get_or}
use Rattle.tfpg_base.specs.declared.terms.Terms.{Terms}
use Rattle.tfpg_base.proofs.lemmas.lists.Cuts.{cut_at, cut_twice, slice_get-take}
use Rattle.tfpg_base.proofs.lemmas.lists.Elements.{All-middle, slice_get-there}
use Rattle.tfpg_base.proofs.lemmas.lists.Written.{slice_get-after, slice_get-append_some}
use Rattle.tfpg_graph.specs.Graph.{Tfpg}
use Rattle.tfpg_report.specs.declared.report_line.ReportLine.{ReportLine}
use Rattle.tfpg_report.specs.declared.stand.Stand.{Stand}
use Rattle.tfpg_report.specs.declared.stand.Stand.TheVariants.{Nothing}
use Rattle.tfpg_report.specs.ReportLines.{Says}
use Rattle.tfpg_report.specs.Stands.{stand_after, stand_of}
use Rattle.tfpg_report.specs.Blocks.{Block, block_lines}
use Rattle.tfpg_report.specs.Reading.{IsHead, begun_in, begun_with, is_last}
use Rattle.tfpg_check.specs.declared.cause.CheckCause.{CheckCause}
use Rattle.tfpg_check.specs.Report.{AreBlocks, HasReports}
use Rattle.tfpg_check.specs.Causes.{AreRead, AreRightSoFar, BlockFails, EndFails, IsCause, LineFails, DiagnosisProblem, next_event}
use Rattle.tfpg_check.proofs.lemmas.completeness.EqualBlocks.{one_report}
use Rattle.tfpg_check.proofs.lemmas.completeness.LinesOfBlocks.{begun_after_last, blocks_end, completes_block, last_completes}
use Rattle.tfpg_check.proofs.lemmas.completeness.RightBlocksPass.{others_pass}
use Rattle.tfpg_check.proofs.lemmas.completeness.RightFronts.{IsRightFront, head_is_last, right_block_passes, right_front, right_so_far}

-- ---- where reports may go on

-- the stand after one more line, if there was one before
abbrev next_stand : Option Stand → ReportLine → Option Stand
next_stand reached line = option_and_then (λ (at : Stand). stand_after at line) reached

no_stand : (lines : List ReportLine) → fold next_stand None lines ≡ None
no_stand [] = refl
no_stand (line ∷ lines) = no_stand lines

-- what lines that may come begin with may come
front_may_come : (front back : List ReportLine) (stand : Stand) → stand_of (front ++ back) ≡ Some stand → (before : Stand) × (stand_of front ≡ Some before)
front_may_come front back stand is = by (stand_of front) refl
  where
    by : (reached : Option Stand) → stand_of front ≡ reached → (before : Stand) × (stand_of front ≡ Some before)
    by (Some before) at = (before, at)
    by None at =
        let none : stand_of (front ++ back) ≡ None =
        fold-append next_stand (Some Nothing) front back ∙ ap (λ (reached : Option Stand). fold next_stand reached back) at ∙ no_stand back in
        absurd cc

-- That bytes say at most one line is a law of lines.
abbrev pub SayOneThing : Tfpg → Type 0
SayOneThing graph = (line other : ReportLine) (bytes : List ℕ) → Says graph line bytes → Says graph other bytes → line ≡ other

-- ---- what the first lines say

module _ (graph : Tfpg) (one_thing : SayOneThing graph) (lines : List (List ℕ)) (own : List ReportLine) (are_own : AreRead graph lines own) where
  module _ (before rest : List (List ℕ)) (reads : List ReportLine) (are : AreRead graph before reads) (lines_are : lines ≡ before ++ rest) where
    few_reads : length reads ≤ length own
    few_reads =
        let each = are.one_each in
        let each_own = are_own.one_each in
        let long : length lines ≡ length before + length rest = ap length lines_are ∙ length-append before rest in
        omega (arith, each, each_own, long)

    -- a line of theirs says one thing
    same_read : (index : ℕ) (read : ReportLine) → slice_get reads index ≡ Some read → slice_get own index ≡ Some read
    same_read index read at =
        let each = are.one_each in
        let few = few_reads in
        let within : index < length reads = slice_get_within reads index read at in
        let bytes = slice_get-there before index (omega (arith, within, each)) in
        let other = slice_get-there own index (omega (arith, within, few)) in
        let line : slice_get lines index ≡ Some bytes.0 = ap (λ (ls : List (List ℕ)). slice_get ls index) lines_are ∙ slice_get-append_some before rest index bytes.0 bytes.1 in
        other.1 ∙ ap Some (one_thing other.0 read bytes.0 (are_own.each index bytes.0 other.0 line other.1) (are.each index bytes.0 read bytes.1 at))

    -- So what they say is what all lines begin with.
    pub reads_are : take (length reads) own ≡ reads
    reads_are =
        let few = few_reads in
        let long : length (take (length reads) own) ≡ length reads = length-take-le (length reads) own few in
        same_lists (take (length reads) own) reads long
        (λ index d within. (
        let read : slice_get reads index ≡ Some (get_or reads index d) = slice_get-get_or reads index d (omega (arith, within, long)) in
        get_or_from_slice_get (take (length reads) own) index (get_or reads index d) d
        (slice_get-take (length reads) own index (omega (arith, within, long)) ∙ same_read index (get_or reads index d) read)
        ))

  -- The next line says the next one.
  next_read : (before : List (List ℕ)) (bytes : List ℕ) (more : List (List ℕ)) (reads : List ReportLine) → AreRead graph before reads → lines ≡ before ++ bytes ∷ more
      → (here : ReportLine) × (rest : List ReportLine) × Says graph here bytes × (own ≡ reads ++ here ∷ rest)
  next_read before bytes more reads are lines_are =
      let each = are.one_each in
      let each_own = are_own.one_each in
      let long : length lines ≡ length before + length (bytes ∷ more) = ap length lines_are ∙ length-append before (bytes ∷ more) in
      let here = slice_get-there own (length reads) (omega (arith, each, each_own, long)) in
      let line : slice_get lines (length reads) ≡ Some bytes = ap (slice_get lines) each ∙ ap (λ (ls : List (List ℕ)). slice_get ls (length before)) lines_are ∙ slice_get-after before bytes more in (
        here.0,
        drop (suc (length reads)) own,
        are_own.each (length reads) bytes here.0 line here.1,
        cut_at own (length reads) here.0 here.1 ∙ ap (λ (front : List ReportLine). front ++ here.0 ∷ drop (suc (length reads)) own) (reads_are before (bytes ∷ more) reads are lines_are),
      )

-- ---- lines that are right

-- Right for the first lines of a log is right for all of them.
right_for_all : (problem : DiagnosisProblem) (count : ℕ) (terms : Terms) (blocks : List Block) (reads : List ReportLine)
    → AreRightSoFar (record { graph = problem.graph; log_lines = take count problem.log_lines }) terms blocks reads → AreRightSoFar problem terms blocks reads
right_for_all problem count terms blocks reads right =
    let few = right.few in
    let counted = length-take count problem.log_lines in
    record {
      has_reports = right.has_reports;
      head = right.head;
      is_head = right.is_head;
      few = omega (arith, few, counted);
      are_blocks = subst (λ (ls : List (List ℕ)). AreBlocks problem.graph terms ls blocks) (take-take (length blocks) count problem.log_lines (omega (arith, few, counted))) right.are_blocks;
      lines_are = right.lines_are;
    }

-- the lines of a round that has not ended are no last ones
begun_not_last : (begun lines : List ReportLine) → All (λ line. is_last line ≡ false) begun → All (λ line. is_last line ≡ false) (fold begun_with begun lines)
begun_not_last begun [] not_last = not_last
begun_not_last begun (line ∷ lines) not_last = begun_not_last (begun_with begun line) lines (by (is_last line) refl)
  where
    by : (last : Bool) → is_last line ≡ last → All (λ other. is_last other ≡ false) (cond last [] (begun ++ line ∷ []))
    by true is = All-nil (λ other. is_last other ≡ false)
    by false is = All-push (λ other. is_last other ≡ false) begun line not_last is

module _ (problem : DiagnosisProblem) (one_thing : SayOneThing problem.graph) (terms : Terms) (blocks : List Block) (lines : List (List ℕ)) (own : List ReportLine) (whole : AreRightSoFar problem terms blocks own)
    (are_own : AreRead problem.graph lines own) where
  -- The front before one of their lines is right, and so it is with this line and its block, where it completes one.
  front_before : (first : ReportLine) (reads : List ReportLine) (here : ReportLine) (rest : List ReportLine) → own ≡ first ∷ (reads ++ here ∷ rest) → completes_block here ≡ true
      → IsRightFront problem terms (first ∷ reads) here
  front_before first reads here rest same completes =
      let all : whole.head ∷ (flat_map block_lines blocks ++ begun_in own) ≡ first ∷ (reads ++ here ∷ rest) = sym whole.lines_are ∙ same in
      let heads : whole.head ≡ first = cc in
      let later : flat_map block_lines blocks ++ begun_in own ≡ reads ++ here ∷ rest = cc in
      elim (cut_twice (flat_map block_lines blocks) (begun_in own) reads (here ∷ rest) later) [
        | inl past ↦ (
            let begun : All (λ line. is_last line ≡ false) (past.mid ++ here ∷ rest) =
            subst (All (λ line. is_last line ≡ false)) past.rest_is (begun_not_last [] own (All-nil (λ line. is_last line ≡ false))) in
            absurd (false≢true (sym (All-middle (λ line. is_last line ≡ false) past.mid here rest begun) ∙ last_completes here completes))
            )
        | inr within ↦ (
            let same_here : within.here ≡ here = (let back = within.back_is in cc) in
            let front = right_front (record { graph = problem.graph; log_lines = take (length blocks) problem.log_lines }) terms whole.has_reports whole.head whole.is_head blocks whole.are_blocks
            reads here within.mid (within.xs_is ∙ ap (λ (line : ReportLine). reads ++ line ∷ within.mid) same_here) in
            subst (λ (line : ReportLine). IsRightFront problem terms (line ∷ reads) here) heads
            (record {
              blocks = front.blocks;
              right = right_for_all problem (length blocks) terms front.blocks (whole.head ∷ reads) front.right;
              next = λ completes. (
                  let next = front.next completes in (
                    next.0,
                    right_for_all problem (length blocks) terms (front.blocks ++ next.0 ∷ []) (whole.head ∷ (reads ++ here ∷ [])) next.1,
                  )
                  );
            })
            )
      ]

  -- after what they begin with no block fails
  no_block_fails : (reads : List ReportLine) (here : ReportLine) (rest : List ReportLine) → own ≡ reads ++ here ∷ rest → (others : Terms) (more : List Block) → AreRightSoFar problem others more reads
      → (at : ℕ) (why : CheckCause) → BlockFails problem others more reads here (next_event problem more) at why → ⊥
  no_block_fails [] here rest same others more right at why fails = let none : [] ≡ right.head ∷ flat_map block_lines more ++ begun_in [] = right.lines_are in absurd cc
  no_block_fails (first ∷ reads) here rest same others more right at why fails = elim (cases_Bool (completes_block here)) [
    | inl completes ↦ (
        let front = front_before first reads here rest same completes in
        let one = one_report problem others terms more front.blocks (first ∷ reads) right front.right in
        let next = front.next completes in
        right_block_passes problem terms front.blocks next.0 (first ∷ reads) here completes next.1 at why
        (subst₂ (λ (t : Terms) (bs : List Block). BlockFails problem t bs (first ∷ reads) here (next_event problem bs) at why) one.0 one.1 fails)
        )
    | inr completes_none ↦ others_pass problem others more (first ∷ reads) here (next_event problem more) completes_none at why fails
  ]

  -- After what right lines begin with no line of theirs fails.
  pub no_line_fails : (before : List (List ℕ)) (bytes : List ℕ) (more : List (List ℕ)) (reads : List ReportLine) → AreRead problem.graph before reads → lines ≡ before ++ bytes ∷ more
      → (at : ℕ) (why : CheckCause) → LineFails problem reads bytes at why → ⊥
  no_line_fails before bytes more reads are_read lines_are at why (inl bad) =
      let next = next_read problem.graph one_thing lines own are_own before bytes more reads are_read lines_are in
      let stand = front_may_come (reads ++ next.0 ∷ []) next.1 are_own.stand (ap stand_of (append_assoc reads (next.0 ∷ []) next.1 ∙ sym next.3) ∙ are_own.stands) in
      bad.2 next.0 (record { says = next.2; stand = stand.0; stands = stand.1 })
  no_line_fails before bytes more reads are_read lines_are at why (inr fails) =
      let next = next_read problem.graph one_thing lines own are_own before bytes more reads are_read lines_are in
      let same : fails.0 ≡ next.0 = one_thing fails.0 next.0 bytes fails.3.says next.2 in
      no_block_fails reads next.0 next.1 next.3 fails.1 fails.2 fails.4 at why (subst (λ (line : ReportLine). BlockFails problem fails.1 fails.2 reads line (next_event problem fails.2) at why) same fails.5)

-- ---- a report

module _ (problem : DiagnosisProblem) (one_thing : SayOneThing problem.graph) (terms : Terms) (blocks : List Block) (lines : List (List ℕ)) (has_reports : HasReports problem.graph terms) (head : ReportLine)
    (is_head : IsHead terms head) (are : AreBlocks problem.graph terms problem.log_lines blocks) (are_own : AreRead problem.graph lines (head ∷ flat_map block_lines blocks)) where
  abbrev Own : List ReportLine
  Own = head ∷ flat_map block_lines blocks

  -- the whole report is right
  whole_is_right : AreRightSoFar problem terms blocks Own
  whole_is_right =
      let one_each = are.one_each in
      right_so_far problem terms has_reports head is_head blocks [] Own (omega (arith, one_each))
      (subst (λ (ls : List (List ℕ)). AreBlocks problem.graph terms ls blocks) (sym (take_all (length blocks) problem.log_lines (omega (arith, one_each)))) are)
      (All-nil (λ line. is_last line ≡ false)) (ap (λ (ls : List ReportLine). head ∷ ls) (sym (append-nil (flat_map block_lines blocks))))

  -- no round has begun at its end
  none_begun : begun_in Own ≡ []
  none_begun = ap (λ (begun : List ReportLine). fold begun_with begun (flat_map block_lines blocks)) (begun_after_last [] head (head_is_last terms head is_head)) ∙ blocks_end blocks

  no_end_fails : (reads : List ReportLine) → Own ≡ reads → (at : ℕ) (why : CheckCause) → EndFails problem reads at why → ⊥
  no_end_fails reads same at why (_, _, inl none) = let empty : head ∷ flat_map block_lines blocks ≡ [] = same ∙ none in absurd cc
  no_end_fails reads same at why (_, _, inr (others, more, right, inl begun)) = begun (sym (ap begun_in same) ∙ none_begun)
  no_end_fails reads same at why (_, _, inr (others, more, right, inr few)) =
      let one = one_report problem others terms more blocks Own (subst (AreRightSoFar problem others more) (sym same) right) whole_is_right in
      let one_each = are.one_each in
      let many : length more ≡ length blocks = ap length one.1 in
      omega (arith, few, one_each, many)

  -- A report whose lines can be read has no cause.
  pub no_cause : (at : ℕ) (why : CheckCause) → IsCause problem lines at why → ⊥
  no_cause at why cause = by cause.fails
    where
      by : ((bytes : List ℕ) × (more : List (List ℕ)) × (lines ≡ cause.before ++ bytes ∷ more) × LineFails problem cause.reads bytes at why)
          ⊎ ((lines ≡ cause.before) × EndFails problem cause.reads at why) → ⊥
      by (inl fails) = no_line_fails problem one_thing terms blocks lines Own whole_is_right are_own cause.before fails.0 fails.1 cause.reads cause.are_read fails.2 at why fails.3
      by (inr fails) =
          let whole : lines ≡ cause.before ++ [] = fails.0 ∙ sym (append-nil cause.before) in
          let each = cause.are_read.one_each in
          let each_own = are_own.one_each in
          let long : length lines ≡ length cause.before = ap length fails.0 in
          no_end_fails cause.reads
          (sym (take_all (length cause.reads) Own (omega (arith, each, each_own, long)))
          ∙ reads_are problem.graph one_thing lines Own are_own cause.before [] cause.reads cause.are_read whole)
          at why fails.1
