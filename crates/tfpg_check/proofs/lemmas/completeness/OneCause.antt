-- Lines have no more than one cause for which they are not accepted, at one line.
use Rattle.std.proofs.Common.{◌≡◌, ◌⊎◌, ℕ, ◌+◌, ◌<◌, List, [], ◌∷◌, ◌++◌, length, take, Option, Some, None, Result, Ok, Err, inl, inr, sym, ap, subst, subst₂, ◌∙◌, arith, append-nil, length-append}
use Rattle.std.proofs.Math.Seq.{take-append_seam}
use Rattle.std.proofs.lemmas.Bool.{cases_order}
use Rattle.std.proofs.lemmas.List.{append_cancel_left, take_all}
use Rattle.tfpg_base.specs.declared.terms.Terms.{Terms}
use Rattle.tfpg_base.proofs.lemmas.lists.Cuts.{cut_twice}
use Rattle.tfpg_log.specs.declared.event.Event.{Event}
use Rattle.tfpg_clause.specs.Laws.{PresentLeavesAreAlone, RefutationsAreNotPartial}
use Rattle.tfpg_hyp.proofs.lemmas.Tables.{one_table}
use Rattle.tfpg_report.specs.declared.read_round.ReadRound.{ReadRound}
use Rattle.tfpg_log.specs.declared.refused_line.RefusedLine.{RefusedLine}
use Rattle.tfpg_report.specs.declared.report_line.ReportLine.{ReportLine}
use Rattle.tfpg_report.specs.declared.report_line.ReportLine.TheVariants.{Refused, Counts}
use Rattle.tfpg_report.specs.Blocks.{Block}
use Rattle.tfpg_report.specs.Reading.{begun_in}
use Rattle.tfpg_report.proofs.lemmas.laws.LinesOfOneRound.{one_round_read}
use Rattle.tfpg_check.specs.declared.cause.CheckCause.{CheckCause}
use Rattle.tfpg_check.specs.Causes.{AreRight, BlockFails, EndFails, IsCause, IsRoundBasis, LineFails, DiagnosisProblem, block_begins, next_event}
use Rattle.tfpg_check.specs.Judging.{RoundBasis, RoundFails}
use Rattle.tfpg_check.specs.RightReports.{LinesHaveOneCause}
use Rattle.tfpg_check.proofs.lemmas.FirstLines.{OneLine}
use Rattle.tfpg_check.proofs.lemmas.completeness.EqualBlocks.{one_report}
use Rattle.tfpg_check.proofs.lemmas.completeness.NoCause.{SayOneThing, no_line_fails, reads_are}
use Rattle.tfpg_check.proofs.lemmas.completeness.OneRoundCause.{FailsOnce, round_once}

-- ---- blocks

-- a round is judged by one basis
one_basis : (problem : DiagnosisProblem) (terms : Terms) (blocks : List Block) (event : Event) (one other : RoundBasis) → IsRoundBasis problem terms blocks event one → IsRoundBasis problem terms blocks event other → one ≡ other
one_basis problem terms blocks event one other is also =
    let graphs : one.graph ≡ other.graph = is.graph ∙ sym also.graph in
    let terms_are : one.terms ≡ other.terms = is.terms_are ∙ sym also.terms_are in
    let hypotheses : one.hypotheses ≡ other.hypotheses = one_table problem.graph terms one.hypotheses other.hypotheses is.hypotheses also.hypotheses in
    let logs : one.log ≡ other.log = is.log ∙ sym also.log in
    λ i. record {
      graph = graphs i;
      terms = terms_are i;
      hypotheses = hypotheses i;
      steps = λ number. (is.steps number ∙ sym (also.steps number)) i;
      log = logs i;
    }

module _ (only_one : PresentLeavesAreAlone) (finished : RefutationsAreNotPartial) (problem : DiagnosisProblem) where
  module _ (terms : Terms) (blocks : List Block) where
    block_once : (before : List ReportLine) (here : ReportLine) (next : Option (Result Event RefusedLine)) → FailsOnce (BlockFails problem terms blocks before here next)
    block_once before (Refused number said) None line other why also a b = (a.0 ∙ sym b.0, a.1 ∙ sym b.1)
    block_once before (Refused number said) (Some brings) line other why also a b = (a.0 ∙ sym b.0, a.1 ∙ sym b.1)
    block_once before (Counts counts) None line other why also a b = (a.0 ∙ sym b.0, a.1 ∙ sym b.1)
    block_once before (Counts counts) (Some (Err refused)) line other why also a b = (a.0 ∙ sym b.0, a.1 ∙ sym b.1)
    block_once before (Counts counts) (Some (Ok event)) line other why also a b =
        let read : a.0 ≡ b.0 = one_round_read (block_begins before) (begun_in before ++ Counts counts ∷ []) a.0 b.0 a.2 b.2 in
        let basis : a.1 ≡ b.1 = one_basis problem terms blocks event a.1 b.1 a.3 b.3 in
        round_once only_one finished b.1 b.0 (length blocks + 1) line other why also
        (subst₂ (λ (r : ReadRound) (j : RoundBasis). RoundFails j (length blocks + 1) r line why) read basis a.4) b.4
    block_once before _ next line other why also a b = absurd a

  -- ---- lines

  module _ (one_thing : SayOneThing problem.graph) where
    line_once : (before : List ReportLine) (bytes : List ℕ) → FailsOnce (LineFails problem before bytes)
    line_once before bytes line other why also (inl a) (inl b) = (a.1 ∙ sym b.1, a.0 ∙ sym b.0)
    line_once before bytes line other why also (inl a) (inr b) = absurd (a.2 b.0 b.3)
    line_once before bytes line other why also (inr a) (inl b) = absurd (b.2 a.0 a.3)
    line_once before bytes line other why also (inr a) (inr b) =
        let said : a.0 ≡ b.0 = one_thing a.0 b.0 bytes a.3.says b.3.says in
        let one = one_report problem a.1 b.1 a.2 b.2 before a.4 b.4 in
        block_once b.1 b.2 before b.0 (next_event problem b.2) line other why also
        (subst (λ (here : ReportLine). BlockFails problem b.1 b.2 before here (next_event problem b.2) line why) said
        (subst₂ (λ (t : Terms) (bs : List Block). BlockFails problem t bs before a.0 (next_event problem bs) line why) one.0 one.1 a.5))
        b.5

    module _ (lines : List (List ℕ)) where
      -- what comes after the lines before a cause
      rest_of_cause : (at : ℕ) (why : CheckCause) (cause : IsCause problem lines at why) → (rest : List (List ℕ)) × (lines ≡ cause.before ++ rest)
      rest_of_cause at why cause = by cause.fails
        where
          by : ((bytes : List ℕ) × (more : List (List ℕ)) × (lines ≡ cause.before ++ bytes ∷ more) × LineFails problem cause.reads bytes at why)
              ⊎ ((lines ≡ cause.before) × EndFails problem cause.reads at why) → (rest : List (List ℕ)) × (lines ≡ cause.before ++ rest)
          by (inl fails) = (fails.0 ∷ fails.1, fails.2)
          by (inr fails) = ([], fails.0 ∙ sym (append-nil cause.before))

      module _ (at other : ℕ) (why also : CheckCause) (one : IsCause problem lines at why) (two : IsCause problem lines other also) where
        -- a line that fails is not among the lines before another cause
        not_earlier : length one.before < length two.before → (bytes : List ℕ) (more : List (List ℕ)) → lines ≡ one.before ++ bytes ∷ more → LineFails problem one.reads bytes at why → ⊥
        not_earlier less bytes more lines_are fails =
            let rest = rest_of_cause other also two in
            elim (cut_twice one.before (bytes ∷ more) two.before rest.0 (sym lines_are ∙ rest.1)) [
              | inl past ↦ among past.mid past.front_is past.rest_is two.right
              | inr within ↦ (let long : length one.before ≡ length two.before + length (within.here ∷ within.mid) = ap length within.xs_is ∙ length-append two.before (within.here ∷ within.mid) in absurd (omega (arith, less, long)))
            ]
          where
            among : (mid : List (List ℕ)) → two.before ≡ one.before ++ mid → bytes ∷ more ≡ mid ++ (rest_of_cause other also two).0 → AreRight problem two.reads → ⊥
            among [] front_is rest_is right =
                let same : length two.before ≡ length one.before = ap length (front_is ∙ append-nil one.before) in
                omega (arith, less, same)
            among (first ∷ mid) front_is rest_is (inl none) =
                let each = two.are_read.one_each in
                let empty : length two.reads ≡ 0 = ap length none in
                omega (arith, less, each, empty)
            among (first ∷ mid) front_is rest_is (inr right) =
                let same : first ≡ bytes = cc in
                no_line_fails problem one_thing right.0 right.1 two.before two.reads right.2 two.are_read one.before bytes mid one.reads one.are_read
                (front_is ∙ ap (λ (line : List ℕ). one.before ++ line ∷ mid) same) at why fails

        none_earlier : length one.before < length two.before → ⊥
        none_earlier less = by one.fails
          where
            by : ((bytes : List ℕ) × (more : List (List ℕ)) × (lines ≡ one.before ++ bytes ∷ more) × LineFails problem one.reads bytes at why)
                ⊎ ((lines ≡ one.before) × EndFails problem one.reads at why) → ⊥
            by (inl fails) = not_earlier less fails.0 fails.1 fails.2 fails.3
            by (inr fails) =
                let rest = rest_of_cause other also two in
                let long : length lines ≡ length two.before + length rest.0 = ap length rest.1 ∙ length-append two.before rest.0 in
                let short : length lines ≡ length one.before = ap length fails.0 in
                omega (arith, less, long, short)

        module _ (same : length one.before ≡ length two.before) where
          same_before : one.before ≡ two.before
          same_before =
              let rest = rest_of_cause at why one in
              let other_rest = rest_of_cause other also two in
              sym (ap (take (length one.before)) rest.1 ∙ take-append_seam one.before rest.0)
              ∙ ap (λ (count : ℕ). take count lines) same
              ∙ ap (take (length two.before)) other_rest.1 ∙ take-append_seam two.before other_rest.0

          same_reads : one.reads ≡ two.reads
          same_reads =
              let each = one.are_read.one_each in
              let other_each = two.are_read.one_each in
              sym (reads_are problem.graph one_thing two.before two.reads two.are_read one.before [] one.reads one.are_read (sym same_before ∙ sym (append-nil one.before)))
              ∙ take_all (length one.reads) two.reads (omega (arith, same, each, other_each))

          same_place : ((bytes : List ℕ) × (more : List (List ℕ)) × (lines ≡ one.before ++ bytes ∷ more) × LineFails problem one.reads bytes at why)
              ⊎ ((lines ≡ one.before) × EndFails problem one.reads at why)
              → ((bytes : List ℕ) × (more : List (List ℕ)) × (lines ≡ two.before ++ bytes ∷ more) × LineFails problem two.reads bytes other also)
              ⊎ ((lines ≡ two.before) × EndFails problem two.reads other also)
              → (at ≡ other) × (why ≡ also)
          same_place (inl a) (inl b) =
              let rests : a.0 ∷ a.1 ≡ b.0 ∷ b.1 =
              append_cancel_left two.before (a.0 ∷ a.1) (b.0 ∷ b.1) (ap (λ (front : List (List ℕ)). front ++ a.0 ∷ a.1) (sym same_before) ∙ sym a.2 ∙ b.2) in
              let bytes : a.0 ≡ b.0 = cc in
              line_once two.reads b.0 at other why also (subst₂ (λ (reads : List ReportLine) (line : List ℕ). LineFails problem reads line at why) same_reads bytes a.3) b.3
          same_place (inl a) (inr b) =
              let long : length lines ≡ length one.before + length (a.0 ∷ a.1) = ap length a.2 ∙ length-append one.before (a.0 ∷ a.1) in
              let short : length lines ≡ length two.before = ap length b.0 in
              absurd (omega (arith, same, long, short))
          same_place (inr a) (inl b) =
              let long : length lines ≡ length two.before + length (b.0 ∷ b.1) = ap length b.2 ∙ length-append two.before (b.0 ∷ b.1) in
              let short : length lines ≡ length one.before = ap length a.0 in
              absurd (omega (arith, same, long, short))
          same_place (inr a) (inr b) =
              let own : EndFails problem two.reads at why = subst (λ (reads : List ReportLine). EndFails problem reads at why) same_reads a.1 in
              (own.1 ∙ sym b.1.1, own.0 ∙ sym b.1.0)

      one_cause : (at other : ℕ) (why also : CheckCause) → IsCause problem lines at why → IsCause problem lines other also → (at ≡ other) × (why ≡ also)
      one_cause at other why also one two = elim (cases_order (length one.before) (length two.before)) [
        | inl same ↦ same_place at other why also one two same one.fails two.fails
        | inr (inl less) ↦ absurd (none_earlier at other why also one two less)
        | inr (inr more) ↦ absurd (none_earlier other at also why two one more)
      ]

-- Lines have no more than one cause.
pub lines_have_one_cause : PresentLeavesAreAlone → RefutationsAreNotPartial → OneLine → LinesHaveOneCause
lines_have_one_cause only_one finished one_line problem lines at other why also valid one two =
    one_cause only_one finished problem (λ line said bytes is says. one_line problem.graph line said bytes valid is says) lines at other why also one two
