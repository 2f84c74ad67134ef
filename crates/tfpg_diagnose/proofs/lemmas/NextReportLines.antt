-- Judging the report of the input, one line after another.
use Rattle.std.proofs.Common.{◌≡◌, ℕ, ◌+◌, ◌<◌, ◌≤◌, List, [], ◌∷◌, ◌++◌, length, drop, Some, Ok, Err, inl, inr, refl, sym, ap, subst, ◌-◌, ◌^◌, ◌∙◌, arith, append-nil, append_assoc, length-append, slice_get}
use Rattle.std.proofs.lemmas.List.{take-append-drop}
use Rattle.std.proofs.lemmas.Option.{none-some}
use Rattle.tfpg_base.specs.declared.line.Line.{Line}
use Rattle.tfpg_base.specs.declared.line.Line.TheVariants as line
use Rattle.tfpg_base.specs.declared.line.LineFault.{LineFault}
use Rattle.tfpg_base.specs.declared.line.LineFault.TheVariants as fault
use Rattle.tfpg_base.specs.declared.limits.TheConstants.{LONGEST_LINE, MAX_BYTES}
use Rattle.tfpg_base.specs.Lines.{LinesState, LinesRepresent, Continues, lines_of, new_reading, with_bytes, with_line}
use Rattle.tfpg_base.specs.Outside.{SourceState, Rose}
use Rattle.tfpg_base.proofs.lemmas.ReadingOn.{GaveLine, Continues-turn, Continues-text, Continues-too_long}
use Rattle.tfpg_base.proofs.lemmas.Taking.{Takes-append, Takes-nothing}
use Rattle.tfpg_base.proofs.lemmas.lists.Cuts.{front_is_within, front_with}
use Rattle.tfpg_base.proofs.lemmas.lists.Written.{slice_get-after}
use Rattle.tfpg_graph.specs.Graph.{Tfpg}
use Rattle.tfpg_report.specs.declared.report_line.ReportLine.{ReportLine}
use Rattle.tfpg_report.specs.Reading.{MayCome}
use Rattle.tfpg_report.specs.declared.stand.Stand.TheVariants.{Nothing}
use Rattle.tfpg_check.specs.declared.cause.CheckCause.{CheckCause}
use Rattle.tfpg_check.specs.declared.cause.CheckCause.TheVariants.{BadReport}
use Rattle.tfpg_check.specs.declared.judge_fault.JudgeFault.{JudgeFault}
use Rattle.tfpg_check.specs.declared.judge_fault.JudgeFault.TheVariants as faults
use Rattle.tfpg_check.specs.Causes.{DiagnosisProblem, AreRead, EndFails, LineFails}
use Rattle.tfpg_check.specs.Judged.{HasTooMany, IsJudged, IsJudgedAtEnd}
use Rattle.tfpg_check.specs.JudgeState.{GoesOnTo, JudgeState}
use Rattle.tfpg_check.specs.RightReports.{WholeLinesAreThoseOfReports}
use Rattle.tfpg_diagnose.specs.declared.fault.CheckFault.{CheckFault}
use Rattle.tfpg_diagnose.specs.declared.fault.CheckFault.TheVariants as check
use Rattle.tfpg_diagnose.specs.JudgedReports.{IsRightSoFar, AcceptsReport, LacksReport}
use Rattle.tfpg_diagnose.specs.inside.Faults.{check_fault_of_judge}
use Rattle.tfpg_diagnose.specs.inside.JudgingUnderWay.{HasJudgedAll, IsChecking, IsJudging, IsNewJudge, IsReadingLines, IsReadingOn, checking_at}
use Rattle.tfpg_streams.proofs.lemmas.InputLines.{rest_of, rest_is_left, rest_at_end, front_of_input, came_to_end}
use Rattle.tfpg_streams.proofs.lemmas.FewLines.{few_lines}
use Rattle.tfpg_check.proofs.lemmas.EarlyEnds.{line_never_early}

-- ---- the lines so far

-- no more lines are read than bytes may be taken, but for a last one
pub few_read : (before input : SourceState) (lines : LinesState) → IsReadingLines before input lines → lines.number ≤ MAX_BYTES + 1
few_read before input lines under =
    let within = front_is_within (lines_of under.reading.taken) under.reading.given under.front in
    omega (arith, within, few_lines under.reading.taken, under.few, under.represents.number)

-- Lines that were read are such with one more, as a law of the judge says.
abbrev OneMoreIsRead : Type 0
OneMoreIsRead = (graph : Tfpg) (lines : List (List ℕ)) (reads : List ReportLine) (bytes : List ℕ) (read : ReportLine) → AreRead graph lines reads → MayCome graph reads bytes read
    → AreRead graph (lines ++ bytes ∷ []) (reads ++ read ∷ [])

-- a line of a report is not too long
no_long_line : (graph : Tfpg) (before : List ReportLine) (bytes : List ℕ) → LONGEST_LINE < length bytes → (read : ReportLine) → MayCome graph before bytes read → ⊥
no_long_line graph before bytes long read may =
    let short : length bytes ≤ LONGEST_LINE = may.says.short in
    omega (arith, long, short)

-- before the first line
pub begins_judging : (before : SourceState) (lines : LinesState) (judge : JudgeState) → LinesRepresent lines new_reading → judge.lines ≡ 0 → IsJudging judge before (checking_at before lines judge)
begins_judging before lines judge unread none = record {
  reads_on = record { under = under; counted = none ∙ sym unread.number };
  checks = λ problem new. record {
    under = under;
    reads = [];
    are_read = record { one_each = refl; each = λ index bytes read at said. absurd (none-some bytes at); stand = Nothing; stands = refl };
    right = inl refl;
    represents = new.represents;
  };
}
  where
    under : IsReadingLines before before lines
    under = record { reading = new_reading; takes = Takes-nothing before; few = omega arith; represents = unread; goes_on = inl refl; front = refl; no_fault = refl }

-- ---- one line

module _ (before now input : SourceState) (lines lines' : LinesState) (under : IsReadingLines before now lines) (gave : GaveLine under.reading now input lines') where
  -- reading goes on
  abbrev reads_line : IsReadingLines before input lines'
  reads_line =
      let reading = under.reading in
      record {
        reading = with_line (with_bytes reading gave.more) gave.first;
        takes = Takes-append before now input reading.taken gave.more under.takes gave.takes;
        few = gave.next.few;
        represents = gave.stands;
        goes_on = gave.goes_on;
        front = front_with (lines_of (reading.taken ++ gave.more)) reading.given gave.first gave.next.front;
        no_fault = gave.no_fault ∙ under.no_fault;
      }

  one_further : lines'.number ≡ lines.number + 1
  one_further = omega (arith, gave.stands.number, under.represents.number, length-append under.reading.given (gave.first ∷ []))

  -- the lines of the input, and its line in its place
  abbrev All : List (List ℕ)
  All = lines_of ((under.reading.taken ++ gave.more) ++ rest_of input)

  abbrev Later : List (List ℕ)
  Later = drop (length under.reading.given + 1) All

  line_in_place : All ≡ under.reading.given ++ gave.first ∷ Later
  line_in_place =
      sym (take-append-drop (length under.reading.given + 1) All)
      ∙ ap (λ (front : List (List ℕ)). front ++ Later) (front_of_input (with_bytes under.reading gave.more) gave.first input gave.next)
      ∙ append_assoc under.reading.given (gave.first ∷ []) Later

-- the line is judged
module _ (problem : DiagnosisProblem) (before now input : SourceState) (lines lines' : LinesState) (judge : JudgeState) (checking : IsChecking problem before (checking_at now lines judge))
    (gave : GaveLine checking.under.reading now input lines') where
  -- it is right
  right_line : OneMoreIsRead → (judge' : JudgeState) → GoesOnTo problem checking.reads gave.first judge' → IsChecking problem before (checking_at input lines' judge')
  right_line one_more judge' on = record {
    under = reads_line before now input lines lines' checking.under gave;
    reads = checking.reads ++ on.read ∷ [];
    are_read = one_more problem.graph checking.under.reading.given checking.reads gave.first on.read checking.are_read on.goes_on.may_come;
    right = on.goes_on.right;
    represents = on.represents;
  }

  -- it is refused
  refused_line : (at : ℕ) (why : CheckCause) → LineFails problem checking.reads gave.first at why → LacksReport problem before input (check.NotAccepted at why)
  refused_line at why fails = record {
    taken = checking.under.reading.taken ++ gave.more;
    takes = Takes-append before now input checking.under.reading.taken gave.more checking.under.takes gave.takes;
    shown = (
      record {
        rest = rest_of input;
        left = rest_is_left input;
        is_cause = record {
          before = checking.under.reading.given;
          reads = checking.reads;
          are_read = checking.are_read;
          right = checking.right;
          fails = inl (gave.first, Later before now input lines lines' checking.under gave, line_in_place before now input lines lines' checking.under gave, fails);
        };
        ended = λ early. absurd (line_never_early problem checking.reads gave.first at why fails early);
      },
      gave.no_fault ∙ checking.under.no_fault,
    );
  }

  -- it is the first one, on terms with too many hypotheses
  too_many : (count : ℕ) → HasTooMany problem checking.reads gave.first count → LacksReport problem before input (check.TooMany count)
  too_many count many =
      let none : length checking.reads ≡ 0 = ap length many.first in
      let each = checking.are_read.one_each in
      let first : length checking.under.reading.given ≡ 0 = omega (arith, none, each) in
      record {
        taken = checking.under.reading.taken ++ gave.more;
        takes = Takes-append before now input checking.under.reading.taken gave.more checking.under.takes gave.takes;
        shown = (
          record {
            rest = rest_of input;
            left = rest_is_left input;
            first = gave.first;
            at = subst (λ (index : ℕ). slice_get (All before now input lines lines' checking.under gave) index ≡ Some gave.first) first
                (ap (λ (ls : List (List ℕ)). slice_get ls (length checking.under.reading.given)) (line_in_place before now input lines lines' checking.under gave)
                ∙ slice_get-after checking.under.reading.given gave.first (Later before now input lines lines' checking.under gave));
            head = many.read;
            says = many.may_come.says;
            terms = many.terms;
            is_head = many.is_head;
            too_many = many.too_many;
            counted = many.counted;
          },
          gave.no_fault ∙ checking.under.no_fault,
        );
      }

  -- memory ran out
  without_memory : LacksReport problem before input check.NoMemory
  without_memory = record {
    taken = checking.under.reading.taken ++ gave.more;
    takes = Takes-append before now input checking.under.reading.taken gave.more checking.under.takes gave.takes;
    shown = gave.no_fault ∙ checking.under.no_fault;
  }

  by_judge : (fault : JudgeFault) → IsJudged problem checking.reads gave.first (Err fault) → LacksReport problem before input (check_fault_of_judge fault)
  by_judge (faults.NotAccepted at why) judged = refused_line at why judged.1
  by_judge (faults.TooMany count) judged = too_many count judged
  by_judge faults.NoMemory judged = without_memory

-- ---- as the code comes to it, without the report

module _ (before now input : SourceState) (lines lines' : LinesState) (judge : JudgeState) (on : IsReadingOn before (checking_at now lines judge)) (l : Line)
    (continues : Continues on.under.reading on.under.reading.ended now input (Ok l) lines') (text : l ≡ line.Text) where
  gave_text : (gave : GaveLine on.under.reading now input lines') × (length gave.first ≤ LONGEST_LINE) × (lines'.text ≡ gave.first)
  gave_text = Continues-text on.under.reading now input lines' on.under.goes_on (subst (λ (x : Line). Continues on.under.reading on.under.reading.ended now input (Ok x) lines') text continues)

  -- the number of the line is the next one
  pub next_number : lines'.number ≡ judge.lines + 1
  next_number = one_further before now input lines lines' on.under gave_text.0 ∙ ap (λ (n : ℕ). n + 1) (sym on.counted)

  -- and there are not too many
  pub few_numbers : lines'.number < 2 ^ 64 - 1
  few_numbers =
      let few = few_read before input lines' (reads_line before now input lines lines' on.under gave_text.0) in
      omega (arith, few)

  -- one line on
  pub one_on : (judge' : JudgeState) (number : ℕ) → judge'.lines ≡ number → number ≡ lines'.number → IsReadingOn before (checking_at input lines' judge') × (lines'.number ≡ lines.number + 1)
  one_on judge' number lines_are number_is = (
    record { under = reads_line before now input lines lines' on.under gave_text.0; counted = lines_are ∙ number_is },
    one_further before now input lines lines' on.under gave_text.0,
  )

-- ---- and with it

module _ (problem : DiagnosisProblem) (before now input : SourceState) (lines lines' : LinesState) (judge : JudgeState) (checking : IsChecking problem before (checking_at now lines judge)) where
  right_so_far : IsRightSoFar problem checking.under.reading.given
  right_so_far = (checking.reads, checking.are_read, checking.right)

  -- the reader of lines reports a fault
  pub lacks_by_fault : (f : LineFault) → Continues checking.under.reading checking.under.reading.ended now input (Err f) lines' → LacksReport problem before input (check.Lines f)
  lacks_by_fault fault.ReadFault continues =
      let reading = checking.under.reading in
      let turn = Continues-turn reading now input (Err fault.ReadFault) lines' checking.under.goes_on (λ e. cc) continues in
      record {
        taken = reading.taken ++ turn.more;
        takes = Takes-append before now input reading.taken turn.more checking.under.takes turn.takes;
        shown = (subst (λ (count : ℕ). Rose count input.faults) checking.under.no_fault turn.faults, subst (IsRightSoFar problem) (sym turn.returns.0) right_so_far);
      }
  lacks_by_fault fault.TooMuchInput continues =
      let reading = checking.under.reading in
      let turn = Continues-turn reading now input (Err fault.TooMuchInput) lines' checking.under.goes_on (λ e. cc) continues in
      record {
        taken = reading.taken ++ turn.more;
        takes = Takes-append before now input reading.taken turn.more checking.under.takes turn.takes;
        shown = (turn.returns.1, subst (IsRightSoFar problem) (sym turn.returns.0) right_so_far, turn.faults ∙ checking.under.no_fault);
      }

  module _ (l : Line) (continues : Continues checking.under.reading checking.under.reading.ended now input (Ok l) lines') where
    -- the input has ended
    pub met_end : l ≡ line.End → HasJudgedAll problem before input judge
    met_end ends =
        let reading = checking.under.reading in
        let end =
        came_to_end reading now input lines lines' checking.under.few checking.under.goes_on checking.under.represents
        (subst (λ (x : Line). Continues reading reading.ended now input (Ok x) lines') ends continues) in
        record {
          taken = reading.taken ++ end.more;
          takes = Takes-append before now input reading.taken end.more checking.under.takes end.takes;
          few = end.few;
          at_end = end.end;
          reads = checking.reads;
          are_read = subst (λ (ls : List (List ℕ)). AreRead problem.graph ls checking.reads) (sym end.all) checking.are_read;
          right = checking.right;
          represents = checking.represents;
          no_fault = end.no_fault ∙ checking.under.no_fault;
        }

    -- a line is too long
    pub met_long : l ≡ line.TooLong → (f : CheckFault) → f ≡ check.NotAccepted lines'.number BadReport → LacksReport problem before input f
    met_long is f fault_is =
        let met =
        Continues-too_long checking.under.reading now input lines' checking.under.goes_on
        (subst (λ (x : Line). Continues checking.under.reading checking.under.reading.ended now input (Ok x) lines') is continues) in
        let each = checking.are_read.one_each in
        subst (LacksReport problem before input) (sym fault_is)
        (refused_line problem before now input lines lines' judge checking met.0 lines'.number BadReport
        (inl (
          refl,
          omega (arith, met.0.stands.number, each, length-append checking.under.reading.given (met.0.first ∷ [])),
          no_long_line problem.graph checking.reads met.0.first met.1,
        )))

    -- a text
    module _ (is : l ≡ line.Text) (text : List ℕ) (text_is : text ≡ lines'.text) where
      met_text : (gave : GaveLine checking.under.reading now input lines') × (length gave.first ≤ LONGEST_LINE) × (lines'.text ≡ gave.first)
      met_text =
          Continues-text checking.under.reading now input lines' checking.under.goes_on
          (subst (λ (x : Line). Continues checking.under.reading checking.under.reading.ended now input (Ok x) lines') is continues)

      along : text ≡ met_text.0.first
      along = text_is ∙ met_text.2

      -- that is right
      pub met_right : OneMoreIsRead → (judge' : JudgeState) → GoesOnTo problem checking.reads text judge' → IsChecking problem before (checking_at input lines' judge')
      met_right one_more judge' on =
          right_line problem before now input lines lines' judge checking met_text.0 one_more judge'
          (subst (λ (bytes : List ℕ). GoesOnTo problem checking.reads bytes judge') along on)

      -- that is not accepted, or not judged
      pub met_fault : (fault : JudgeFault) → IsJudged problem checking.reads text (Err fault) → LacksReport problem before input (check_fault_of_judge fault)
      met_fault fault judged =
          by_judge problem before now input lines lines' judge checking met_text.0 fault
          (subst (λ (bytes : List ℕ). IsJudged problem checking.reads bytes (Err fault)) along judged)

-- ---- the end

module _ (problem : DiagnosisProblem) (before now : SourceState) (judge : JudgeState) (all : HasJudgedAll problem before now judge) where
  ends_early : (at : ℕ) (why : CheckCause) → EndFails problem all.reads at why → LacksReport problem before now (check.NotAccepted at why)
  ends_early at why fails =
      let whole : all.taken ++ rest_of now ≡ all.taken = ap (λ (rest : List ℕ). all.taken ++ rest) (rest_at_end now all.at_end) ∙ append-nil all.taken in
      record {
        taken = all.taken;
        takes = all.takes;
        shown = (
          record {
            rest = rest_of now;
            left = rest_is_left now;
            is_cause = record { before = lines_of all.taken; reads = all.reads; are_read = all.are_read; right = all.right; fails = inr (ap lines_of whole, fails) };
            ended = λ early. all.at_end;
          },
          all.no_fault,
        );
      }

  -- the report is not whole
  pub lacks_at_end : (fault : JudgeFault) → IsJudgedAtEnd problem all.reads (Err fault) → LacksReport problem before now (check_fault_of_judge fault)
  lacks_at_end (faults.NotAccepted at why) judged = ends_early at why judged.1
  lacks_at_end (faults.TooMany count) judged = absurd judged
  lacks_at_end faults.NoMemory judged = absurd judged

  -- it is
  pub accepts_at_end : WholeLinesAreThoseOfReports → (first : JudgeState) → IsNewJudge problem first → (rounds : ℕ) → IsJudgedAtEnd problem all.reads (Ok rounds) → AcceptsReport problem before now rounds
  accepts_at_end whole_report first new rounds judged =
      let report = whole_report problem (lines_of all.taken) all.reads rounds new.valid new.few all.are_read judged in
      record {
        taken = all.taken;
        takes = all.takes;
        few = all.few;
        at_end = all.at_end;
        terms = report.terms;
        blocks = report.blocks;
        report = report.report;
        counted = report.counted;
        no_fault = all.no_fault;
      }
