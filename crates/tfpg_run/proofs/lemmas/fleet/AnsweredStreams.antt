-- A diagnosis of many vehicles, one answer after another.
use Rattle.std.proofs.Common.{◌≡◌, ℕ, ◌+◌, ◌<◌, ◌≤◌, List, [], ◌∷◌, ◌++◌, length, map, take, Result, Ok, Err, IfOk, IfErr, refl, sym, ap, subst, ◌∙◌, arith, inl, inr, append_assoc}
use Rattle.std.proofs.lemmas.List.{append-nil, length-append, length-map, take_all}
use Rattle.tfpg_base.specs.declared.line.Line.{Line}
use Rattle.tfpg_base.specs.declared.line.Line.TheVariants as line
use Rattle.tfpg_base.specs.declared.line.LineFault.{LineFault}
use Rattle.tfpg_base.specs.declared.line.LineFault.TheVariants as fault
use Rattle.tfpg_base.specs.Outside.{SourceState, SinkState, Rose, Takes, Puts}
use Rattle.tfpg_base.specs.Lines.{LinesState, LinesRepresent, Continues, with_bytes, with_line, lines_of, whole_lines, new_reading}
use Rattle.tfpg_base.specs.declared.limits.TheConstants.{LONGEST_LINE, MAX_BYTES, MAX_LINE_NUMBER}
use Rattle.tfpg_base.proofs.lemmas.Taking.{Takes-append, Takes-nothing}
use Rattle.tfpg_base.proofs.lemmas.ReadingOn.{GaveLine, Continues-turn, Continues-text, Continues-too_long}
use Rattle.tfpg_base.proofs.lemmas.lists.Cuts.{front_is_within, front_before, front_with}
use Rattle.tfpg_base.proofs.lemmas.lists.Passing.{length-filter_map}
use Rattle.tfpg_graph.specs.Graph.{Tfpg, failures}
use Rattle.tfpg_check.specs.Report.{HasReports}
use Rattle.tfpg_fleet.specs.Belonging.{addressee, line_for, lines_for}
use Rattle.tfpg_streams.specs.declared.fault.OutputFault.{OutputFault}
use Rattle.tfpg_streams.specs.declared.fault.OutputFault.TheVariants as output_fault
use Rattle.tfpg_streams.specs.declared.fault.StreamFault.{StreamFault}
use Rattle.tfpg_streams.specs.declared.fault.StreamFault.TheVariants as faults
use Rattle.tfpg_run.specs.declared.fleet.stream.NextAnswer.{NextAnswer}
use Rattle.tfpg_run.specs.declared.fleet.watch.Watch.{Watch}
use Rattle.tfpg_streams.specs.Faults.{stream_fault_of_lines, stream_fault_of_output}
use Rattle.tfpg_streams.specs.Outputs.{HasOutputOfFirstLines, TextEnds, WorksToEnd}
use Rattle.tfpg_streams.specs.Streams.{Streams, streams}
use Rattle.tfpg_run.specs.fleet.Answers.{Answer, answer_text, answers_text, blocks_for, opening_text, vehicle_of}
use Rattle.tfpg_run.specs.fleet.Counting.{modes_text}
use Rattle.tfpg_run.specs.fleet.FleetOutput.{AreAnswers, BeginsFleetOutput, FleetProblem, IsFleetOutputSoFar, answered_text, vehicles_with}
use Rattle.tfpg_run.specs.fleet.FleetEnds.{AnswersStream}
use Rattle.tfpg_run.specs.fleet.FleetWork.{AreAnswersWithin, IsFleetOutputWithin}
use Rattle.tfpg_run.specs.inside.fleet.UnderWay.{AnsweringState, Answers, AreOwnBlocks, ComesTo, HasAnswered, HasAnsweredAll, IsAnswering, WritesAnswer, answer_turn, answering_at, kept_text}
use Rattle.tfpg_streams.proofs.lemmas.InputLines.{came_to_end, front_of_input, rest_at_end, rest_is_left, rest_of}
use Rattle.tfpg_streams.proofs.lemmas.FewLines.{few_lines}
use Rattle.tfpg_streams.proofs.lemmas.Putting.{Puts-append, Puts-same_held}
use Rattle.tfpg_diagnose.proofs.lemmas.NextBlocks.{few_numbered}
use Rattle.tfpg_run.proofs.lemmas.fleet.Counts.{kept_counts}
use Rattle.tfpg_run.proofs.lemmas.fleet.FleetCalls.{answers_within-none}
use Rattle.tfpg_run.proofs.lemmas.fleet.NextAnswers.{no_own_blocks}

-- the lines by what is kept, for equal lists
pub kept_same : (graph : Tfpg) (one other : List (List ℕ)) (before after : SinkState) (result : Result (Unit {0}) OutputFault) → one ≡ other
    → TextEnds (λ text. text ≡ kept_text graph one) before after result → TextEnds (λ text. text ≡ kept_text graph other) before after result
kept_same graph one other before after result same ends = subst (λ (sets : List (List ℕ)). TextEnds (λ text. text ≡ kept_text graph sets) before after result) same ends

-- ---- the text of one answer more

-- equal answers were written
pub writes_same : (text same : List ℕ) (before after : SinkState) (result : Result NextAnswer StreamFault) → text ≡ same → WritesAnswer text before after result → WritesAnswer same before after result
writes_same text same before after result e writes = subst (λ (t : List ℕ). WritesAnswer t before after result) e writes

answers_text-push : (graph : Tfpg) (names : List (List ℕ)) (number : ℕ) (answers : List Answer) (answer : Answer)
    → answers_text graph names number (answers ++ answer ∷ []) ≡ answers_text graph names number answers ++ answer_text graph names (number + length answers) answer
answers_text-push graph names number [] answer =
    append-nil (answer_text graph names number answer) ∙ ap (λ (n : ℕ). answer_text graph names n answer) (let e : number ≡ number + 0 = omega arith in e)
answers_text-push graph names number (first ∷ others) answer =
    let e : number + 1 + length others ≡ number + length (first ∷ others) = omega arith in
    ap (λ (t : List ℕ). answer_text graph names number first ++ t) (answers_text-push graph names (number + 1) others answer)
    ∙ sym (append_assoc (answer_text graph names number first) (answers_text graph names (number + 1) others) (answer_text graph names (number + 1 + length others) answer))
    ∙ ap (λ (n : ℕ). (answer_text graph names number first ++ answers_text graph names (number + 1) others) ++ answer_text graph names n answer) e

module _ (fleet : FleetProblem) where
  answered-push : (answers : List Answer) (answer : Answer) (number : ℕ) → number ≡ 1 + length answers
      → answered_text fleet answers ++ answer_text fleet.graph fleet.names number answer ≡ answered_text fleet (answers ++ answer ∷ [])
  answered-push answers answer number is =
      append_assoc (opening_text fleet.names fleet.terms) (answers_text fleet.graph fleet.names 1 answers) (answer_text fleet.graph fleet.names number answer)
      ∙ ap (λ (t : List ℕ). opening_text fleet.names fleet.terms ++ t)
      (ap (λ (n : ℕ). answers_text fleet.graph fleet.names 1 answers ++ answer_text fleet.graph fleet.names n answer) is ∙ sym (answers_text-push fleet.graph fleet.names 1 answers answer))

  -- there are as many answers as lines
  as_many : (lines : List (List ℕ)) (answers : List Answer) (watch : Watch) → HasAnswered fleet lines answers watch → length answers ≡ length lines
  as_many lines answers watch answered =
      sym (length-map answers vehicle_of) ∙ ap length answered.addressed ∙ length-map lines (addressee fleet.names)

  -- ---- answers that are right

  -- where they are few, the lines have their answers
  right_answers : (lines : List (List ℕ)) (answers : List Answer) → map vehicle_of answers ≡ map (addressee fleet.names) lines
      → ((number : ℕ) → AreOwnBlocks fleet.graph fleet.terms (lines_for fleet.names number lines) (blocks_for number answers)) → HasReports fleet.graph fleet.terms → length lines ≤ MAX_LINE_NUMBER
      → AreAnswers fleet lines answers
  right_answers lines answers addressed blocks has_reports few = record {
    addressed = addressed;
    reports = λ number. record {
      has_reports = has_reports;
      few_lines = omega (arith, few, length-filter_map (line_for fleet.names number) lines);
      are_blocks = (blocks number).are;
      say = (blocks number).say;
      none_lost = (blocks number).none_lost;
    };
  }

  -- no line has no answer
  pub no_answers : HasReports fleet.graph fleet.terms → AreAnswers fleet [] []
  no_answers has_reports = right_answers [] [] refl (λ number. no_own_blocks fleet.graph fleet.terms) has_reports (omega arith)

  -- what was written so far
  so_far_right : (lines given : List (List ℕ)) (answers : List Answer) → lines ≡ given → AreAnswers fleet given answers → IsFleetOutputSoFar fleet lines (answered_text fleet answers)
  so_far_right lines given answers same are = record { answers = answers; are = subst (λ (ls : List (List ℕ)). AreAnswers fleet ls answers) (sym same) are; text = refl }

  -- so it is for the first lines of the input
  so_far_of_first : (input : SourceState) (taken : List ℕ) (given : List (List ℕ)) (answers : List Answer) → take (length given) (lines_of (taken ++ rest_of input)) ≡ given → AreAnswers fleet given answers
      → HasOutputOfFirstLines (IsFleetOutputSoFar fleet) input taken (answered_text fleet answers)
  so_far_of_first input taken given answers front are = record {
    rest = rest_of input;
    left = rest_is_left input;
    count = length given;
    within = front_is_within (lines_of (taken ++ rest_of input)) given front;
    right = so_far_right (take (length given) (lines_of (taken ++ rest_of input))) given answers front are;
  }

  -- a front of what is right so far for the first lines
  begins_first : (input : SourceState) (taken : List ℕ) (given : List (List ℕ)) (answers : List Answer) (written more : List ℕ) → take (length given) (lines_of (taken ++ rest_of input)) ≡ given → AreAnswers fleet given answers
      → written ++ more ≡ answered_text fleet answers → HasOutputOfFirstLines (BeginsFleetOutput fleet) input taken written
  begins_first input taken given answers written more front are parts = record {
    rest = rest_of input;
    left = rest_is_left input;
    count = length given;
    within = front_is_within (lines_of (taken ++ rest_of input)) given front;
    right = (more, record { answers = answers; are = subst (λ (ls : List (List ℕ)). AreAnswers fleet ls answers) (sym front) are; text = parts });
  }

  -- ---- ends before an answer

  module _ (before : Streams) (has_reports : HasReports fleet.graph fleet.terms) where
    -- without memory, when nothing is written
    pub begins_without_memory : AnswersStream fleet before before (Err faults.NoMemory)
    begins_without_memory = record {
      taken = [];
      takes = Takes-nothing before.input;
      written = [];
      writes = Puts-same_held before.output before.output refl;
      ends = (
        record { input = refl; output = refl },
        inl (refl, begins_first before.input [] [] [] [] (answered_text fleet []) refl (no_answers has_reports) refl),
      );
    }

    -- or since the output failed
    pub begins_badly : (output : SinkState) (opening front rest : List ℕ) → opening ≡ opening_text fleet.names fleet.terms → opening ≡ front ++ rest → Puts before.output output front → Rose before.output.faults output.faults
        → AnswersStream fleet before (streams before.input output) (Err faults.WriteFault)
    begins_badly output opening front rest is parts puts rose = record {
      taken = [];
      takes = Takes-nothing before.input;
      written = front;
      writes = puts;
      ends = (
        (rose, refl),
        inl (begins_first before.input [] [] [] front rest refl (no_answers has_reports) (sym parts ∙ is ∙ sym (append-nil (opening_text fleet.names fleet.terms)))),
      );
    }

    -- what stands before the answers is written
    pub begins_answering : (lines : LinesState) (watch : Watch) (output : SinkState) (count : ℕ) → LinesRepresent lines new_reading → HasAnswered fleet [] [] watch
        → Puts before.output output (opening_text fleet.names fleet.terms) → output.faults ≡ before.output.faults → IsAnswering fleet count before (answering_at (streams before.input output) lines watch count)
    begins_answering lines watch output count unread answered puts no_fault = record {
      reading = new_reading;
      takes = Takes-nothing before.input;
      few = omega arith;
      represents = unread;
      goes_on = inl refl;
      front = refl;
      answers = [];
      answered = answered;
      within = answers_within-none fleet count;
      writes = subst (Puts before.output output) (sym (append-nil (opening_text fleet.names fleet.terms))) puts;
      has_reports = has_reports;
      no_fault = record { input = refl; output = no_fault };
    }

  -- ---- one line

  module _ (start calls : ℕ) (before now : Streams) (lines : LinesState) (watch : Watch) (input : SourceState) (reader : LinesState) (under : IsAnswering fleet start before (answering_at now lines watch calls)) where
    -- after the next line was asked for only the input has changed
    abbrev asked : Streams
    asked = streams input now.output

    given_answers : AreAnswers fleet under.reading.given under.answers
    given_answers = right_answers under.reading.given under.answers under.answered.addressed under.answered.blocks under.has_reports
        (few_numbered under.reading.taken under.reading.given under.front under.few)

    -- a fault of the reader
    pub ends_by_fault : (f : LineFault) → Continues under.reading under.reading.ended now.input input (Err f) reader → AnswersStream fleet before asked (Err (stream_fault_of_lines f))
    ends_by_fault fault.ReadFault continues =
        let turn = Continues-turn under.reading now.input input (Err fault.ReadFault) reader under.goes_on (λ e. cc) continues in
        record {
          taken = under.reading.taken ++ turn.more;
          takes = Takes-append before.input now.input input under.reading.taken turn.more under.takes turn.takes;
          written = answered_text fleet under.answers;
          writes = under.writes;
          ends = (
            (subst (λ (count : ℕ). Rose count input.faults) under.no_fault.input turn.faults, under.no_fault.output),
            so_far_right (whole_lines (under.reading.taken ++ turn.more)) under.reading.given under.answers turn.returns.0 given_answers,
          );
        }
    ends_by_fault fault.TooMuchInput continues =
        let turn = Continues-turn under.reading now.input input (Err fault.TooMuchInput) reader under.goes_on (λ e. cc) continues in
        record {
          taken = under.reading.taken ++ turn.more;
          takes = Takes-append before.input now.input input under.reading.taken turn.more under.takes turn.takes;
          written = answered_text fleet under.answers;
          writes = under.writes;
          ends = (
            (turn.returns.1, record { input = turn.faults ∙ under.no_fault.input; output = under.no_fault.output }),
            so_far_right (whole_lines (take MAX_BYTES (under.reading.taken ++ turn.more))) under.reading.given under.answers turn.returns.0 given_answers,
          );
        }

    -- no more lines are read than bytes may be taken, but for a last one
    pub few_read : lines.number ≤ MAX_BYTES + 1
    few_read =
        let within = front_is_within (lines_of under.reading.taken) under.reading.given under.front in
        omega (arith, within, few_lines under.reading.taken, under.few, under.represents.number)

    module _ (l : Line) (continues : Continues under.reading under.reading.ended now.input input (Ok l) reader) where
      -- the input has ended
      pub met_end : l ≡ line.End → HasAnsweredAll fleet start before (answering_at asked reader watch calls)
      met_end e =
          let end = came_to_end under.reading now.input input lines reader under.few under.goes_on under.represents
          (subst (λ (x : Line). Continues under.reading under.reading.ended now.input input (Ok x) reader) e continues) in
          record {
            taken = under.reading.taken ++ end.more;
            takes = Takes-append before.input now.input input under.reading.taken end.more under.takes end.takes;
            few = end.few;
            at_end = end.end;
            answers = under.answers;
            answered = subst (λ (ls : List (List ℕ)). HasAnswered fleet ls under.answers watch) (sym end.all) under.answered;
            within = subst (λ (ls : List (List ℕ)). AreAnswersWithin fleet ls under.answers start calls) (sym end.all) under.within;
            writes = under.writes;
            has_reports = under.has_reports;
            no_fault = record { input = end.no_fault ∙ under.no_fault.input; output = under.no_fault.output };
          }

      -- a text was read
      pub met_text : l ≡ line.Text → (gave : GaveLine under.reading now.input input reader) × (length gave.first ≤ LONGEST_LINE) × (reader.text ≡ gave.first)
      met_text e = Continues-text under.reading now.input input reader under.goes_on
          (subst (λ (x : Line). Continues under.reading under.reading.ended now.input input (Ok x) reader) e continues)

      -- a line that is too long was passed
      pub met_long : l ≡ line.TooLong → (gave : GaveLine under.reading now.input input reader) × (LONGEST_LINE < length gave.first)
      met_long e = Continues-too_long under.reading now.input input reader under.goes_on
          (subst (λ (x : Line). Continues under.reading under.reading.ended now.input input (Ok x) reader) e continues)

    module _ (gave : GaveLine under.reading now.input input reader) where
      abbrev all_taken : List ℕ
      all_taken = under.reading.taken ++ gave.more

      takes_now : Takes before.input input all_taken
      takes_now = Takes-append before.input now.input input under.reading.taken gave.more under.takes gave.takes

      -- without memory for the answer
      pub gave_without_memory : AnswersStream fleet before asked (Err faults.NoMemory)
      gave_without_memory = record {
        taken = all_taken;
        takes = takes_now;
        written = answered_text fleet under.answers;
        writes = under.writes;
        ends = (
          record { input = gave.no_fault ∙ under.no_fault.input; output = under.no_fault.output },
          inr (so_far_of_first input all_taken under.reading.given under.answers
              (front_before (lines_of (all_taken ++ rest_of input)) under.reading.given gave.first (front_of_input (with_bytes under.reading gave.more) gave.first input gave.next)) given_answers),
        );
      }

      module _ (number finish : ℕ) (bytes : List ℕ) (later : Watch) (output : SinkState) (number_is : number ≡ reader.number)
          (answers : Answers fleet (answer_turn under.reading.given under.answers gave.first number calls finish) bytes later) where
        abbrev all_answers : List Answer
        all_answers = under.answers ++ answers.answer ∷ []

        text_now : answered_text fleet under.answers ++ bytes ≡ answered_text fleet all_answers
        text_now =
            let index : number ≡ 1 + length under.answers = omega (arith, number_is, gave.stands.number, length-append under.reading.given (gave.first ∷ []), as_many under.reading.given under.answers watch under.answered) in
            ap (λ (t : List ℕ). answered_text fleet under.answers ++ t) answers.text ∙ answered-push under.answers answers.answer number index

        -- the answer is written
        gave_answer : Puts now.output output bytes → output.faults ≡ now.output.faults → IsAnswering fleet start before (answering_at (streams input output) reader later finish)
        gave_answer puts no_fault = record {
          reading = with_line (with_bytes under.reading gave.more) gave.first;
          takes = takes_now;
          few = gave.next.few;
          represents = gave.stands;
          goes_on = gave.goes_on;
          front = front_with (lines_of all_taken) under.reading.given gave.first gave.next.front;
          answers = all_answers;
          answered = answers.answered;
          within = answers.within start under.within;
          writes = subst (Puts before.output output) text_now (Puts-append before.output now.output output (answered_text fleet under.answers) bytes under.writes puts);
          has_reports = under.has_reports;
          no_fault = record { input = gave.no_fault ∙ under.no_fault.input; output = no_fault ∙ under.no_fault.output };
        }

        -- it is one line on
        gave_one_more : reader.number ≡ lines.number + 1
        gave_one_more = omega (arith, gave.stands.number, under.represents.number, length-append under.reading.given (gave.first ∷ []))

        -- only a front of it is written
        gave_front : (front rest : List ℕ) → bytes ≡ front ++ rest → Puts now.output output front → Rose now.output.faults output.faults
            → AnswersStream fleet before (streams input output) (Err faults.WriteFault)
        gave_front front rest parts puts rose =
            let written = answered_text fleet under.answers ++ front in
            let whole : written ++ rest ≡ answered_text fleet all_answers =
            append_assoc (answered_text fleet under.answers) front rest ∙ ap (λ (t : List ℕ). answered_text fleet under.answers ++ t) (sym parts) ∙ text_now in
            record {
              taken = all_taken;
              takes = takes_now;
              written = written;
              writes = Puts-append before.output now.output output (answered_text fleet under.answers) front under.writes puts;
              ends = (
                (subst (λ (count : ℕ). Rose count output.faults) under.no_fault.output rose, gave.no_fault ∙ under.no_fault.input),
                inl (begins_first input all_taken (under.reading.given ++ gave.first ∷ []) all_answers written rest
                    (front_with (lines_of (all_taken ++ rest_of input)) under.reading.given gave.first (front_of_input (with_bytes under.reading gave.more) gave.first input gave.next))
                    (right_answers (under.reading.given ++ gave.first ∷ []) all_answers answers.answered.addressed answers.answered.blocks under.has_reports
                    (few_numbered all_taken (under.reading.given ++ gave.first ∷ []) (front_with (lines_of all_taken) under.reading.given gave.first gave.next.front) gave.next.few))
                    whole),
              );
            }

        -- as the code comes to it
        pub wrote : (result : Result NextAnswer StreamFault) → WritesAnswer bytes now.output output result
            → IfOk result (ComesTo fleet start before lines.number (answering_at (streams input output) reader later finish))
        wrote (Ok next) (is, puts, no_fault) =
            subst (ComesTo fleet start before lines.number (answering_at (streams input output) reader later finish)) (sym is) (gave_answer puts no_fault, gave_one_more)
        wrote (Err f) writes = tt

        pub stopped : (result : Result NextAnswer StreamFault) → WritesAnswer bytes now.output output result
            → IfErr result (λ f. AnswersStream fleet before (streams input output) (Err f))
        stopped (Ok next) writes = tt
        stopped (Err f) (is, cut) =
            subst (λ (x : StreamFault). AnswersStream fleet before (streams input output) (Err x)) (sym is) (gave_front cut.front cut.rest cut.parts cut.puts cut.rose)

  -- ---- the counts at the end

  module _ (start : ℕ) (before : Streams) (now : AnsweringState) (all : HasAnsweredAll fleet start before now) (output : SinkState) where
    all_answered : AreAnswers fleet (lines_of all.taken) all.answers
    all_answered = right_answers (lines_of all.taken) all.answers all.answered.addressed all.answered.blocks all.has_reports
        (omega (arith, few_lines all.taken, all.few))

    -- what was left of the input is nothing
    all_lines : take (length (lines_of all.taken)) (lines_of (all.taken ++ rest_of now.streams.input)) ≡ lines_of all.taken
    all_lines =
        ap (λ (rest : List ℕ). take (length (lines_of all.taken)) (lines_of (all.taken ++ rest))) (rest_at_end now.streams.input all.at_end)
        ∙ ap (λ (bytes : List ℕ). take (length (lines_of all.taken)) (lines_of bytes)) (append-nil all.taken)
        ∙ take_all (length (lines_of all.taken)) (lines_of all.taken) (omega arith)

    counts_are : kept_text fleet.graph now.watch.ranked.items ≡ modes_text fleet.graph (vehicles_with fleet all.answers) (length (failures fleet.graph))
    counts_are = kept_counts fleet (lines_of all.taken) all.answers now.watch all.answered

    -- they are written, and the calls are within the limits
    pub counted_within : TextEnds (λ text. text ≡ kept_text fleet.graph now.watch.ranked.items) now.streams.output output (Ok tt)
        → WorksToEnd (IsFleetOutputWithin fleet start now.calls) before (streams now.streams.input output)
    counted_within wrote = record {
      taken = all.taken;
      takes = all.takes;
      written = answered_text fleet all.answers ++ wrote.text;
      writes = Puts-append before.output now.streams.output output (answered_text fleet all.answers) wrote.text all.writes wrote.writes;
      ends = record {
        right = record {
          output = record { answers = all.answers; are = all_answered; text = ap (λ (t : List ℕ). answered_text fleet all.answers ++ t) (wrote.right ∙ counts_are) };
          within = all.within;
        };
        few = all.few;
        at_end = all.at_end;
        no_fault = record { input = all.no_fault.input; output = wrote.no_fault ∙ all.no_fault.output };
      };
    }

    pub counted : TextEnds (λ text. text ≡ kept_text fleet.graph now.watch.ranked.items) now.streams.output output (Ok tt) → AnswersStream fleet before (streams now.streams.input output) (Ok tt)
    counted wrote =
        let works = counted_within wrote in
        record {
          taken = works.taken;
          takes = works.takes;
          written = works.written;
          writes = works.writes;
          ends = record { right = works.ends.right.output; few = works.ends.few; at_end = works.ends.at_end; no_fault = works.ends.no_fault };
        }

    -- they are not
    pub not_counted : (f : OutputFault) → TextEnds (λ text. text ≡ kept_text fleet.graph now.watch.ranked.items) now.streams.output output (Err f)
        → AnswersStream fleet before (streams now.streams.input output) (Err (stream_fault_of_output f))
    not_counted output_fault.WriteFault begun = record {
      taken = all.taken;
      takes = all.takes;
      written = answered_text fleet all.answers ++ begun.front;
      writes = Puts-append before.output now.streams.output output (answered_text fleet all.answers) begun.front all.writes begun.writes;
      ends = (
        (subst (λ (count : ℕ). Rose count output.faults) all.no_fault.output begun.rose, all.no_fault.input),
        inr (
          all.at_end,
          begun.rest,
          record {
            answers = all.answers;
            are = all_answered;
            text = append_assoc (answered_text fleet all.answers) begun.front begun.rest ∙ ap (λ (t : List ℕ). answered_text fleet all.answers ++ t) (begun.right ∙ counts_are);
          },
        ),
      );
    }
    not_counted output_fault.NoMemory same = record {
      taken = all.taken;
      takes = all.takes;
      written = answered_text fleet all.answers;
      writes = subst (λ (sink : SinkState). Puts before.output sink (answered_text fleet all.answers)) (sym same) all.writes;
      ends = (
        record { input = all.no_fault.input; output = ap (λ (sink : SinkState). sink.faults) same ∙ all.no_fault.output },
        inr (so_far_of_first now.streams.input all.taken (lines_of all.taken) all.answers all_lines all_answered),
      );
    }
