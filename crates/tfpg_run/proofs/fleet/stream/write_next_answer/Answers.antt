use Rattle.std.proofs.Common.{refl, subst, List, ℕ, ◌++◌, ◌∷◌, [], ◌∙◌}
use Rattle.tfpg_streams.specs.declared.fault.StreamFault.TheVariants as faults
use Rattle.tfpg_streams.specs.Faults.{stream_fault_of_lines}
use Rattle.tfpg_run.specs.inside.fleet.UnderWay.{Answers, answer_turn, problem_in}
use Rattle.tfpg_base.proofs.lemmas.lists.Choices.{IfErr-from}
use Rattle.tfpg_run.proofs.lemmas.fleet.AnsweredStreams.{ends_by_fault, gave_without_memory, met_end, met_long, met_text, stopped, writes_same, wrote}
use Rattle.tfpg_streams.specs.Streams.{streams}
use Rattle.tfpg_run.proofs.lemmas.fleet.NextAnswers.{answers_stray, long_stray}
use Rattle.tfpg_run.proofs.fleet.stream.write_next_answer.Goals as goal

pub returns-in_err-next-clause-stopped : goal.returns-in_err-next-clause-stopped
returns-in_err-next-clause-stopped g c start before under =
    IfErr-from _ c.from_residual.result (stream_fault_of_lines c.in_err-next.field-0.0) c.from_residual.ensures.1
    (ends_by_fault (problem_in c.args.vehicles.now) start c.args.work.now before (streams (g.S.Source.state c.args.input.now) (g.K.Sink.state c.args.out.now)) c.args.lines.now c.args.watch.now (g.S.Source.state c.next.new.source) c.next.new.self under c.in_err-next.field-0.0 (c.in_err-next.ensures under.reading under.represents))

pub returns-in-End-clause-comes_to : goal.returns-in-End-clause-comes_to
returns-in-End-clause-comes_to g c start before under =
    met_end (problem_in c.args.vehicles.now) start c.args.work.now before (streams (g.S.Source.state c.args.input.now) (g.K.Sink.state c.args.out.now)) c.args.lines.now c.args.watch.now (g.S.Source.state c.next.new.source) c.next.new.self under c.in_ok-next.field-0 (c.in_ok-next.ensures under.reading under.represents) c.in-End.is

pub returns-in_err-answer-in-TooLong-clause-stopped : goal.returns-in_err-answer-in-TooLong-clause-stopped
returns-in_err-answer-in-TooLong-clause-stopped g c start before under =
    let met = met_long (problem_in c.args.vehicles.now) start c.args.work.now before (streams (g.S.Source.state c.args.input.now) (g.K.Sink.state c.args.out.now)) c.args.lines.now c.args.watch.now (g.S.Source.state c.next.new.source) c.next.new.self under c.in_ok-next.field-0 (c.in_ok-next.ensures under.reading under.represents) c.in-TooLong.is in
    IfErr-from _ c.from_residual-in_err-answer-in-TooLong.result faults.NoMemory c.from_residual-in_err-answer-in-TooLong.ensures.1
    (gave_without_memory (problem_in c.args.vehicles.now) start c.args.work.now before (streams (g.S.Source.state c.args.input.now) (g.K.Sink.state c.args.out.now)) c.args.lines.now c.args.watch.now (g.S.Source.state c.next.new.source) c.next.new.self under met.0)

pub returns-in_err-answer-in-Text-clause-stopped : goal.returns-in_err-answer-in-Text-clause-stopped
returns-in_err-answer-in-Text-clause-stopped g c start before under =
    let met = met_text (problem_in c.args.vehicles.now) start c.args.work.now before (streams (g.S.Source.state c.args.input.now) (g.K.Sink.state c.args.out.now)) c.args.lines.now c.args.watch.now (g.S.Source.state c.next.new.source) c.next.new.self under c.in_ok-next.field-0 (c.in_ok-next.ensures under.reading under.represents) c.in-Text.is in
    IfErr-from _ c.from_residual-in_err-answer-in-Text.result faults.NoMemory c.from_residual-in_err-answer-in-Text.ensures.1
    (gave_without_memory (problem_in c.args.vehicles.now) start c.args.work.now before (streams (g.S.Source.state c.args.input.now) (g.K.Sink.state c.args.out.now)) c.args.lines.now c.args.watch.now (g.S.Source.state c.next.new.source) c.next.new.self under met.0)

pub returns-in_ok-answer-in-TooLong-clause-comes_to : goal.returns-in_ok-answer-in-TooLong-clause-comes_to
returns-in_ok-answer-in-TooLong-clause-comes_to g c start before under =
    let fleet = problem_in c.args.vehicles.now in
    let met = met_long fleet start c.args.work.now before (streams (g.S.Source.state c.args.input.now) (g.K.Sink.state c.args.out.now)) c.args.lines.now c.args.watch.now (g.S.Source.state c.next.new.source) c.next.new.self under c.in_ok-next.field-0 (c.in_ok-next.ensures under.reading under.represents) c.in-TooLong.is in
    let answers = answers_stray fleet under.reading.given under.answers c.args.watch.now c.args.watch.now met.0.first c.number.result c.in_ok-answer-in-TooLong.answer.items c.args.work.now c.args.work.now under.answered
    (long_stray fleet.names met.0.first met.1) refl refl refl c.in_ok-answer-in-TooLong.ensures in
    wrote fleet start c.args.work.now before (streams (g.S.Source.state c.args.input.now) (g.K.Sink.state c.args.out.now)) c.args.lines.now c.args.watch.now (g.S.Source.state c.next.new.source) c.next.new.self under met.0 c.number.result c.args.work.now c.in_ok-answer-in-TooLong.answer.items c.args.watch.now (g.K.Sink.state c.write_answer.new.out) c.number.ensures answers
    c.write_answer.result (writes_same c.deref.result.now c.in_ok-answer-in-TooLong.answer.items (g.K.Sink.state c.args.out.now) (g.K.Sink.state c.write_answer.new.out) c.write_answer.result c.deref.ensures.value c.write_answer.ensures)

pub returns-in_ok-answer-in-TooLong-clause-stopped : goal.returns-in_ok-answer-in-TooLong-clause-stopped
returns-in_ok-answer-in-TooLong-clause-stopped g c start before under =
    let fleet = problem_in c.args.vehicles.now in
    let met = met_long fleet start c.args.work.now before (streams (g.S.Source.state c.args.input.now) (g.K.Sink.state c.args.out.now)) c.args.lines.now c.args.watch.now (g.S.Source.state c.next.new.source) c.next.new.self under c.in_ok-next.field-0 (c.in_ok-next.ensures under.reading under.represents) c.in-TooLong.is in
    let answers = answers_stray fleet under.reading.given under.answers c.args.watch.now c.args.watch.now met.0.first c.number.result c.in_ok-answer-in-TooLong.answer.items c.args.work.now c.args.work.now under.answered
    (long_stray fleet.names met.0.first met.1) refl refl refl c.in_ok-answer-in-TooLong.ensures in
    stopped fleet start c.args.work.now before (streams (g.S.Source.state c.args.input.now) (g.K.Sink.state c.args.out.now)) c.args.lines.now c.args.watch.now (g.S.Source.state c.next.new.source) c.next.new.self under met.0 c.number.result c.args.work.now c.in_ok-answer-in-TooLong.answer.items c.args.watch.now (g.K.Sink.state c.write_answer.new.out) c.number.ensures answers
    c.write_answer.result (writes_same c.deref.result.now c.in_ok-answer-in-TooLong.answer.items (g.K.Sink.state c.args.out.now) (g.K.Sink.state c.write_answer.new.out) c.write_answer.result c.deref.ensures.value c.write_answer.ensures)

pub returns-in_ok-answer-in-Text-clause-comes_to : goal.returns-in_ok-answer-in-Text-clause-comes_to
returns-in_ok-answer-in-Text-clause-comes_to g c start before under =
    let fleet = problem_in c.args.vehicles.now in
    let met = met_text fleet start c.args.work.now before (streams (g.S.Source.state c.args.input.now) (g.K.Sink.state c.args.out.now)) c.args.lines.now c.args.watch.now (g.S.Source.state c.next.new.source) c.next.new.self under c.in_ok-next.field-0 (c.in_ok-next.ensures under.reading under.represents) c.in-Text.is in
    let answers = subst (λ (text : List ℕ). Answers fleet (answer_turn under.reading.given under.answers text c.number-in-Text.result c.args.work.now c.answer_line.new.work) c.in_ok-answer-in-Text.answer.items c.answer_line.new.watch) (c.text.ensures ∙ met.2)
    (c.in_ok-answer-in-Text.ensures under.reading.given under.answers under.answered) in
    wrote fleet start c.args.work.now before (streams (g.S.Source.state c.args.input.now) (g.K.Sink.state c.args.out.now)) c.args.lines.now c.args.watch.now (g.S.Source.state c.next.new.source) c.next.new.self under met.0 c.number-in-Text.result c.answer_line.new.work c.in_ok-answer-in-Text.answer.items c.answer_line.new.watch (g.K.Sink.state c.write_answer-in-Text.new.out) c.number-in-Text.ensures answers
    c.write_answer-in-Text.result (writes_same c.deref-in-Text.result.now c.in_ok-answer-in-Text.answer.items (g.K.Sink.state c.args.out.now) (g.K.Sink.state c.write_answer-in-Text.new.out) c.write_answer-in-Text.result c.deref-in-Text.ensures.value c.write_answer-in-Text.ensures)

pub returns-in_ok-answer-in-Text-clause-stopped : goal.returns-in_ok-answer-in-Text-clause-stopped
returns-in_ok-answer-in-Text-clause-stopped g c start before under =
    let fleet = problem_in c.args.vehicles.now in
    let met = met_text fleet start c.args.work.now before (streams (g.S.Source.state c.args.input.now) (g.K.Sink.state c.args.out.now)) c.args.lines.now c.args.watch.now (g.S.Source.state c.next.new.source) c.next.new.self under c.in_ok-next.field-0 (c.in_ok-next.ensures under.reading under.represents) c.in-Text.is in
    let answers = subst (λ (text : List ℕ). Answers fleet (answer_turn under.reading.given under.answers text c.number-in-Text.result c.args.work.now c.answer_line.new.work) c.in_ok-answer-in-Text.answer.items c.answer_line.new.watch) (c.text.ensures ∙ met.2)
    (c.in_ok-answer-in-Text.ensures under.reading.given under.answers under.answered) in
    stopped fleet start c.args.work.now before (streams (g.S.Source.state c.args.input.now) (g.K.Sink.state c.args.out.now)) c.args.lines.now c.args.watch.now (g.S.Source.state c.next.new.source) c.next.new.self under met.0 c.number-in-Text.result c.answer_line.new.work c.in_ok-answer-in-Text.answer.items c.answer_line.new.watch (g.K.Sink.state c.write_answer-in-Text.new.out) c.number-in-Text.ensures answers
    c.write_answer-in-Text.result (writes_same c.deref-in-Text.result.now c.in_ok-answer-in-Text.answer.items (g.K.Sink.state c.args.out.now) (g.K.Sink.state c.write_answer-in-Text.new.out) c.write_answer-in-Text.result c.deref-in-Text.ensures.value c.write_answer-in-Text.ensures)
