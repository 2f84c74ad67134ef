use Rattle.std.proofs.Common.{subst, ◌∙◌, Ok, Err}
use Rattle.tfpg_streams.specs.declared.fault.StreamFault.TheVariants as faults
use Rattle.tfpg_streams.specs.Streams.{streams}
use Rattle.tfpg_run.specs.inside.fleet.UnderWay.{ComesTo, answering_at, problem_in}
use Rattle.tfpg_base.proofs.lemmas.lists.Choices.{IfErr-from}
use Rattle.tfpg_streams.proofs.lemmas.Putting.{Puts-same}
use Rattle.tfpg_streams.proofs.lemmas.InputLines.{falls_short}
use Rattle.tfpg_run.proofs.lemmas.fleet.AnsweredStreams.{begins_answering, begins_badly, begins_without_memory, counted, counted_within, few_read, kept_same, not_counted}
use Rattle.tfpg_streams.specs.Faults.{stream_fault_of_output}
use Rattle.tfpg_run.proofs.fleet.stream.answer_stream.Goals as goal

pub returns-in_err-lines-clause-stopped : goal.returns-in_err-lines-clause-stopped
returns-in_err-lines-clause-stopped g c =
    IfErr-from _ c.from_residual.result faults.NoMemory c.from_residual.ensures.1
    (begins_without_memory (problem_in c.args.vehicles.now) (streams (g.S.Source.state c.args.input.now) (g.K.Sink.state c.args.out.now)) c.requires.has_reports)

pub returns-in_err-opening-clause-stopped : goal.returns-in_err-opening-clause-stopped
returns-in_err-opening-clause-stopped g c =
    IfErr-from _ c.from_residual-in_err-opening.result faults.NoMemory c.from_residual-in_err-opening.ensures.1
    (begins_without_memory (problem_in c.args.vehicles.now) (streams (g.S.Source.state c.args.input.now) (g.K.Sink.state c.args.out.now)) c.requires.has_reports)

pub returns-in_err-write_all-clause-stopped : goal.returns-in_err-write_all-clause-stopped
returns-in_err-write_all-clause-stopped g c =
    let front = c.in_err-write_all.ensures.front in
    IfErr-from _ c.from_residual-in_err-write_all.result faults.WriteFault c.from_residual-in_err-write_all.ensures.1
    (begins_badly (problem_in c.args.vehicles.now) (streams (g.S.Source.state c.args.input.now) (g.K.Sink.state c.args.out.now)) c.requires.has_reports (g.K.Sink.state c.write_all.new.out)
    c.deref.result.now front.0 front.1 (c.deref.ensures.value ∙ c.in_ok-opening.ensures) front.2 front.3 c.in_err-write_all.ensures.failed)

pub loop-opening-init : goal.loop-opening-init
loop-opening-init g c =
    begins_answering (problem_in c.args.vehicles.now) (streams (g.S.Source.state c.args.input.now) (g.K.Sink.state c.args.out.now)) c.requires.has_reports c.in_ok-lines.lines c.args.watch.now (g.K.Sink.state c.write_all.new.out) c.args.work.now
    c.in_ok-lines.ensures.unread c.requires.new
    (Puts-same (g.K.Sink.state c.args.out.now) (g.K.Sink.state c.write_all.new.out) _ _ (c.deref.ensures.value ∙ c.in_ok-opening.ensures) c.in_ok-write_all.ensures.put) c.in_ok-write_all.ensures.no_fault

pub returns-in_err-write_next_answer-clause-stopped : goal.returns-in_err-write_next_answer-clause-stopped
returns-in_err-write_next_answer-clause-stopped g c =
    let before = streams (g.S.Source.state c.args.input.now) (g.K.Sink.state c.args.out.now) in
    IfErr-from _ c.from_residual-in_err-write_next_answer.result c.in_err-write_next_answer.field-0.0 c.from_residual-in_err-write_next_answer.ensures.1
    (c.in_err-write_next_answer.ensures.stopped c.args.work.now before c.loop-opening.invariant)

-- the fleet is watched for the next answer
pub write_next_answer-requires : goal.write_next_answer-requires
write_next_answer-requires g c = record {
  lines = c.loop-opening.invariant.reading.given;
  answers = c.loop-opening.invariant.answers;
  answered = c.loop-opening.invariant.answered;
}

pub loop-opening-smaller : goal.loop-opening-smaller
loop-opening-smaller g c =
    let fleet = problem_in c.args.vehicles.now in
    let before = streams (g.S.Source.state c.args.input.now) (g.K.Sink.state c.args.out.now) in
    let now = streams (g.S.Source.state c.loop-opening.input) (g.K.Sink.state c.loop-opening.out) in
    let later = streams (g.S.Source.state c.write_next_answer.new.input) (g.K.Sink.state c.write_next_answer.new.out) in
    let leads = c.in_ok-write_next_answer.ensures.comes_to c.args.work.now before c.loop-opening.invariant in
    let on = subst (ComesTo fleet c.args.work.now before c.loop-opening.lines.number (answering_at later c.write_next_answer.new.lines c.write_next_answer.new.watch c.write_next_answer.new.work)) c.in-Written.is leads in
    falls_short _ _ (few_read fleet c.args.work.now c.loop-opening.work before now c.loop-opening.lines c.loop-opening.watch (g.S.Source.state c.loop-opening.input) c.loop-opening.lines c.loop-opening.invariant) on.1

pub returns-in-Ended-clause-done : goal.returns-in-Ended-clause-done
returns-in-Ended-clause-done g c =
    let fleet = problem_in c.args.vehicles.now in
    let before = streams (g.S.Source.state c.args.input.now) (g.K.Sink.state c.args.out.now) in
    let later = streams (g.S.Source.state c.write_next_answer.new.input) (g.K.Sink.state c.write_next_answer.new.out) in
    let output = g.K.Sink.state c.write_counts.new.out in
    let all = subst (ComesTo fleet c.args.work.now before c.loop-opening.lines.number (answering_at later c.write_next_answer.new.lines c.write_next_answer.new.watch c.write_next_answer.new.work)) c.in-Ended.is
    (c.in_ok-write_next_answer.ensures.comes_to c.args.work.now before c.loop-opening.invariant) in
    counted fleet c.args.work.now before (answering_at later c.write_next_answer.new.lines c.write_next_answer.new.watch c.write_next_answer.new.work) all output
    (kept_same fleet.graph c.deref-in-Ended.result.now c.write_next_answer.new.watch.ranked.items later.output output (Ok tt) c.deref-in-Ended.ensures.value c.in_ok-write_counts-in-Ended.ensures.done)

pub returns-in-Ended-clause-work : goal.returns-in-Ended-clause-work
returns-in-Ended-clause-work g c =
    let fleet = problem_in c.args.vehicles.now in
    let before = streams (g.S.Source.state c.args.input.now) (g.K.Sink.state c.args.out.now) in
    let later = streams (g.S.Source.state c.write_next_answer.new.input) (g.K.Sink.state c.write_next_answer.new.out) in
    let output = g.K.Sink.state c.write_counts.new.out in
    let all = subst (ComesTo fleet c.args.work.now before c.loop-opening.lines.number (answering_at later c.write_next_answer.new.lines c.write_next_answer.new.watch c.write_next_answer.new.work)) c.in-Ended.is
    (c.in_ok-write_next_answer.ensures.comes_to c.args.work.now before c.loop-opening.invariant) in
    counted_within fleet c.args.work.now before (answering_at later c.write_next_answer.new.lines c.write_next_answer.new.watch c.write_next_answer.new.work) all output
    (kept_same fleet.graph c.deref-in-Ended.result.now c.write_next_answer.new.watch.ranked.items later.output output (Ok tt) c.deref-in-Ended.ensures.value c.in_ok-write_counts-in-Ended.ensures.done)

pub returns-in_err-write_counts-in-Ended-clause-stopped : goal.returns-in_err-write_counts-in-Ended-clause-stopped
returns-in_err-write_counts-in-Ended-clause-stopped g c =
    let fleet = problem_in c.args.vehicles.now in
    let before = streams (g.S.Source.state c.args.input.now) (g.K.Sink.state c.args.out.now) in
    let later = streams (g.S.Source.state c.write_next_answer.new.input) (g.K.Sink.state c.write_next_answer.new.out) in
    let output = g.K.Sink.state c.write_counts.new.out in
    let all = subst (ComesTo fleet c.args.work.now before c.loop-opening.lines.number (answering_at later c.write_next_answer.new.lines c.write_next_answer.new.watch c.write_next_answer.new.work)) c.in-Ended.is
    (c.in_ok-write_next_answer.ensures.comes_to c.args.work.now before c.loop-opening.invariant) in
    let fault = c.in_err-write_counts-in-Ended.field-0.0 in
    IfErr-from _ c.from_residual-in_err-write_counts-in-Ended.result (stream_fault_of_output fault) c.from_residual-in_err-write_counts-in-Ended.ensures.1
    (not_counted fleet c.args.work.now before (answering_at later c.write_next_answer.new.lines c.write_next_answer.new.watch c.write_next_answer.new.work) all output fault
    (kept_same fleet.graph c.deref-in-Ended.result.now c.write_next_answer.new.watch.ranked.items later.output output (Err fault) c.deref-in-Ended.ensures.value c.in_err-write_counts-in-Ended.ensures.stopped))
