use Rattle.std.proofs.Common.{Err}
use Rattle.tfpg_base.proofs.lemmas.lists.Choices.{IfErr-from}
use Rattle.tfpg_base.specs.Lines.{lines_of}
use Rattle.tfpg_log.specs.LogOfLines.{log_of_lines}
use Rattle.tfpg_streams.specs.declared.fault.OutputFault.{OutputFault}
use Rattle.tfpg_streams.specs.declared.fault.OutputFault.TheVariants.{WriteFault}
use Rattle.tfpg_streams.specs.Outputs.{TextEnds}
use Rattle.tfpg_answers.specs.Verdicts.{HasVerdict}
use Rattle.tfpg_run.proofs.lemmas.Written.{cut_text, whole_text}
use Rattle.tfpg_run.proofs.explain.write_verdict.Goals as goal

pub returns-in_err-write_all-clause-stopped : goal.returns-in_err-write_all-clause-stopped
returns-in_err-write_all-clause-stopped g c =
    let right = HasVerdict c.args.graph.now (log_of_lines c.args.graph.now (lines_of c.args.log_text.now)) c.args.map.now in
    let before = g.K.Sink.state c.args.out.now in
    let now = g.K.Sink.state c.write_all.new.out in
    IfErr-from (λ (fault : OutputFault). TextEnds right before now (Err fault)) c.from_residual-in_err-write_all.result WriteFault c.from_residual-in_err-write_all.ensures.1
    (cut_text right before now c.in_ok-text.text.items c.deref.result.now c.in_ok-text.ensures c.deref.ensures.value c.in_err-write_all.ensures.writes)

pub returns-clause-done : goal.returns-clause-done
returns-clause-done g c =
    let right = HasVerdict c.args.graph.now (log_of_lines c.args.graph.now (lines_of c.args.log_text.now)) c.args.map.now in
    let before = g.K.Sink.state c.args.out.now in
    let now = g.K.Sink.state c.write_all.new.out in
    whole_text right before now c.in_ok-text.text.items c.deref.result.now c.in_ok-text.ensures c.deref.ensures.value c.in_ok-write_all.ensures.writes
