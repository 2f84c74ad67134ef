use Rattle.tfpg_streams.specs.declared.fault.StreamFault.TheVariants as faults
use Rattle.tfpg_streams.specs.Faults.{stream_fault_of_lines}
use Rattle.tfpg_base.proofs.lemmas.lists.Choices.{IfErr-from}
use Rattle.tfpg_diagnose.proofs.lemmas.NextBlocks.{ends_by_fault, met_end, met_text, met_long, gave_without_memory, done_within, long_within, text_within}
use Rattle.tfpg_diagnose.proofs.lemmas.WrittenBlocks.{wrote, wrote_within, stopped}
use Rattle.tfpg_panel.specs.Desk.{seen_by}
use Rattle.tfpg_diagnose.proofs.report.write_next_block.Goals as goal

pub returns-in_err-next-clause-stopped : goal.returns-in_err-next-clause-stopped
returns-in_err-next-clause-stopped g c graph terms before under =
    IfErr-from _ c.from_residual.result (stream_fault_of_lines c.in_err-next.field-0.0) c.from_residual.ensures.1
    (ends_by_fault graph terms before _ c.args.lines.now c.next.new.self c.args.engine.now _ c.in_err-next.field-0.0 under (c.in_err-next.ensures under.reading under.represents))

pub returns-in-End-clause-comes_to : goal.returns-in-End-clause-comes_to
returns-in-End-clause-comes_to g c graph terms before under =
    met_end graph terms before _ c.args.lines.now c.args.engine.now _ c.next.new.self under c.in_ok-next.field-0 (c.in_ok-next.ensures under.reading under.represents) c.in-End.is

pub returns-in_err-block-in-TooLong-clause-stopped : goal.returns-in_err-block-in-TooLong-clause-stopped
returns-in_err-block-in-TooLong-clause-stopped g c graph terms before under =
    let met = met_long graph terms before _ c.args.lines.now c.args.engine.now _ c.next.new.self under c.in_ok-next.field-0 (c.in_ok-next.ensures under.reading under.represents) c.in-TooLong.is in
    IfErr-from _ c.from_residual-in_err-block-in-TooLong.result faults.NoMemory c.from_residual-in_err-block-in-TooLong.ensures.1
    (gave_without_memory graph terms before _ c.args.lines.now c.args.engine.now _ c.next.new.self under met.0)

pub returns-in_err-block-in-Text-clause-stopped : goal.returns-in_err-block-in-Text-clause-stopped
returns-in_err-block-in-Text-clause-stopped g c graph terms before under =
    let met = met_text graph terms before _ c.args.lines.now c.args.engine.now _ c.next.new.self under c.in_ok-next.field-0 (c.in_ok-next.ensures under.reading under.represents) c.in-Text.is in
    IfErr-from _ c.from_residual-in_err-block-in-Text.result faults.NoMemory c.from_residual-in_err-block-in-Text.ensures.1
    (gave_without_memory graph terms before _ c.args.lines.now c.args.engine.now _ c.next.new.self under met.0)

pub returns-in_ok-block-in-TooLong-clause-comes_to : goal.returns-in_ok-block-in-TooLong-clause-comes_to
returns-in_ok-block-in-TooLong-clause-comes_to g c graph terms before under =
    let read = long_within graph terms before _ c.args.lines.now c.args.engine.now _ c.next.new.self under c.in_ok-next.field-0 (c.in_ok-next.ensures under.reading under.represents)
    c.number.result c.in_ok-block-in-TooLong.block.text.items c.args.work.now c.in_ok-block-in-TooLong.block.round c.in-TooLong.is c.in_ok-block-in-TooLong.ensures in
    wrote graph terms before _ c.args.lines.now c.args.engine.now _ c.next.new.self under read.0 c.number.result c.in_ok-block-in-TooLong.block.text.items c.args.engine.now c.number.ensures read.1 c.in_ok-block-in-TooLong.block.round read.2
    (g.K.Sink.state c.write_and_tell.new.out) (seen_by g.P.Panel.state c.write_and_tell.new.desk) c.always_keeps_its_panels.ensures.few (record { step = c.a_desk_is_told_round_by_round.ensures.step; rise = c.the_losses_of_a_round_rise.ensures })
    c.a_report_goes_on_block_by_block.ensures.step c.write_and_tell.result c.write_and_tell.ensures

pub returns-in_ok-block-in-TooLong-clause-stopped : goal.returns-in_ok-block-in-TooLong-clause-stopped
returns-in_ok-block-in-TooLong-clause-stopped g c graph terms before under =
    let read = long_within graph terms before _ c.args.lines.now c.args.engine.now _ c.next.new.self under c.in_ok-next.field-0 (c.in_ok-next.ensures under.reading under.represents)
    c.number.result c.in_ok-block-in-TooLong.block.text.items c.args.work.now c.in_ok-block-in-TooLong.block.round c.in-TooLong.is c.in_ok-block-in-TooLong.ensures in
    stopped graph terms before _ c.args.lines.now c.args.engine.now _ c.next.new.self under read.0 c.number.result c.in_ok-block-in-TooLong.block.text.items c.args.engine.now c.number.ensures read.1 c.in_ok-block-in-TooLong.block.round read.2
    (g.K.Sink.state c.write_and_tell.new.out) (seen_by g.P.Panel.state c.write_and_tell.new.desk) c.always_keeps_its_panels.ensures.few (record { step = c.a_desk_is_told_round_by_round.ensures.step; rise = c.the_losses_of_a_round_rise.ensures })
    c.a_report_goes_on_block_by_block.ensures.step c.write_and_tell.result c.write_and_tell.ensures

pub returns-in_ok-block-in-TooLong-clause-counts : goal.returns-in_ok-block-in-TooLong-clause-counts
returns-in_ok-block-in-TooLong-clause-counts g c graph terms before start so_far =
    let under = so_far.under in
    let read = long_within graph terms before _ c.args.lines.now c.args.engine.now _ c.next.new.self under c.in_ok-next.field-0 (c.in_ok-next.ensures under.reading under.represents)
    c.number.result c.in_ok-block-in-TooLong.block.text.items c.args.work.now c.in_ok-block-in-TooLong.block.round c.in-TooLong.is c.in_ok-block-in-TooLong.ensures in
    wrote_within graph terms before _ c.args.lines.now c.args.engine.now _ c.next.new.self under read.0 c.number.result c.in_ok-block-in-TooLong.block.text.items c.args.engine.now c.number.ensures read.1 c.in_ok-block-in-TooLong.block.round read.2
    (g.K.Sink.state c.write_and_tell.new.out) (seen_by g.P.Panel.state c.write_and_tell.new.desk) c.always_keeps_its_panels.ensures.few (record { step = c.a_desk_is_told_round_by_round.ensures.step; rise = c.the_losses_of_a_round_rise.ensures })
    c.a_report_goes_on_block_by_block.ensures.step start c.args.work.now c.args.work.now so_far.within read.3 c.write_and_tell.result c.write_and_tell.ensures

pub returns-in_ok-block-in-Text-clause-comes_to : goal.returns-in_ok-block-in-Text-clause-comes_to
returns-in_ok-block-in-Text-clause-comes_to g c graph terms before under =
    let read = text_within graph terms before _ c.args.lines.now c.args.engine.now _ c.next.new.self under c.in_ok-next.field-0 (c.in_ok-next.ensures under.reading under.represents)
    c.number-in-Text.result c.text.result.now c.in_ok-block-in-Text.block.text.items c.line_block.new.engine c.args.work.now c.line_block.new.work c.in-Text.is c.text.ensures c.in_ok-block-in-Text.block.round (λ progress reports. c.in_ok-block-in-Text.ensures.block graph terms progress reports) in
    wrote graph terms before _ c.args.lines.now c.args.engine.now _ c.next.new.self under read.0 c.number-in-Text.result c.in_ok-block-in-Text.block.text.items c.line_block.new.engine c.number-in-Text.ensures read.1 c.in_ok-block-in-Text.block.round read.2
    (g.K.Sink.state c.write_and_tell-in-Text.new.out) (seen_by g.P.Panel.state c.write_and_tell-in-Text.new.desk) c.always_keeps_its_panels.ensures.few (record { step = c.a_desk_is_told_round_by_round.ensures.step; rise = c.the_losses_of_a_round_rise.ensures })
    c.a_report_goes_on_block_by_block.ensures.step c.write_and_tell-in-Text.result c.write_and_tell-in-Text.ensures

pub returns-in_ok-block-in-Text-clause-stopped : goal.returns-in_ok-block-in-Text-clause-stopped
returns-in_ok-block-in-Text-clause-stopped g c graph terms before under =
    let read = text_within graph terms before _ c.args.lines.now c.args.engine.now _ c.next.new.self under c.in_ok-next.field-0 (c.in_ok-next.ensures under.reading under.represents)
    c.number-in-Text.result c.text.result.now c.in_ok-block-in-Text.block.text.items c.line_block.new.engine c.args.work.now c.line_block.new.work c.in-Text.is c.text.ensures c.in_ok-block-in-Text.block.round (λ progress reports. c.in_ok-block-in-Text.ensures.block graph terms progress reports) in
    stopped graph terms before _ c.args.lines.now c.args.engine.now _ c.next.new.self under read.0 c.number-in-Text.result c.in_ok-block-in-Text.block.text.items c.line_block.new.engine c.number-in-Text.ensures read.1 c.in_ok-block-in-Text.block.round read.2
    (g.K.Sink.state c.write_and_tell-in-Text.new.out) (seen_by g.P.Panel.state c.write_and_tell-in-Text.new.desk) c.always_keeps_its_panels.ensures.few (record { step = c.a_desk_is_told_round_by_round.ensures.step; rise = c.the_losses_of_a_round_rise.ensures })
    c.a_report_goes_on_block_by_block.ensures.step c.write_and_tell-in-Text.result c.write_and_tell-in-Text.ensures

pub returns-in_ok-block-in-Text-clause-counts : goal.returns-in_ok-block-in-Text-clause-counts
returns-in_ok-block-in-Text-clause-counts g c graph terms before start so_far =
    let under = so_far.under in
    let read = text_within graph terms before _ c.args.lines.now c.args.engine.now _ c.next.new.self under c.in_ok-next.field-0 (c.in_ok-next.ensures under.reading under.represents)
    c.number-in-Text.result c.text.result.now c.in_ok-block-in-Text.block.text.items c.line_block.new.engine c.args.work.now c.line_block.new.work c.in-Text.is c.text.ensures c.in_ok-block-in-Text.block.round (λ progress reports. c.in_ok-block-in-Text.ensures.block graph terms progress reports) in
    wrote_within graph terms before _ c.args.lines.now c.args.engine.now _ c.next.new.self under read.0 c.number-in-Text.result c.in_ok-block-in-Text.block.text.items c.line_block.new.engine c.number-in-Text.ensures read.1 c.in_ok-block-in-Text.block.round read.2
    (g.K.Sink.state c.write_and_tell-in-Text.new.out) (seen_by g.P.Panel.state c.write_and_tell-in-Text.new.desk) c.always_keeps_its_panels.ensures.few (record { step = c.a_desk_is_told_round_by_round.ensures.step; rise = c.the_losses_of_a_round_rise.ensures })
    c.a_report_goes_on_block_by_block.ensures.step start c.args.work.now c.line_block.new.work so_far.within read.3 c.write_and_tell-in-Text.result c.write_and_tell-in-Text.ensures

pub returns-in-End-clause-counts : goal.returns-in-End-clause-counts
returns-in-End-clause-counts g c graph terms before start so_far =
    let under = so_far.under in
    done_within graph terms before _ c.args.lines.now c.args.engine.now _ c.next.new.self under c.in_ok-next.field-0 (c.in_ok-next.ensures under.reading under.represents) c.in-End.is start c.args.work.now so_far.within
