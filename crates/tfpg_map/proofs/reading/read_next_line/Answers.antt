use Rattle.std.proofs.Common.{Err, ap}
use Rattle.tfpg_map.specs.declared.map.NoMap.TheVariants.{Lines}
use Rattle.tfpg_map.specs.InputMap.{LacksMap}
use Rattle.tfpg_base.proofs.lemmas.lists.Choices.{IfErr-from}
use Rattle.tfpg_map.proofs.lemmas.NextLines.{lacks_by_fault, met_end, met_long, met_read, met_faulty, met_no_memory}
use Rattle.tfpg_map.proofs.reading.read_next_line.Goals as goal

pub returns-in_err-next-clause-none : goal.returns-in_err-next-clause-none
returns-in_err-next-clause-none g c before under =
    IfErr-from (LacksMap c.args.graph.now before (g.S.Source.state c.next.new.source)) c.from_residual.result (Lines c.in_err-next.field-0.0) c.from_residual.ensures.1
    (lacks_by_fault c.args.graph.now before (g.S.Source.state c.args.input.now) c.args.lines.now c.next.new.self c.args.reader.now (g.S.Source.state c.next.new.source) under
    c.in_err-next.field-0.0 (c.in_err-next.ensures under.reading under.represents))

pub returns-in-End-clause-reads_on : goal.returns-in-End-clause-reads_on
returns-in-End-clause-reads_on g c before under =
    met_end c.args.graph.now before (g.S.Source.state c.args.input.now) c.args.lines.now c.next.new.self c.args.reader.now (g.S.Source.state c.next.new.source) under
    c.in_ok-next.field-0 (c.in_ok-next.ensures under.reading under.represents) c.in-End.is

pub returns-in-TooLong-clause-none : goal.returns-in-TooLong-clause-none
returns-in-TooLong-clause-none g c before under =
    met_long c.args.graph.now before (g.S.Source.state c.args.input.now) c.args.lines.now c.next.new.self c.args.reader.now (g.S.Source.state c.next.new.source) under
    c.in_ok-next.field-0 (c.in_ok-next.ensures under.reading under.represents) c.in-TooLong.is c.not_a_map.result c.not_a_map.ensures

pub returns-in-Ok-clause-reads_on : goal.returns-in-Ok-clause-reads_on
returns-in-Ok-clause-reads_on g c before under =
    met_read c.args.graph.now before (g.S.Source.state c.args.input.now) c.args.lines.now c.next.new.self c.args.reader.now (g.S.Source.state c.next.new.source) under
    c.in_ok-next.field-0 (c.in_ok-next.ensures under.reading under.represents) c.text.result.now c.take.new.self c.in-Text.is c.text.ensures c.in-Ok.ensures.taken

pub returns-in-Err-BadMap-clause-none : goal.returns-in-Err-BadMap-clause-none
returns-in-Err-BadMap-clause-none g c before under =
    met_faulty c.args.graph.now before (g.S.Source.state c.args.input.now) c.args.lines.now c.next.new.self c.args.reader.now (g.S.Source.state c.next.new.source) under
    c.in_ok-next.field-0 (c.in_ok-next.ensures under.reading under.represents) c.text.result.now c.take.new.self c.in-Text.is c.text.ensures
    (λ given read. c.in-Err-BadMap.ensures.bad given read (ap Err c.in-Err-BadMap.field-0-is)) c.not_a_map-in-Err-BadMap.result c.not_a_map-in-Err-BadMap.ensures

pub returns-in-Err-NoMemory-clause-none : goal.returns-in-Err-NoMemory-clause-none
returns-in-Err-NoMemory-clause-none g c before under =
    met_no_memory c.args.graph.now before (g.S.Source.state c.args.input.now) c.args.lines.now c.next.new.self c.args.reader.now (g.S.Source.state c.next.new.source) under
    c.in_ok-next.field-0 (c.in_ok-next.ensures under.reading under.represents) c.text.result.now c.take.new.self c.in-Text.is c.text.ensures
