-- What a line completes is judged.
use Rattle.std.proofs.Common.{Err, ap, subst, refl, ◌∙◌, arith}
use Rattle.std.proofs.lemmas.Result.{IfOk-at_ok}
use Rattle.tfpg_graph.specs.Graph.{Tfpg}
use Rattle.tfpg_report.specs.Represents.{TakesReportLine}
use Rattle.tfpg_check.proofs.lemmas.going_on.ReadOfGraph.{fed_of_graph}
use Rattle.tfpg_check.proofs.lemmas.going_on.LinesJudged.{not_read_so, judged_after}
use Rattle.tfpg_check.proofs.judge.take_line.Goals as goal

pub take-requires : goal.take-requires
take-requires g c = λ accepted.
    let counted = c.requires.reading.counted in
    let taken = c.requires.reading.reader_is.taken in
    let some = c.requires.numbered in
    omega (arith, counted, taken, some)

pub judge-requires : goal.judge-requires
judge-requires g c =
    let reads = c.requires.reading.reads in
    let taken = IfOk-at_ok (TakesReportLine c.graph.result.now reads c.args.line.now c.take.new.self) c.in-Ok.is
    (c.take.ensures.fed reads c.requires.reading.reader_is c.requires.ready) in
    fed_of_graph c.args.blocks.now.graph reads c.args.line.now c.take.new.self c.args.blocks.now.hypotheses c.in-Ok.fed
    (subst (λ (g : Tfpg). TakesReportLine g reads c.args.line.now c.take.new.self c.in-Ok.fed) c.graph.ensures taken)
    c.requires.reading.within c.requires.reading.begun

pub returns-clause-judged : goal.returns-clause-judged
returns-clause-judged g c = λ reads represents numbered.
    not_read_so reads c.args.line.now c.graph.result.now c.args.number c.take.new.self c.args.blocks.now c.args.blocks.now c.in-Err.refusal c.from.result _
    c.graph.ensures numbered (λ at same. c.take.ensures.bad reads represents c.requires.ready at (c.in-Err.is ∙ ap Err same)) refl c.from.ensures

pub returns-in-Ok-clause-judged : goal.returns-in-Ok-clause-judged
returns-in-Ok-clause-judged g c = λ reads represents numbered.
    judged_after reads c.args.line.now c.graph.result.now c.args.number c.take.new.self c.args.blocks.now c.judge.new.self c.in-Ok.fed c.judge.result
    c.graph.ensures numbered
    (IfOk-at_ok (TakesReportLine c.graph.result.now reads c.args.line.now c.take.new.self) c.in-Ok.is (c.take.ensures.fed reads represents c.requires.ready))
    c.judge.ensures.judged
