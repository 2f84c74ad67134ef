use Rattle.std.proofs.Common.{refl}
use Rattle.std.proofs.lemmas.Result.{IfOk-weaker}
use Rattle.tfpg_report.specs.Blocks.{block_text}
use Rattle.tfpg_diagnose.specs.inside.LineBlocks.{block_brought, engine_turn, numbered}
use Rattle.tfpg_diagnose.proofs.lemmas.texts.SessionLines.{brought_counts, counted_by_systems, own_progress, own_reports, plain_block, ready_after}
use Rattle.tfpg_diagnose.proofs.texts.session.brought_counted.Goals as goal

pub returns-clause-ready : goal.returns-clause-ready
returns-clause-ready g c =
    let engine = c.args.engine.now in
    IfOk-weaker c.take_line.result _ _ (λ brought is. ready_after engine c.take_line.new.engine c.requires.ready c.args.number c.args.text.now _ is.brings.0)
    (c.take_line.ensures.brings engine.graph engine.terms (own_progress engine c.requires.ready) (own_reports engine c.requires.ready))

pub returns-clause-block : goal.returns-clause-block
returns-clause-block g c graph terms before reports =
    IfOk-weaker c.take_line.result _ _ (λ brought is. plain_block graph terms before (numbered c.args.number c.args.text.now) brought
    (engine_turn c.args.engine.now c.take_line.new.engine c.new-work.result c.take_line.new.work) is)
    (c.take_line.ensures.brings graph terms before reports)

pub returns-clause-work : goal.returns-clause-work
returns-clause-work g c rounds represents =
    let engine = c.args.engine.now in
    IfOk-weaker c.take_line.result _ _ (λ brought is.
    counted_by_systems engine c.take_line.new.engine rounds c.args.text.now (block_text engine.graph (block_brought c.args.number brought)) c.new-work.result c.take_line.new.work c.take_line.ensures.counted
    (brought_counts engine c.take_line.new.engine rounds c.args.number c.args.text.now brought c.new-work.result c.take_line.new.work is))
    (c.take_line.ensures.brings engine.graph engine.terms (record { rounds = rounds; log = engine.log }) (record { graph_is = refl; terms_is = refl; log_is = refl; represents = represents }))
