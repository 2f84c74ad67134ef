use Rattle.std.proofs.Common.{ap, refl, sym, subst, ◌∙◌}
use Rattle.std.proofs.lemmas.Result.{IfOk-weaker}
use Rattle.tfpg_graph.specs.Graph.{Tfpg}
use Rattle.tfpg_report.specs.Blocks.{round_text}
use Rattle.tfpg_report.proofs.lemmas.WrittenLines.{written_alone, written_refusal}
use Rattle.tfpg_diagnose.specs.declared.line_blocks.Brought.{Brought}
use Rattle.tfpg_diagnose.specs.inside.LineBlocks.{IsBrought, engine_turn, numbered}
use Rattle.tfpg_diagnose.proofs.lemmas.LineBlocks.{block_made}
use Rattle.tfpg_diagnose.proofs.line_blocks.line_block.Goals as goal

pub returns-in-Refused-clause-block : goal.returns-in-Refused-clause-block
returns-in-Refused-clause-block g c graph terms before reports =
    let turn = engine_turn c.args.engine.now c.take_line.new.engine c.args.work.now c.take_line.new.work in
    IfOk-weaker c.refused_block.result _ _ (λ block made.
    block_made graph terms before c.args.number c.args.text.now _ turn block.text.items block.round
    (subst (λ (what : Brought). IsBrought graph terms before (numbered c.args.number c.args.text.now) what turn) c.in-Refused.is (c.in_ok-cause.ensures.brings graph terms before reports))
    (made.0 ∙ sym (written_refusal graph c.args.number c.in-Refused.cause)) made.1) c.refused_block.ensures

pub returns-in_ok-text-in-Round-clause-block : goal.returns-in_ok-text-in-Round-clause-block
returns-in_ok-text-in-Round-clause-block g c graph terms before reports =
    let turn = engine_turn c.args.engine.now c.take_line.new.engine c.args.work.now c.take_line.new.work in
    block_made graph terms before c.args.number c.args.text.now _ turn _ _
    (subst (λ (what : Brought). IsBrought graph terms before (numbered c.args.number c.args.text.now) what turn) c.in-Round.is (c.in_ok-cause.ensures.brings graph terms before reports))
    (c.in_ok-text-in-Round.ensures ∙ ap (λ (lent : Tfpg). round_text lent c.in-Round.round) (c.graph.ensures ∙ c.in_ok-cause.ensures.graph ∙ reports.graph_is) ∙ sym (written_alone graph c.in-Round.round)) refl
