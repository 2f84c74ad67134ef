use Rattle.tfpg_panel.specs.declared.panel.PanelFault.TheVariants.{Lost}
use Rattle.tfpg_panel.specs.declared.lost_panel.LostPanel.{LostPanel}
use Rattle.tfpg_streams.proofs.lemmas.Putting.{Writes-failed}
use Rattle.tfpg_diagnose.proofs.lemmas.LossLines.{lines_all, lines_end, lines_more}
use Rattle.tfpg_diagnose.proofs.telling.write_losses.Goals as goal

-- what stands past the end
abbrev none : LostPanel
none = record { panel = 0; round = 0; fault = Lost }

pub returns-in_err-write_loss : goal.returns-in_err-write_loss
returns-in_err-write_loss g c =
    Writes-failed _ (g.K.Sink.state c.args.out.now) (g.K.Sink.state c.write_loss.new.out) c.from_residual.result _ c.from_residual.ensures.1
    (lines_end c.args.losses.now c.loop-loss.loss-index none (g.K.Sink.state c.args.out.now) (g.K.Sink.state c.loop-loss.out) (g.K.Sink.state c.write_loss.new.out) c.loop-loss-test.true c.loop-loss.invariant c.in_err-write_loss.ensures)

pub loop-loss-preserved : goal.loop-loss-preserved
loop-loss-preserved g c =
    lines_more c.args.losses.now c.loop-loss.loss-index none (g.K.Sink.state c.args.out.now) (g.K.Sink.state c.loop-loss.out) (g.K.Sink.state c.write_loss.new.out) c.loop-loss-test.true c.loop-loss.invariant c.in_ok-write_loss.ensures

pub returns : goal.returns
returns g c = lines_all c.args.losses.now c.loop-loss.loss-index (g.K.Sink.state c.args.out.now) (g.K.Sink.state c.loop-loss.out) c.loop-loss-test.false c.loop-loss.invariant
