use Rattle.std.proofs.Common.{take, Ok}
use Rattle.tfpg_streams.specs.Writing.{Writes}
use Rattle.tfpg_diagnose.specs.inside.Telling.{losses_text}
use Rattle.tfpg_diagnose.proofs.telling.write_losses.Given as goal

-- the lines so far are written, and nothing has failed
abbrev pub invariant-loop-loss : goal.invariant-loop-loss
invariant-loop-loss g l = Writes (losses_text (take l.loss-index l.fn.losses)) (g.K.Sink.state l.fn.out) (g.K.Sink.state l.out) (Ok tt)
