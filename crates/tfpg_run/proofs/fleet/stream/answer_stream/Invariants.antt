use Rattle.std.proofs.Common.{◌-◌, ◌+◌}
use Rattle.tfpg_base.specs.declared.limits.TheConstants.{MAX_BYTES}
use Rattle.tfpg_streams.specs.Streams.{streams}
use Rattle.tfpg_run.specs.inside.fleet.UnderWay.{IsAnswering, answering_at, problem_in}
use Rattle.tfpg_run.proofs.fleet.stream.answer_stream.Given as goal

-- the lines so far have their answers
abbrev pub invariant-loop-opening : goal.invariant-loop-opening
invariant-loop-opening g l =
    IsAnswering (problem_in l.vehicles) l.fn.work (streams (g.S.Source.state l.fn.input) (g.K.Sink.state l.fn.out)) (answering_at (streams (g.S.Source.state l.input) (g.K.Sink.state l.out)) l.lines l.watch l.work)

-- there are no more lines than bytes that are taken, but for a last one
abbrev pub decreases-loop-opening : goal.decreases-loop-opening
decreases-loop-opening g l = MAX_BYTES + 2 - l.lines.number
