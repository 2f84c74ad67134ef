use Rattle.std.proofs.Common.{◌≡◌, ◌-◌, ◌+◌}
use Rattle.tfpg_engine.specs.EngineState.{calls_of_engine}
use Rattle.tfpg_base.specs.declared.limits.TheConstants.{MAX_BYTES}
use Rattle.tfpg_diagnose.specs.Watched.{watched}
use Rattle.tfpg_diagnose.specs.inside.UnderWay.{IsDiagnosingWithin, diagnosis_at}
use Rattle.tfpg_panel.specs.Desk.{seen_by}
use Rattle.tfpg_diagnose.proofs.report.write_report.Given as goal

-- the lines so far have their blocks, within their limits, and the counter counts what the systems count
abbrev pub invariant-loop-head : goal.invariant-loop-head
invariant-loop-head g l =
    IsDiagnosingWithin l.fn.engine.graph l.fn.engine.terms (watched (g.S.Source.state l.fn.input) (g.K.Sink.state l.fn.out) (seen_by g.P.Panel.state l.fn.desk)) (diagnosis_at (watched (g.S.Source.state l.input) (g.K.Sink.state l.out) (seen_by g.P.Panel.state l.desk)) l.lines l.engine) l.fn.work l.work
    × (calls_of_engine l.engine + l.fn.work ≡ calls_of_engine l.fn.engine + l.work)

-- there are no more lines than bytes that are taken, but for a last one
abbrev pub decreases-loop-head : goal.decreases-loop-head
decreases-loop-head g l = MAX_BYTES + 2 - l.lines.number
