use Rattle.std.proofs.Common.{◌∙◌}
use Rattle.std.specs.Prelude.{option_and_then}
use Rattle.tfpg_log.specs.Log.{mode_at}
use Rattle.tfpg_log.specs.Spans.{span_at, window_round}
use Rattle.tfpg_log.proofs.log.Log.joint_of.Goals as goal

pub returns : goal.returns
returns c =
    let log = c.args.self.now in
    c.window_round.ensures
    ∙ (λ i. option_and_then (λ span. window_round log (λ instant. c.modes_into-modes.ensures (mode_at log instant) i) span c.args.horizon)
    (span_at log c.args.number c.args.horizon))
