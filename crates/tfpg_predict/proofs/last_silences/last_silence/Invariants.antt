use Rattle.std.proofs.Common.{◌≡◌}
use Rattle.std.specs.Prelude.{is_some}
use Rattle.tfpg_base.specs.Trials.{greatest}
use Rattle.tfpg_log.specs.Log.{silence_at}
use Rattle.tfpg_predict.specs.inside.KeptEvents.{last_silence}
use Rattle.tfpg_predict.proofs.last_silences.last_silence.Given as goal

-- the last silence is the last one up to this number
abbrev pub invariant-loop-number : goal.invariant-loop-number
invariant-loop-number l = last_silence l.graph l.log l.node ≡ greatest (λ number. is_some (silence_at l.graph l.log number l.node)) l.number

abbrev pub decreases-loop-number : goal.decreases-loop-number
decreases-loop-number l = l.number
