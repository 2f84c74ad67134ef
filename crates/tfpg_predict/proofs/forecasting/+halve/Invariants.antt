use Rattle.std.proofs.Common.{◌-◌}
use Rattle.tfpg_predict.proofs.forecasting.+halve.Given as goal

abbrev pub decreases-halve : goal.decreases-halve
decreases-halve g l = l.high - l.low
