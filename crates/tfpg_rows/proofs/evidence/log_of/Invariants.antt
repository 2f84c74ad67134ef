use Rattle.tfpg_log.specs.Log.{IsLogOf}
use Rattle.tfpg_rows.proofs.evidence.log_of.Given as goal

abbrev pub invariant-loop-line : goal.invariant-loop-line
invariant-loop-line l = IsLogOf l.graph l.log
