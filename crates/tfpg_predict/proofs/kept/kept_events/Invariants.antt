use Rattle.std.proofs.Common.{◌≡◌, ◌++◌, drop}
use Rattle.tfpg_predict.specs.inside.KeptEvents.{kept_after_number, kept_by_numbers}
use Rattle.tfpg_predict.proofs.kept.kept_events.Given as goal

-- what is kept so far, and then what is kept of the events that are left
abbrev pub invariant-loop-index : goal.invariant-loop-index
invariant-loop-index l = kept_by_numbers l.graph l.log ≡ l.events.items ++ kept_after_number l.graph l.log l.index (drop l.index l.log.events)
