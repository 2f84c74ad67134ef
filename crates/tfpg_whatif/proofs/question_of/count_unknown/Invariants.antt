-- How many of the outcomes so far.
use Rattle.std.proofs.Common.{◌≡◌, ◌≤◌, take}
use Rattle.std.specs.Prelude.{count_by}
use Rattle.tfpg_whatif.specs.Outcomes.{is_unknown}
use Rattle.tfpg_whatif.proofs.question_of.count_unknown.Given as goal

abbrev pub invariant-loop-outcome : goal.invariant-loop-outcome
invariant-loop-outcome l = (l.count ≡ count_by is_unknown (take l.outcome-index l.outcomes)) × (l.count ≤ l.outcome-index)
