-- How many of the outcomes so far.
use Rattle.std.proofs.Common.{◌≡◌, ◌≤◌, take}
use Rattle.std.specs.Prelude.{count_by}
use Rattle.tfpg_whatif.specs.Outcomes.{is_out}
use Rattle.tfpg_whatif.proofs.question_of.count_out.Given as goal

abbrev pub invariant-loop-outcome : goal.invariant-loop-outcome
invariant-loop-outcome l = (l.count ≡ count_by is_out (take l.outcome-index l.outcomes)) × (l.count ≤ l.outcome-index)
