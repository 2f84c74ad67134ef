-- The first steps are taken, and none is at fault.
use Rattle.std.proofs.Common.{◌≡◌, List}
use Rattle.tfpg_clause.specs.Trees.{Judged}
use Rattle.tfpg_kernel.specs.Represents.{CheckerRepresents}
use Rattle.tfpg_check.proofs.lemmas.judging.StepsTaken.{HasTakenFirst}
use Rattle.tfpg_check.proofs.round.steps.take_steps.Given as goal

abbrev pub invariant-loop-index : goal.invariant-loop-index
invariant-loop-index l =
    (l.checker.reach ≡ l.initial.checker.reach)
    × ((earlier : List Judged) → CheckerRepresents l.graph l.log l.initial.checker earlier
    → HasTakenFirst l.graph l.log l.initial.checker.reach l.part.step_lines l.part.steps earlier l.checker l.index)
