-- What is kept of the hypotheses while the parts of a round are judged.
use Rattle.std.specs.Prelude.{◌≡◌, ◌↔◌, ℕ, ◌<◌, ◌≤◌, List, [], length, find, All, false, ◌==◌, Option, Some, None, option_map, unwrap_or, slice_get}
use Rattle.tfpg_base.specs.declared.terms.Terms.{Terms}
use Rattle.tfpg_base.specs.Hypothesis.{Hypothesis}
use Rattle.tfpg_evidence.specs.declared.step.Step.{Step}
use Rattle.tfpg_clause.specs.Case.{Case}
use Rattle.tfpg_clause.specs.Trees.{Judged}
use Rattle.tfpg_clause.specs.Paths.{judged_by, with_step, with_steps}
use Rattle.tfpg_kernel.specs.CheckerState.{CheckerState}
use Rattle.tfpg_kernel.specs.Represents.{CheckerRepresents}
use Rattle.tfpg_kernel.specs.Breaks.{IsFirstBroken}
use Rattle.tfpg_kernel.specs.declared.taken.BadStep.{BadStep}
use Rattle.tfpg_kernel.specs.declared.taken.Taken.{Taken}
use Rattle.tfpg_kernel.specs.declared.taken.Taken.TheVariants.{Open, Closed, Bad}
use Rattle.tfpg_hyp.specs.Hypotheses.{Hypotheses}
use Rattle.tfpg_report.specs.declared.read_round.Part.{Part}
use Rattle.tfpg_check.specs.Tests.{Fails, Passes, HoldInTurn}
use Rattle.tfpg_check.specs.Judging.{RoundBasis, IsNumberOf, PartFails, cause_of_step}
use Rattle.tfpg_check.specs.HypothesesState.{HypothesesState, HasChecker, KeepsBasis}
use Rattle.tfpg_check.specs.Passing.{PartPasses}
use Rattle.tfpg_check.specs.inside.InTurn.{PassesWith}

-- ---- steps

-- A step, after these steps of the round, is at fault at its line, and for the condition that it breaks.
abbrev pub StepBreaks : Case → List Judged → List ℕ → List Step → Step → Fails
StepBreaks case earlier lines before step line why =
    (broken : BadStep) × (slice_get lines (length before) ≡ Some line) × (why ≡ cause_of_step broken)
    × IsFirstBroken case (with_steps earlier case.log before) (judged_by case.log step) broken

-- the condition that a bad step breaks
abbrev pub broken_by : Taken → Option BadStep
broken_by Open = None
broken_by Closed = None
broken_by (Bad broken) = Some broken

-- What was taken of a step: the checker represents it too, and it breaks no condition; or it breaks this one.
abbrev pub IsTakenAs : Case → List Judged → Step → CheckerState → Option BadStep → Type 0
IsTakenAs case steps step after None =
    CheckerRepresents case.graph case.log after (with_step steps case.log step)
    × ((broken : BadStep) → IsFirstBroken case steps (judged_by case.log step) broken → ⊥)
IsTakenAs case steps step after (Some broken) = IsFirstBroken case steps (judged_by case.log step) broken

-- The checker represents the steps of the round too, and none of them is at fault.
pub record HasTaken (case : Case) (earlier : List Judged) (part : Part) (after : CheckerState) : Type 0 where
  pub represents : CheckerRepresents case.graph case.log after (with_steps earlier case.log part.steps)
  pub none_breaks : HoldInTurn (PassesWith (StepBreaks case earlier part.step_lines)) part.steps

-- ---- parts

-- what is kept, of these fields
abbrev pub kept_of : Terms → Hypotheses → List CheckerState → HypothesesState
kept_of terms table checkers = record { terms = terms; table = table; checkers = checkers }

-- The next number is above those of the items before, and no greater one is needed.
abbrev pub IsNextAfter : {X : Type 0} → (X → ℕ) → List X → ℕ → Type 0
IsNextAfter {X} number before next = (above : ℕ) → All (λ (x : X). number x < above) before ↔ (next ≤ above)

-- There is a checker of the number, and its tree is not closed.
abbrev pub IsUnfinished : List CheckerState → ℕ → Type 0
IsUnfinished checkers number =
    option_map (λ (checker : CheckerState). checker.closed) (slice_get checkers number) ≡ Some false

-- The number is the next one or a greater one, and there is a checker of it whose tree is not closed.
abbrev pub MayTake : List CheckerState → ℕ → ℕ → Type 0
MayTake checkers next number = (next ≤ number) × IsUnfinished checkers number

-- the steps of a number among these parts
abbrev pub steps_among : List Part → ℕ → List Step
steps_among parts number =
    unwrap_or (option_map (λ (part : Part). part.steps) (find (λ (part : Part). part.number == number) parts)) []

-- the basis with the steps of these parts
abbrev pub after_parts : RoundBasis → List Part → RoundBasis
after_parts basis parts =
    record basis { steps = λ number. with_steps (basis.steps number) basis.log (steps_among parts number) }

-- the basis where the hypothesis of each number has these steps more
abbrev pub after_steps : RoundBasis → List Step → RoundBasis
after_steps basis steps = record basis { steps = λ number. with_steps (basis.steps number) basis.log steps }

-- The checker of this number represents the steps of its hypothesis.
abbrev pub KeepsNumber : RoundBasis → HypothesesState → ℕ → Type 0
KeepsNumber basis state number =
    (hypothesis : Hypothesis) → IsNumberOf basis number hypothesis → HasChecker basis basis.log state number hypothesis

-- The part passes, and its steps are kept.
pub record IsPartTaken (basis : RoundBasis) (before : List Part) (part : Part) (state : HypothesesState) : Type 0 where
  pub passes : PartPasses basis before part
  pub not_fails : Passes (PartFails basis before part)
  pub keeps : KeepsNumber (after_steps basis part.steps) state part.number

-- Each part passes, and all their steps are kept.
pub record ArePartsTaken (basis : RoundBasis) (parts : List Part) (state : HypothesesState) : Type 0 where
  pub passes : HoldInTurn (PartPasses basis) parts
  pub not_fails : HoldInTurn (PassesWith (PartFails basis)) parts
  pub keeps : KeepsBasis (after_parts basis parts) basis.log state
