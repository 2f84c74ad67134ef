-- No line of a report is refused because the report ends early.
use Rattle.std.proofs.Common.{◌≡◌, ℕ, List, [], ◌∷◌, ◌++◌, Option, Some, None, Result, Ok, Err, inl, inr, sym, ◌∙◌}
use Rattle.tfpg_base.specs.declared.terms.Terms.{Terms}
use Rattle.tfpg_evidence.specs.declared.step.Step.{Step}
use Rattle.tfpg_kernel.specs.declared.taken.BadStep.{BadStep}
use Rattle.tfpg_kernel.specs.declared.taken.BadStep.TheVariants as bad
use Rattle.tfpg_log.specs.declared.event.Event.{Event}
use Rattle.tfpg_report.specs.Blocks.{Block}
use Rattle.tfpg_report.specs.declared.read_round.Part.{Part}
use Rattle.tfpg_report.specs.declared.read_round.ReadRound.{ReadRound}
use Rattle.tfpg_log.specs.declared.refused_line.RefusedLine.{RefusedLine}
use Rattle.tfpg_report.specs.declared.report_line.ReportLine.{ReportLine}
use Rattle.tfpg_report.specs.declared.report_line.ReportLine.TheVariants as line
use Rattle.tfpg_check.specs.declared.cause.CheckCause.{CheckCause}
use Rattle.tfpg_check.specs.declared.cause.CheckCause.TheVariants as cause
use Rattle.tfpg_check.specs.Causes.{DiagnosisProblem, BlockFails, LineFails, next_event}
use Rattle.tfpg_check.specs.Judging.{RoundBasis, MayHaveSteps, OpenFails, PartFails, RankedFails, RoundFails, StepFails, cause_of_step}
use Rattle.tfpg_check.specs.Tests.{Fails, InTurn, Owes, Then}

-- The test never fails because a report ends early.
abbrev IsNeverEarly : Fails → Type 0
IsNeverEarly fails = (at : ℕ) (why : CheckCause) → fails at why → why ≡ cause.EndsEarly → ⊥

-- ---- tests in an order

owed : (condition : Type 0) (at : ℕ) (why : CheckCause) → (why ≡ cause.EndsEarly → ⊥) → IsNeverEarly (Owes condition at why)
owed condition at why other line is fails early = other (sym fails.1 ∙ early)

then : (first next : Fails) → IsNeverEarly first → IsNeverEarly next → IsNeverEarly (Then first next)
then first next one two at why (inl fails) early = one at why fails early
then first next one two at why (inr fails) early = two at why fails.1 early

in_turn : {X : Type 0} (test : List X → X → Fails) → ((before : List X) (x : X) → IsNeverEarly (test before x)) → (before xs : List X) → IsNeverEarly (InTurn test before xs)
in_turn test never before [] at why fails early = absurd fails
in_turn test never before (x ∷ xs) at why (inl fails) early = never before x at why fails early
in_turn test never before (x ∷ xs) at why (inr fails) early = in_turn test never (before ++ x ∷ []) xs at why fails.1 early

-- ---- rounds

cause_of_bad_step : (broken : BadStep) → cause_of_step broken ≡ cause.EndsEarly → ⊥
cause_of_bad_step bad.AfterClosed is = cc
cause_of_bad_step bad.NotReusable is = cc
cause_of_bad_step bad.NotAClause is = cc
cause_of_bad_step bad.NotAFact is = cc
cause_of_bad_step bad.NotOnPath is = cc
cause_of_bad_step bad.Unchained is = cc
cause_of_bad_step bad.NotNegative is = cc

module _ (basis : RoundBasis) (number : ℕ) (read : ReadRound) where
  step_fails : (part : Part) (before : List Step) (step : Step) → IsNeverEarly (StepFails basis part before step)
  step_fails part before step at why fails early = cause_of_bad_step fails.broken (sym fails.cause_is ∙ early)

  part_fails : (before : List Part) (part : Part) → IsNeverEarly (PartFails basis before part)
  part_fails before part =
      then (Owes (MayHaveSteps basis before part) part.first_line cause.WrongHypothesis) (InTurn (StepFails basis part) [] part.steps)
      (owed (MayHaveSteps basis before part) part.first_line cause.WrongHypothesis (λ e. cc)) (in_turn (StepFails basis part) (step_fails part) [] part.steps)

  ranked_fails : (before : List _) (r : _) → IsNeverEarly (RankedFails basis read before r)
  ranked_fails before r at why (inl fails) early = let e = sym fails.1 ∙ early in cc
  ranked_fails before r at why (inr fails) early = let e = sym fails.1.1 ∙ early in cc

  open_fails : (before : List _) (named : _) → IsNeverEarly (OpenFails basis read before named)
  open_fails before named at why fails early = let e = sym fails.1 ∙ early in cc

  round_fails : IsNeverEarly (RoundFails basis number read)
  round_fails at why (inl begins) early = let e = sym begins.1 ∙ early in cc
  round_fails at why (inr (_, inl parts)) early = in_turn (PartFails basis) part_fails [] read.parts at why parts early
  round_fails at why (inr (_, inr (_, inl ranked))) early = in_turn (RankedFails basis read) ranked_fails [] read.ranked at why ranked early
  round_fails at why (inr (_, inr (_, inr (_, inl unsettled)))) early = in_turn (OpenFails basis read) open_fails [] read.unsettled at why unsettled early
  round_fails at why (inr (_, inr (_, inr (_, inr (_, inl rejected))))) early = let e = sym rejected.cause_is ∙ early in cc
  round_fails at why (inr (_, inr (_, inr (_, inr (_, inr (_, inl status)))))) early = let e = sym status.1 ∙ early in cc
  round_fails at why (inr (_, inr (_, inr (_, inr (_, inr (_, inr counts)))))) early = let e = sym counts.1.1 ∙ early in cc

-- ---- lines

module _ (problem : DiagnosisProblem) (terms : Terms) (blocks : List Block) (before : List ReportLine) where
  block_fails : (completing : ReportLine) (next : Option (Result Event RefusedLine)) → IsNeverEarly (BlockFails problem terms blocks before completing next)
  block_fails (line.Refused number said) None at why fails early = let e = sym fails.1 ∙ early in cc
  block_fails (line.Refused number said) (Some brings) at why fails early = let e = sym fails.1 ∙ early in cc
  block_fails (line.Counts counts) None at why fails early = let e = sym fails.1 ∙ early in cc
  block_fails (line.Counts counts) (Some (Err refused)) at why fails early = let e = sym fails.1 ∙ early in cc
  block_fails (line.Counts counts) (Some (Ok event)) at why fails early = round_fails fails.1 _ fails.0 at why fails.4 early
  block_fails _ next at why fails early = absurd fails

-- A line that is refused is not refused because the report ends early.
pub line_never_early : (problem : DiagnosisProblem) (before : List ReportLine) (bytes : List ℕ) (at : ℕ) (why : CheckCause) → LineFails problem before bytes at why → why ≡ cause.EndsEarly → ⊥
line_never_early problem before bytes at why (inl bad) early = let e = sym bad.0 ∙ early in cc
line_never_early problem before bytes at why (inr (read, terms, blocks, _, _, fails)) early = block_fails problem terms blocks before read (next_event problem blocks) at why fails early
