-- What is kept of hypotheses before and after a round, and the tests after those of the steps.
use Rattle.std.specs.Prelude.{◌≡◌, ◌↔◌, ℕ, List, [], map, All, Bool, IsTrue}
use Rattle.tfpg_graph.specs.Graph.{Tfpg}
use Rattle.tfpg_log.specs.Log.{Logbook}
use Rattle.tfpg_kernel.specs.CheckerState.{CheckerState}
use Rattle.tfpg_kernel.specs.Represents.{CheckerRepresents}
use Rattle.tfpg_report.specs.declared.read_round.ReadRound.{ReadRound}
use Rattle.tfpg_check.specs.declared.cause.CheckCause.TheVariants as cause
use Rattle.tfpg_check.specs.Tests.{Fails, Owes, Then, InTurn, HoldInTurn}
use Rattle.tfpg_check.specs.Judging.{RoundBasis, WasClosed, RankedFails, OpenFails, RejectedFails, MayBeOpen, AreNewlyClosed, EachHasStatus, AreRightCounts, named_hypothesis}
use Rattle.tfpg_check.specs.Passing.{RankedPasses}
use Rattle.tfpg_check.specs.inside.Lookups.{flag_at}

-- The checker took no step.
abbrev pub IsNewChecker : CheckerState → Type 0
IsNewChecker checker = (graph : Tfpg) (log : Logbook) → CheckerRepresents graph log checker []

-- The checkers took no step, and each is for one of these reaches.
pub record AreNewCheckers (reaches : List (List ℕ)) (checkers : List CheckerState) : Type 0 where
  pub reaches_are : map (λ (checker : CheckerState). checker.reach) checkers ≡ reaches
  pub each : All IsNewChecker checkers

-- The flag of a number is up where its tree was closed in an earlier round.
abbrev pub AreFlagsBefore : RoundBasis → List Bool → Type 0
AreFlagsBefore basis flags = (number : ℕ) → IsTrue (flag_at flags number) ↔ WasClosed basis number

-- No test after those of the steps fails.
pub record PassesRest (basis : RoundBasis) (read : ReadRound) : Type 0 where
  pub ranked : HoldInTurn (RankedPasses basis read) read.ranked
  pub unsettled : HoldInTurn (MayBeOpen basis read) read.unsettled
  pub rejected : AreNewlyClosed basis read (map named_hypothesis read.rejected)
  pub statuses : EachHasStatus basis read
  pub counts : AreRightCounts basis read

-- A test after those of the steps fails, and none before it.
abbrev pub RestFails : RoundBasis → ReadRound → Fails
RestFails basis read =
    Then (InTurn (RankedFails basis read) [] read.ranked)
    (Then (InTurn (OpenFails basis read) [] read.unsettled)
    (Then (RejectedFails basis read)
    (Then (Owes (EachHasStatus basis read) read.counts_line cause.WrongStatus)
    (Owes (AreRightCounts basis read) read.counts_line cause.WrongCounts))))
