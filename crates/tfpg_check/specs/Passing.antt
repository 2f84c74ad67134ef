-- What a round of a report that passes each test says.
use Rattle.std.specs.Prelude.{◌⊎◌, ℕ, List, map}
use Rattle.tfpg_log.specs.Explains.{Explains}
use Rattle.tfpg_clause.specs.Trees.{IsRefutation, IsPartial}
use Rattle.tfpg_clause.specs.Paths.{with_steps}
use Rattle.tfpg_hyp.specs.Views.{IsReachOf, case_for, log_for}
use Rattle.tfpg_report.specs.declared.read_round.Part.{Part}
use Rattle.tfpg_report.specs.declared.read_round.RankedLine.{RankedLine}
use Rattle.tfpg_report.specs.declared.read_round.ReadRound.{ReadRound}
use Rattle.tfpg_report.specs.ReadRounds.{hypothesis_ranked}
use Rattle.tfpg_check.specs.Tests.{HoldInTurn}
use Rattle.tfpg_check.specs.Judging.{RoundBasis, BeginsWell, MayHaveSteps, MayBeRanked, MayBeOpen, AreNewlyClosed, EachHasStatus, AreRightCounts, named_hypothesis}

-- The part may stand there, and its steps go on with those before, as a partial tree or to a refutation.
pub record PartPasses (basis : RoundBasis) (before : List Part) (part : Part) : Type 0 where
  pub may : MayHaveSteps basis before part
  pub reach : List ℕ
  pub reach_is : IsReachOf basis.graph may.hypothesis reach
  pub steps : IsPartial (case_for basis.graph basis.log may.hypothesis reach) (with_steps (basis.steps part.number) basis.log part.steps)
      ⊎ IsRefutation (case_for basis.graph basis.log may.hypothesis reach) (with_steps (basis.steps part.number) basis.log part.steps)

-- The ranked hypothesis may stand there, and its trace explains what it sees of the log.
pub record RankedPasses (basis : RoundBasis) (read : ReadRound) (before : List RankedLine) (r : RankedLine) : Type 0 where
  pub may : MayBeRanked basis read before r
  pub explains : Explains basis.graph (log_for basis.log (hypothesis_ranked r)) r.set r.trace

-- The round passes each test.
pub record RoundPasses (basis : RoundBasis) (line : ℕ) (read : ReadRound) : Type 0 where
  pub begins : BeginsWell basis line read
  pub parts : HoldInTurn (PartPasses basis) read.parts
  pub ranked : HoldInTurn (RankedPasses basis read) read.ranked
  pub unsettled : HoldInTurn (MayBeOpen basis read) read.unsettled
  pub rejected : AreNewlyClosed basis read (map named_hypothesis read.rejected)
  pub statuses : EachHasStatus basis read
  pub counts : AreRightCounts basis read
