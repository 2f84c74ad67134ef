-- What the judge keeps of the hypotheses between two rounds.
use Rattle.std.specs.Prelude.{◌≡◌, ℕ, List, length, Some, slice_get}
use Rattle.tfpg_base.specs.declared.terms.Terms.{Terms}
use Rattle.tfpg_base.specs.Hypothesis.{Hypothesis}
use Rattle.tfpg_log.specs.Log.{Logbook}
use Rattle.tfpg_kernel.specs.CheckerState.{CheckerState}
use Rattle.tfpg_kernel.specs.Represents.{CheckerRepresents}
use Rattle.tfpg_hyp.specs.Hypotheses.{Hypotheses, IsTableOf}
use Rattle.tfpg_hyp.specs.Views.{log_for}
use Rattle.tfpg_check.specs.Judging.{RoundBasis}

-- the terms, the table of their hypotheses, and a checker for each of them
pub record HypothesesState : Type 0 where
  pub terms : Terms
  pub table : Hypotheses
  pub checkers : List CheckerState

-- The checker of the hypothesis of a number represents its steps so far, each judged by the first events of this log.
pub record HasChecker (basis : RoundBasis) (log : Logbook) (state : HypothesesState) (number : ℕ) (hypothesis : Hypothesis) : Type 0 where
  pub checker : CheckerState
  pub at : slice_get state.checkers number ≡ Some checker
  pub reach : slice_get state.table.reaches number ≡ Some checker.reach
  pub represents : CheckerRepresents basis.graph (log_for log hypothesis) checker (basis.steps number)

-- What is kept is of this basis, whose steps were judged by the first events of this log.
pub record KeepsBasis (basis : RoundBasis) (log : Logbook) (state : HypothesesState) : Type 0 where
  pub terms : state.terms ≡ basis.terms
  pub table : IsTableOf basis.graph basis.terms state.table
  pub hypotheses : state.table.hypotheses ≡ basis.hypotheses
  pub one_each : length state.checkers ≡ length basis.hypotheses
  pub each : (number : ℕ) (hypothesis : Hypothesis) → slice_get basis.hypotheses number ≡ Some hypothesis
      → HasChecker basis log state number hypothesis
