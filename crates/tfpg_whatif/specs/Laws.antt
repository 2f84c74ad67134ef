-- What the laws of this crate say, each by its name.
use Rattle.std.specs.Prelude.{◌<◌, List, length, All}
use Rattle.tfpg_graph.specs.Valid.{IsValid}
use Rattle.tfpg_log.specs.Log.{IsLogOf, IsOrdered}
use Rattle.tfpg_hyp.specs.Table.{IsTable}
use Rattle.tfpg_whatif.specs.declared.outcome.Outcome.{Outcome}
use Rattle.tfpg_whatif.specs.declared.question.Question.{Question}
use Rattle.tfpg_whatif.specs.Outcomes.{Asked, AreOutcomes}
use Rattle.tfpg_whatif.specs.Questions.{IsQuestion}
use Rattle.tfpg_whatif.specs.Foresight.{ForeseeRounds, ForeseesRounds}

-- What is asked makes sense: the graph is valid, the log is one of it, and the numbers are those of hypotheses on the terms.
pub record IsWellAsked (asked : Asked) : Type 0 where
  pub valid : IsValid asked.graph
  pub of : IsLogOf asked.graph asked.log
  pub ordered : IsOrdered asked.log
  pub table : IsTable asked.graph asked.terms asked.hypotheses
  pub among : All (λ number. number < length asked.hypotheses) asked.among

-- Outcomes foresee rounds.
abbrev pub OutcomesForeseeRounds : Type 0
OutcomesForeseeRounds =
    (asked : Asked) (outcomes : List Outcome) → IsWellAsked asked → AreOutcomes asked outcomes
    → ForeseeRounds asked outcomes

-- Questions foresee rounds.
abbrev pub QuestionsForeseeRounds : Type 0
QuestionsForeseeRounds =
    (asked : Asked) (question : Question) → IsWellAsked asked → IsQuestion asked question
    → ForeseesRounds asked question
