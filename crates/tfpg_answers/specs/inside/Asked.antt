-- What a diagnosis must have for its questions, and what they say of it.
use Rattle.std.specs.Prelude.{◌≡◌, ℕ, ◌≤◌, List, [], ◌++◌, length, IfSome}
use Rattle.tfpg_base.specs.Terms.{AreReportTerms}
use Rattle.tfpg_hyp.specs.Hypotheses.{HasHypotheses}
use Rattle.tfpg_hyp.specs.declared.limits.TheConstants.{MAX_HYPOTHESES}
use Rattle.tfpg_whatif.specs.Outcomes.{Asked, asked_of}
use Rattle.tfpg_diagnose.specs.declared.diagnosis.Diagnosis.{Diagnosis}
use Rattle.tfpg_diagnose.specs.Diagnosed.{HasDiagnosed}
use Rattle.tfpg_answers.specs.Questions.{AnswersAsked, first_line, left_by}

-- The last round has a finding for each hypothesis of the table, which has at most 4,096.
pub record CanBeAskedOf (diagnosis : Diagnosis) : Type 0 where
  pub budget : 1 ≤ diagnosis.engine.terms.budget
  pub few : length diagnosis.engine.table.hypotheses ≤ MAX_HYPOTHESES
  pub complete : IfSome diagnosis.last (λ round. length round.findings ≡ length diagnosis.engine.table.hypotheses)

-- The diagnosis has taken no line. Its terms are within their limits, and it has at most 4,096 hypotheses.
pub record IsNewDiagnosis (diagnosis : Diagnosis) : Type 0 where
  pub new : HasDiagnosed diagnosis.engine.graph diagnosis.engine.terms [] diagnosis
  pub within : AreReportTerms diagnosis.engine.terms
  pub few : (count : ℕ) → HasHypotheses diagnosis.engine.graph diagnosis.engine.terms count → count ≤ MAX_HYPOTHESES

-- what is asked after a diagnosis
abbrev pub asked_after : Diagnosis → Asked
asked_after diagnosis = asked_of diagnosis.engine (left_by diagnosis.last) diagnosis.engine.terms.budget

-- What was appended says which questions would tell most.
pub record AppendsAnswer (asked : Asked) (old new : List ℕ) : Type 0 where
  pub answer : List ℕ
  pub answers : AnswersAsked asked answer
  pub appended : new ≡ old ++ answer

-- The text says which questions would tell most after a diagnosis.
pub record SaysQuestionsOf (diagnosis : Diagnosis) (text : List ℕ) : Type 0 where
  pub answer : List ℕ
  pub answers : AnswersAsked (asked_after diagnosis) answer
  pub text_is : text ≡ first_line diagnosis.engine.log diagnosis.last ++ answer
