-- What outcomes and questions say of the rounds and logs to come.
use Rattle.std.specs.Prelude.{◌≡◌, ◌≤◌, ◌+◌, ℕ, List, count_by, IsTrue, false, Some, slice_get}
use Rattle.tfpg_base.specs.Hypothesis.{Hypothesis}
use Rattle.tfpg_base.specs.declared.activation.Activation.{Activation}
use Rattle.tfpg_graph.specs.Graph.{Tfpg}
use Rattle.tfpg_log.specs.Log.{Logbook, GoesOn, IsLogOf, IsOrdered}
use Rattle.tfpg_evidence.specs.declared.round.Round.{Round}
use Rattle.tfpg_evidence.specs.declared.step.Step.{Step}
use Rattle.tfpg_evidence.specs.RoundOf.{is_rejected}
use Rattle.tfpg_hyp.specs.Rounds.{IsRound, HasNoneOpen}
use Rattle.tfpg_hyp.specs.Views.{HypothesisFits}
use Rattle.tfpg_search.specs.Enough.{IsEnough}
use Rattle.tfpg_engine.specs.Work.{has_status}
use Rattle.tfpg_whatif.specs.declared.outcome.Outcome.{Outcome}
use Rattle.tfpg_whatif.specs.declared.outcome.Outcome.TheVariants.{Fits, Out}
use Rattle.tfpg_whatif.specs.declared.question.Question.{Question}
use Rattle.tfpg_whatif.specs.Outcomes.{Asked, asked_at, is_out, is_unknown, Keeps}
use Rattle.tfpg_whatif.specs.Questions.{after_silence, after_alarm}

-- The hypothesis fits no log that goes on from this one, nor this one.
abbrev pub FitsNoLaterLog : Tfpg → Logbook → Hypothesis → Type 0
FitsNoLaterLog graph log hypothesis =
    (later : Logbook) → IsLogOf graph later → IsOrdered later → GoesOn log later → HypothesisFits graph later hypothesis → ⊥

-- a round of the log at which is asked, whatever the rounds before it were
pub record IsRoundOfLog (asked : Asked) (round : Round) : Type 0 where
  pub line : ℕ
  pub before : List Round
  pub is : IsRound asked.graph asked.terms before asked.log line round

-- No round of the log rejects the hypothesis of the number.
abbrev pub IsNeverRejected : Asked → ℕ → Type 0
IsNeverRejected asked number =
    (round : Round) → IsRoundOfLog asked round → IsTrue (has_status is_rejected number round) → ⊥

-- What the outcomes say: one that is out fits no later log; one that fits is never rejected; and of those that are not unknown a
-- round without an open hypothesis rejects exactly those that are out.
pub record ForeseeRounds (asked : Asked) (outcomes : List Outcome) : Type 0 where
  pub out : (index number : ℕ) (hypothesis : Hypothesis) (steps : List Step) → slice_get asked.among index ≡ Some number
      → slice_get asked.hypotheses number ≡ Some hypothesis → slice_get outcomes index ≡ Some (Out steps)
      → FitsNoLaterLog asked.graph asked.log hypothesis
  pub fits : (index number : ℕ) (trace : List Activation) → slice_get asked.among index ≡ Some number
      → slice_get outcomes index ≡ Some (Fits trace) → IsNeverRejected asked number
  pub exact : (round : Round) → IsRoundOfLog asked round → HasNoneOpen round → (index number : ℕ) (outcome : Outcome)
      → slice_get asked.among index ≡ Some number → slice_get outcomes index ≡ Some outcome → is_unknown outcome ≡ false
      → is_out outcome ≡ has_status is_rejected number round

-- What the outcomes after a line say of its hypotheses: one that has a trace keeps, and one that is out falls.
pub record SayWhichKeep (asked : Asked) (line : List ℕ) (outcomes : List Outcome) : Type 0 where
  pub fits : (index number : ℕ) (hypothesis : Hypothesis) (trace : List Activation) → slice_get asked.among index ≡ Some number
      → slice_get asked.hypotheses number ≡ Some hypothesis → slice_get outcomes index ≡ Some (Fits trace)
      → Keeps asked.graph asked.log line hypothesis
  pub out : (index number : ℕ) (hypothesis : Hypothesis) (steps : List Step) → slice_get asked.among index ≡ Some number
      → slice_get asked.hypotheses number ≡ Some hypothesis → slice_get outcomes index ≡ Some (Out steps)
      → Keeps asked.graph asked.log line hypothesis → ⊥

-- how many of those asked about the round rejects
abbrev pub rejected_among : Asked → Round → ℕ
rejected_among asked round = count_by (λ number. has_status is_rejected number round) asked.among

-- Each round of the log that has no open hypothesis rejects at least so many, and at most as many more as are unknown.
abbrev pub CountsRejected : Asked → ℕ → ℕ → Type 0
CountsRejected asked unknown out =
    (round : Round) → IsRoundOfLog asked round → HasNoneOpen round
    → (out ≤ rejected_among asked round) × (rejected_among asked round ≤ out + unknown)

-- What a question says: how many hypotheses a round rejects after each of the two answers.
pub record ForeseesRounds (asked : Asked) (question : Question) : Type 0 where
  pub silent : CountsRejected (asked_at asked (after_silence asked.log question.node)) question.unknown question.silent_out
  pub alarm : CountsRejected (asked_at asked (after_alarm asked.log question.node)) question.unknown question.alarm_out

-- Nothing is unknown if the budget is always enough after each of the two answers.
abbrev pub IsKnownIfEnough : Asked → Question → Type 0
IsKnownIfEnough asked question =
    IsEnough asked.graph (after_silence asked.log question.node) asked.budget
    → IsEnough asked.graph (after_alarm asked.log question.node) asked.budget → question.unknown ≡ 0
