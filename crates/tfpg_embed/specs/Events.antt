-- What comes of an event that is given by numbers.
use Rattle.std.specs.Prelude.{◌≡◌, ℕ, List, [], Option, Some, None}
use Rattle.tfpg_embed.specs.declared.answer.TfpgAnswer.{TfpgAnswer}
use Rattle.tfpg_embed.specs.declared.session.open_session.OpenSession.{OpenSession}
use Rattle.tfpg_embed.specs.EventLines.{line_of_event}
use Rattle.tfpg_embed.specs.Sessions.{AnswersLine}

-- the line of that event, for the graph of the session that a handle holds
abbrev pub event_line_for : Option OpenSession → ℕ → ℕ → ℕ → List ℕ
event_line_for None time kind index = []
event_line_for (Some one) time kind index = line_of_event one.session.engine.graph time kind index

-- An event was given to what the handle held: what came of it is what comes of its line, and the answer has the same status.
pub record AnswersEvent (line : List ℕ) (old new : Option OpenSession) (answer : TfpgAnswer) : Type 0 where
  pub line_answer : TfpgAnswer
  pub answers : AnswersLine line old new line_answer
  pub status_is : answer ≡ record line_answer { count = 0 }
