-- What a call comes to that asks what a handle holds, and leaves it as it was.
use Rattle.std.specs.Prelude.{Option, Some, None}
use Rattle.tfpg_diagnose.specs.texts.Sessions.{SessionState}
use Rattle.tfpg_embed.specs.declared.answer.TfpgAnswer.{TfpgAnswer}
use Rattle.tfpg_embed.specs.declared.session.open_session.OpenSession.{OpenSession}
use Rattle.tfpg_embed.specs.declared.status.TheConstants.{ENDED}
use Rattle.tfpg_embed.specs.Answers.{answer_with}

-- the answer: what it is for an open session, or that there is none
abbrev pub answer_of_open : (SessionState → TfpgAnswer) → Option OpenSession → TfpgAnswer
answer_of_open answer None = answer_with ENDED
answer_of_open answer (Some one) = answer one.session

-- what stands where the call writes: what an open session makes of what stood there, and else that
abbrev pub left_by_open : {T : Type 0} → (SessionState → T → T) → Option OpenSession → T → T
left_by_open writes None before = before
left_by_open writes (Some one) before = writes one.session before
