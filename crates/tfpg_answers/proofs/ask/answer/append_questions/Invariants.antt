use Rattle.std.proofs.Common.{◌≡◌, ◌++◌, take}
use Rattle.std.specs.List.{flat_map}
use Rattle.tfpg_answers.specs.Questions.{question_line}
use Rattle.tfpg_answers.proofs.ask.answer.append_questions.Given as goal

-- the lines of the questions so far stand after the old bytes
abbrev pub invariant-loop-question : goal.invariant-loop-question
invariant-loop-question l = l.into.items ≡ l.fn.into.items ++ flat_map (question_line l.graph) (take l.question-index l.questions)
