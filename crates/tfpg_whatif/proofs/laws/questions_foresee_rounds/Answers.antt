use Rattle.tfpg_whatif.proofs.lemmas.Rounds.{question_foresees}
use Rattle.tfpg_whatif.proofs.laws.questions_foresee_rounds.Goals as goal

pub returns : goal.returns
returns c = λ asked question well is. question_foresees c.outcomes_foresee_rounds.ensures asked question well is
