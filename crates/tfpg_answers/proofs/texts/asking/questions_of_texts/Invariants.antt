-- The blank is the ledger.
use Rattle.tfpg_answers.proofs.texts.asking.questions_of_texts.Given as goal

abbrev pub ghosts-questions_counted : goal.ghosts-questions_counted
ghosts-questions_counted a = record { name = a.blank.name; parts = a.blank.parts }
