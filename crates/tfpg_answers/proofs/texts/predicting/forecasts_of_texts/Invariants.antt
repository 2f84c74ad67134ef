-- The blank is the ledger.
use Rattle.tfpg_answers.proofs.texts.predicting.forecasts_of_texts.Given as goal

abbrev pub ghosts-forecasts_counted : goal.ghosts-forecasts_counted
ghosts-forecasts_counted a = record { name = a.blank.name; parts = a.blank.parts }
