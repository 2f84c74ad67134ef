-- The blank is the ledger.
use Rattle.tfpg_model_tests.proofs.diff.a_contradiction_by_one_near_the_greatest_time.Given as goal

abbrev pub ghosts-off_by_one : goal.ghosts-off_by_one
ghosts-off_by_one g a = record { name = a.blank.name; parts = a.blank.parts }
