-- The blank is the ledger.
use Rattle.tfpg_model_tests.proofs.diff.small_systems_have_the_solutions_that_trying_all_times_gives.Given as goal

abbrev pub ghosts-solved : goal.ghosts-solved
ghosts-solved g a = record { name = a.blank.name; parts = a.blank.parts }
