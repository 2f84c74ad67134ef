-- The blank is the ledger.
use Rattle.tfpg_model_tests.proofs.diff.a_copy_has_the_solution_and_goes_on_by_itself.Given as goal

abbrev pub ghosts-copied : goal.ghosts-copied
ghosts-copied g a = record { name = a.blank.name; parts = a.blank.parts }
