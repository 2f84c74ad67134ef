-- The blank is the ledger.
use Rattle.tfpg_model_tests.proofs.diff.a_cycle_of_three_exactly_where_the_second_may_not_be_9.Given as goal

abbrev pub ghosts-second_after_first : goal.ghosts-second_after_first
ghosts-second_after_first g a = record { name = a.blank.name; parts = a.blank.parts }
