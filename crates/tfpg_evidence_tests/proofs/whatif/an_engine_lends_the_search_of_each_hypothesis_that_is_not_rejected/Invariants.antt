-- The blank is the ledger.
use Rattle.tfpg_evidence_tests.proofs.whatif.an_engine_lends_the_search_of_each_hypothesis_that_is_not_rejected.Given as goal

abbrev pub ghosts-lent_around : goal.ghosts-lent_around
ghosts-lent_around g a = record { name = a.blank.name; parts = a.blank.parts }
