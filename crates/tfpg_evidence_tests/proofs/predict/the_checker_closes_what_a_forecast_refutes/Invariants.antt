-- The blank is the ledger.
use Rattle.tfpg_evidence_tests.proofs.predict.the_checker_closes_what_a_forecast_refutes.Given as goal

abbrev pub ghosts-first_wrong : goal.ghosts-first_wrong
ghosts-first_wrong g a = record { name = a.blank.name; parts = a.blank.parts }
