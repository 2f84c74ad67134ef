-- The blank is the ledger.
use Rattle.tfpg_evidence_tests.proofs.fleet.each_vehicle_has_the_log_of_its_own_lines.Given as goal

abbrev pub ghosts-event_counts_alone : goal.ghosts-event_counts_alone
ghosts-event_counts_alone g a = record { name = a.blank.name; parts = a.blank.parts }
