-- The blank is the ledger.
use Rattle.tfpg_evidence_tests.proofs.whatif.a_line_shows_what_was_worked_out.Given as goal

abbrev pub ghosts-first_wrong : goal.ghosts-first_wrong
ghosts-first_wrong g a = record { name = a.blank.name; parts = a.blank.parts }
