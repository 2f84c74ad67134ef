-- The blank is the ledger.
use Rattle.tfpg_rows.proofs.made.make_run.Given as goal

abbrev pub ghosts-run_counted : goal.ghosts-run_counted
ghosts-run_counted a = record { name = a.blank.name; parts = a.blank.parts }
