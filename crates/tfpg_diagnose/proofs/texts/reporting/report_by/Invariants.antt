-- The blank is the ledger.
use Rattle.tfpg_diagnose.proofs.texts.reporting.report_by.Given as goal

abbrev pub ghosts-report_counted : goal.ghosts-report_counted
ghosts-report_counted a = record { name = a.blank.name; parts = a.blank.parts }
