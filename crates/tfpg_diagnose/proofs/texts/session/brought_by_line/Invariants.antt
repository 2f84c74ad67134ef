-- The blank is the ledger.
use Rattle.tfpg_diagnose.proofs.texts.session.brought_by_line.Given as goal

abbrev pub ghosts-brought_counted : goal.ghosts-brought_counted
ghosts-brought_counted a = record { name = a.blank.name; parts = a.blank.parts }
