use Rattle.std.proofs.Common.{◌≡◌, take}
use Rattle.tfpg_run.specs.fleet.Answers.{opening_text}
use Rattle.tfpg_run.proofs.fleet.opening.opening_on.Given as goal

-- the names so far have their lines
abbrev pub invariant-loop-name : goal.invariant-loop-name
invariant-loop-name l = l.text.items ≡ opening_text (take l.name-index l.names) l.terms
