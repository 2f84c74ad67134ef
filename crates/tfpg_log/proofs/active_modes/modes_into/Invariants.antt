use Rattle.std.proofs.Common.{◌≡◌, ℕ, take}
use Rattle.tfpg_log.specs.inside.ActiveModes.{has_mode}
use Rattle.tfpg_log.proofs.lemmas.changes.ModesInto.{are_active_in}
use Rattle.tfpg_log.proofs.active_modes.modes_into.Given as goal

abbrev pub invariant-loop-number : goal.invariant-loop-number
invariant-loop-number l = (mode : ℕ) → has_mode l.modes mode ≡ are_active_in l.graph.edges (take l.number-index l.incoming) mode
