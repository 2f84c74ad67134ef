-- So many slots so far.
use Rattle.std.proofs.Common.{◌≡◌, replicate}
use Rattle.tfpg_engine.specs.declared.slot.Slot.TheVariants.{Untouched}
use Rattle.tfpg_engine.proofs.engine.untouched.Given as goal

abbrev pub invariant-loop : goal.invariant-loop
invariant-loop l = l.slots.items ≡ replicate l.counter Untouched
