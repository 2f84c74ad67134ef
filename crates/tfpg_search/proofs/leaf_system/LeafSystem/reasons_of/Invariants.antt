-- The reasons of the tags so far.
use Rattle.std.proofs.Common.{◌≡◌, map, take}
use Rattle.tfpg_search.specs.inside.KeptReasons.{reason_or}
use Rattle.tfpg_search.proofs.leaf_system.LeafSystem.reasons_of.Given as goal

abbrev pub invariant-loop-why : goal.invariant-loop-why
invariant-loop-why l = l.list.items ≡ map (reason_or l.self.reasons l.tag l.adding) (take l.why-index l.cycle)
