use Rattle.std.proofs.Common.{◌≡◌, map, drop}
use Rattle.tfpg_graph.specs.Causes.{has_twice}
use Rattle.tfpg_graph.proofs.reading.list_modes.has_twice.Given as goal

abbrev pub invariant-loop-index : goal.invariant-loop-index
invariant-loop-index l = has_twice (map (λ name. name.now) l.names) ≡ has_twice (map (λ name. name.now) (drop l.index l.names))
