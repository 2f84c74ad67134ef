use Rattle.std.proofs.Common.{map, drop}
use Rattle.tfpg_graph.proofs.lemmas.reading.causes.NewModes.{AreLeft}
use Rattle.tfpg_graph.proofs.reading.list_modes.bits_of_names.Given as goal

abbrev pub invariant-loop-name : goal.invariant-loop-name
invariant-loop-name l =
    AreLeft l.declared (map (λ name. name.now) l.names) l.modes (map (λ name. name.now) (drop l.name-index l.names))
