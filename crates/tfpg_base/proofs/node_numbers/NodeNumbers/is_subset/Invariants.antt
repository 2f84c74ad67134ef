use Rattle.tfpg_base.proofs.lemmas.NodeSets.{KeepsBits}
use Rattle.tfpg_base.proofs.node_numbers.NodeNumbers.is_subset.Given as goal

abbrev pub invariant-loop-number : goal.invariant-loop-number
invariant-loop-number l = KeepsBits l.self-inside.words l.of-inside.words l.number
