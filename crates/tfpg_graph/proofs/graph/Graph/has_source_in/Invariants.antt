use Rattle.std.proofs.Common.{All, take}
use Rattle.tfpg_graph.proofs.lemmas.reach.Sources.{HasNoSourceIn}
use Rattle.tfpg_graph.proofs.graph.Graph.has_source_in.Given as goal

abbrev pub invariant-loop-number : goal.invariant-loop-number
invariant-loop-number l = All (HasNoSourceIn l.self l.nodes) (take l.number-index l.number-items)
