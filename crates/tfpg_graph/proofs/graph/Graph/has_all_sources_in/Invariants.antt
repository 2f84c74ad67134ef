use Rattle.std.proofs.Common.{All, take}
use Rattle.tfpg_graph.proofs.lemmas.reach.Sources.{HasItsSourceIn}
use Rattle.tfpg_graph.proofs.graph.Graph.has_all_sources_in.Given as goal

abbrev pub invariant-loop-number : goal.invariant-loop-number
invariant-loop-number l = All (HasItsSourceIn l.self l.nodes) (take l.number-index l.number-items)
