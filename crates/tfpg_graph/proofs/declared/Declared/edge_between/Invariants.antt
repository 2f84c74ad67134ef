use Rattle.std.proofs.Common.{◌≡◌, drop, find}
use Rattle.tfpg_graph.specs.Graph.{edge_from_to}
use Rattle.tfpg_graph.proofs.lemmas.declaring.Leaving.{is_leaving}
use Rattle.tfpg_graph.proofs.declared.Declared.edge_between.Given as goal

abbrev pub invariant-loop-number : goal.invariant-loop-number
invariant-loop-number l = find (is_leaving l.self l.source) (drop l.number-index l.number-items) ≡ edge_from_to l.self l.source l.target
