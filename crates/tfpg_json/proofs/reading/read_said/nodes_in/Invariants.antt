use Rattle.std.proofs.Common.{◌≡◌, map, take, Some}
use Rattle.tfpg_base.specs.Choice.{each_of}
use Rattle.tfpg_json.specs.GraphSaid.{node_in}
use Rattle.tfpg_json.proofs.lemmas.ListsRead.{read_value}
use Rattle.tfpg_json.proofs.reading.read_said.nodes_in.Given as goal

-- the nodes so far are read
abbrev pub invariant-loop-item : goal.invariant-loop-item
invariant-loop-item l = each_of (map (read_value node_in l.item-items) (take l.item-index l.item-items)) ≡ Some l.nodes
