use Rattle.std.proofs.Common.{◌≡◌, ◌++◌, codes, map, take}
use Rattle.tfpg_json.specs.GraphData.{kind_data}
use Rattle.tfpg_json.specs.inside.Tokens.{each_tokens}
use Rattle.tfpg_json.proofs.lemmas.TokensWritten.{begun}
use Rattle.tfpg_json.proofs.writing.from_graph.append_nodes.Given as goal

-- the nodes so far are written
abbrev pub invariant-loop-node : goal.invariant-loop-node
invariant-loop-node l =
    (l.into.before ≡ l.fn.into.before) × (l.into.tokens ≡ begun l.fn.into.tokens (codes "nodes") ++ each_tokens (map (λ node. kind_data node.name node.kind) (take l.node l.graph.nodes)))
