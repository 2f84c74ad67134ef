use Rattle.std.proofs.Common.{◌≡◌, ◌++◌, codes, map, take}
use Rattle.tfpg_json.specs.GraphData.{edge_data}
use Rattle.tfpg_json.specs.inside.Tokens.{each_tokens}
use Rattle.tfpg_json.proofs.lemmas.TokensWritten.{begun}
use Rattle.tfpg_json.proofs.writing.from_graph.append_edges.Given as goal

-- the edges so far are written
abbrev pub invariant-loop-number : goal.invariant-loop-number
invariant-loop-number l =
    (l.into.before ≡ l.fn.into.before) × (l.into.tokens ≡ begun l.fn.into.tokens (codes "edges") ++ each_tokens (map (edge_data l.graph) (take l.number l.graph.edges)))
