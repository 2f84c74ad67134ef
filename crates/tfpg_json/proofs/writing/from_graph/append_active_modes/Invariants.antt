use Rattle.std.proofs.Common.{◌≡◌, ◌++◌, codes, map}
use Rattle.serde_json.specs.Data.{string}
use Rattle.tfpg_graph.specs.inside.writing.Written.{mode_names_before}
use Rattle.tfpg_json.specs.inside.Tokens.{each_tokens}
use Rattle.tfpg_json.proofs.lemmas.TokensWritten.{begun}
use Rattle.tfpg_json.proofs.writing.from_graph.append_active_modes.Given as goal

-- the names of the edge's modes before this one are written
abbrev pub invariant-loop-mode : goal.invariant-loop-mode
invariant-loop-mode l =
    (l.into.before ≡ l.fn.into.before) × (l.into.tokens ≡ begun l.fn.into.tokens (codes "modes") ++ each_tokens (map string (mode_names_before l.graph l.edge.modes l.mode)))
