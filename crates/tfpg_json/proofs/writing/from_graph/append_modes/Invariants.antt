use Rattle.std.proofs.Common.{◌≡◌, ◌++◌, codes, map, take}
use Rattle.serde_json.specs.Data.{string}
use Rattle.tfpg_json.specs.inside.Tokens.{each_tokens}
use Rattle.tfpg_json.proofs.lemmas.TokensWritten.{begun}
use Rattle.tfpg_json.proofs.writing.from_graph.append_modes.Given as goal

-- the names of the modes so far are written
abbrev pub invariant-loop-mode : goal.invariant-loop-mode
invariant-loop-mode l =
    (l.into.before ≡ l.fn.into.before) × (l.into.tokens ≡ begun l.fn.into.tokens (codes "modes") ++ each_tokens (map string (take l.mode l.graph.modes)))
