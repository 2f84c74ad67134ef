use Rattle.std.proofs.Common.{◌≡◌, ◌++◌, codes, map, filter, take}
use Rattle.tfpg_evidence.specs.RoundOf.{is_open}
use Rattle.tfpg_json.specs.RoundData.{set_data}
use Rattle.tfpg_json.specs.inside.Tokens.{each_tokens}
use Rattle.tfpg_json.proofs.lemmas.TokensWritten.{begun}
use Rattle.tfpg_json.proofs.writing.from_round.append_open.Given as goal

-- the sets of the open hypotheses so far are written
abbrev pub invariant-loop-finding : goal.invariant-loop-finding
invariant-loop-finding l =
    (l.into.before ≡ l.fn.into.before)
    × (l.into.tokens ≡ begun l.fn.into.tokens (codes "open")
    ++ each_tokens (map (set_data l.graph) (filter (λ finding. is_open finding.status) (take l.finding-index l.findings))))
