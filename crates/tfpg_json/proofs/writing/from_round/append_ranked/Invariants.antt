use Rattle.std.proofs.Common.{◌≡◌, ◌++◌, codes, filter_map, take}
use Rattle.tfpg_evidence.specs.Findings.{findings_at}
use Rattle.tfpg_json.specs.RoundData.{ranked_data}
use Rattle.tfpg_json.specs.inside.Tokens.{each_tokens}
use Rattle.tfpg_json.proofs.lemmas.TokensWritten.{begun}
use Rattle.tfpg_json.proofs.writing.from_round.append_ranked.Given as goal

-- the ranked hypotheses of the numbers so far are written
abbrev pub invariant-loop-number : goal.invariant-loop-number
invariant-loop-number l =
    (l.into.before ≡ l.fn.into.before)
    × (l.into.tokens ≡ begun l.fn.into.tokens (codes "ranked")
    ++ each_tokens (filter_map (λ finding. ranked_data l.graph finding finding.status) (findings_at l.findings (take l.number-index l.order))))
