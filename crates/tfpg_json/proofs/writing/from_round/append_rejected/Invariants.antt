use Rattle.std.proofs.Common.{◌≡◌, ◌++◌, codes, map, filter, take}
use Rattle.tfpg_evidence.specs.Findings.{is_rejected_now}
use Rattle.tfpg_json.specs.RoundData.{set_data}
use Rattle.tfpg_json.specs.inside.Tokens.{each_tokens}
use Rattle.tfpg_json.proofs.lemmas.TokensWritten.{begun}
use Rattle.tfpg_json.proofs.writing.from_round.append_rejected.Given as goal

-- the sets of the hypotheses so far that this round rejected are written
abbrev pub invariant-loop-finding : goal.invariant-loop-finding
invariant-loop-finding l =
    (l.into.before ≡ l.fn.into.before)
    × (l.into.tokens ≡ begun l.fn.into.tokens (codes "rejected") ++ each_tokens (map (set_data l.graph) (filter is_rejected_now (take l.finding-index l.findings))))
