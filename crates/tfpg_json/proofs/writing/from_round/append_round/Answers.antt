use Rattle.std.proofs.Common.{[], ◌∷◌, ◌++◌, codes, ap, ◌∙◌}
use Rattle.json.specs.Token.{begin_object, end_object}
use Rattle.tfpg_json.specs.GraphData.{whole}
use Rattle.tfpg_json.specs.RoundData.{counts_data}
use Rattle.tfpg_json.specs.inside.Tokens.{member_tokens}
use Rattle.tfpg_json.proofs.lemmas.TokensWritten.{written_first, open_member, ranked_member, rejected_member, after_open, round_tokens_are}
use Rattle.tfpg_json.proofs.writing.from_round.append_round.Goals as goal

pub returns-clause-ok : goal.returns-clause-ok
returns-clause-ok c =
    let graph = c.args.graph.now in
    let round = c.args.round.now in
    let findings = c.as_slice-findings.result.now in
    let order = c.as_slice.result.now in
    let counts = member_tokens (codes "counts") (counts_data round.counts) in
    let line = member_tokens (codes "line") (whole round.line) in
    let now = member_tokens (codes "now") (whole round.now) in
    let opened = open_member graph round findings order in
    let ranked = ranked_member graph round findings order in
    let rejected = rejected_member graph round findings order in
    let rest = after_open graph round findings order in
    let last = member_tokens (codes "round") (whole round.number) in
    let end = end_object ∷ [] in
    written_first _ _ _ (begin_object ∷ []) (counts ++ (line ++ (now ++ (opened ++ rest)))) c.in_ok-begin_object.ensures.ok
    (written_first _ _ _ counts (line ++ (now ++ (opened ++ rest))) c.in_ok-append_counts.ensures.ok
    (written_first _ _ _ line (now ++ (opened ++ rest)) c.in_ok-append_number.ensures.ok
    (written_first _ _ _ now (opened ++ rest) c.in_ok-append_number-2.ensures.ok
    (written_first _ _ _ opened rest c.in_ok-append_open.ensures.ok
    (written_first _ _ _ ranked (rejected ++ (last ++ end)) c.in_ok-append_ranked.ensures.ok
    (written_first _ _ _ rejected (last ++ end) c.in_ok-append_rejected.ensures.ok
    (written_first _ _ _ last end c.in_ok-append_count.ensures.ok c.in_ok-end_object.ensures.ok)))))))
    ∙ ap (λ ts. c.args.into.now.tokens ++ ts) (round_tokens_are graph round findings order c.as_slice-findings.ensures c.as_slice.ensures)
