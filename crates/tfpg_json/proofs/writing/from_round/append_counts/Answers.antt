use Rattle.std.proofs.Common.{[], ◌∷◌, ◌++◌, codes}
use Rattle.json.specs.Token.{begin_object, end_object, key}
use Rattle.tfpg_json.specs.GraphData.{whole}
use Rattle.tfpg_json.specs.inside.Tokens.{member_tokens}
use Rattle.tfpg_json.proofs.lemmas.TokensWritten.{written_first}
use Rattle.tfpg_json.proofs.writing.from_round.append_counts.Goals as goal

pub returns-clause-ok : goal.returns-clause-ok
returns-clause-ok c =
    let counts = c.args.counts in
    let covered = member_tokens (codes "covered") (whole counts.covered) in
    let opened = member_tokens (codes "open") (whole counts.unsettled) in
    let ranked = member_tokens (codes "ranked") (whole counts.ranked) in
    let rejected = member_tokens (codes "rejected") (whole counts.rejected) in
    let end = end_object ∷ [] in
    written_first _ _ _ (key (codes "counts") ∷ []) (begin_object ∷ (covered ++ (opened ++ (ranked ++ (rejected ++ end))))) c.in_ok-key.ensures.ok
    (written_first _ _ _ (begin_object ∷ []) (covered ++ (opened ++ (ranked ++ (rejected ++ end)))) c.in_ok-begin_object.ensures.ok
    (written_first _ _ _ covered (opened ++ (ranked ++ (rejected ++ end))) c.in_ok-append_count.ensures.ok
    (written_first _ _ _ opened (ranked ++ (rejected ++ end)) c.in_ok-append_count-2.ensures.ok
    (written_first _ _ _ ranked (rejected ++ end) c.in_ok-append_count-3.ensures.ok
    (written_first _ _ _ rejected end c.in_ok-append_count-4.ensures.ok c.in_ok-end_object.ensures.ok)))))
