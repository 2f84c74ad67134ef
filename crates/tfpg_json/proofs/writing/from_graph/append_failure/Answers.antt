use Rattle.std.proofs.Common.{[], ◌∷◌, ◌++◌, codes}
use Rattle.json.specs.Token.{begin_object, end_object}
use Rattle.serde_json.specs.Data.{string}
use Rattle.tfpg_json.specs.GraphData.{whole}
use Rattle.tfpg_json.specs.inside.Tokens.{member_tokens}
use Rattle.tfpg_json.proofs.lemmas.TokensWritten.{written_first, written_last}
use Rattle.tfpg_json.proofs.writing.from_graph.append_failure.Goals as goal

pub returns-clause-ok : goal.returns-clause-ok
returns-clause-ok c =
    let kind = member_tokens (codes "kind") (string (codes "failure")) in
    let name = member_tokens (codes "name") (string c.args.name.now) in
    let rarity = member_tokens (codes "rarity") (whole c.args.rarity) in
    written_last c.end_object.result _ _ _ (begin_object ∷ (kind ++ (name ++ rarity))) (end_object ∷ [])
    (written_first _ _ _ (begin_object ∷ []) (kind ++ (name ++ rarity)) c.in_ok-begin_object.ensures.ok
    (written_first _ _ _ kind (name ++ rarity) c.in_ok-append_text.ensures.ok
    (written_first _ _ _ name rarity c.in_ok-append_text-2.ensures.ok c.in_ok-append_number.ensures.ok)))
    c.end_object.ensures.ok
