use Rattle.std.proofs.Common.{◌≡◌, ◌<◌, ℕ, List, ◌∷◌, ◌++◌, length, map, ap, subst, ◌∙◌}
use Rattle.std.proofs.lemmas.List.Elements.{All-tail}
use Rattle.serde_json.specs.Data.{string}
use Rattle.tfpg_graph.specs.Graph.{AreFailures, failure_word, failures}
use Rattle.tfpg_json.specs.inside.Tokens.{data_tokens}
use Rattle.tfpg_json.proofs.lemmas.TokensWritten.{item_left, none_left}
use Rattle.tfpg_json.proofs.writing.from_round.append_failures.Goals as goal

pub loop-parts-preserved : goal.loop-parts-preserved
loop-parts-preserved c =
    let word : ℕ → List ℕ = failure_word c.args.graph.now in
    let left : List ℕ = c.loop-parts.left in
    let splits : left ≡ c.in-Some.parts.0 ∷ c.in-Some.parts.1 = c.in-Some.ensures in
    record {
      before = c.in_ok-string.ensures.room.0 ∙ c.loop-parts.invariant.before;
      tokens = item_left c.loop-parts.into.tokens _ _ (map string (map word left)) (string (word c.in-Some.parts.0)) (map string (map word c.in-Some.parts.1))
          (ap (λ (ms : List ℕ). map string (map word ms)) splits) c.loop-parts.invariant.tokens
          (c.in_ok-string.ensures.ok ∙ ap (λ (name : List ℕ). c.loop-parts.into.tokens ++ data_tokens (string name)) c.failure_name.ensures);
      within = All-tail (λ position. position < length (failures c.args.graph.now)) c.in-Some.parts.0 c.in-Some.parts.1
          (subst (AreFailures c.args.graph.now) splits c.loop-parts.invariant.within);
    }

pub returns-clause-ok : goal.returns-clause-ok
returns-clause-ok c =
    none_left c.loop-parts.into.tokens _ (map string (map (failure_word c.args.graph.now) c.loop-parts.left))
    (ap (λ (ms : List ℕ). map string (map (failure_word c.args.graph.now) ms)) c.in_default.ensures) c.loop-parts.invariant.tokens
