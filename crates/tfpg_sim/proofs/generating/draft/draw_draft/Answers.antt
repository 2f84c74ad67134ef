use Rattle.std.proofs.Common.{ℕ, ◌+◌, [], ◌∷◌, ◌++◌, sym, ap, ◌∙◌, add-one}
use Rattle.rand_pcg.specs.Lcg.{Lcg}
use Rattle.tfpg_sim.specs.Generated.{kind_drawn, edges_drawn, after_node, draft_after}
use Rattle.tfpg_sim.specs.declared.limits.TheConstants.{FAILURE_COUNT}
use Rattle.tfpg_sim.proofs.generating.draft.draw_draft.Goals as goal

pub loop-index-preserved : goal.loop-index-preserved
loop-index-preserved c =
    let before = c.loop-index.invariant in
    let index : ℕ = c.loop-index.index in
    let start : Lcg = c.args.state.now in
    let kind = c.in_ok-kind.ensures.kind ∙ ap (kind_drawn (FAILURE_COUNT + index)) before.state in
    record {
      kinds = c.in_ok-push.ensures.items ∙ (λ i. before.kinds i ++ kind i ∷ []) ∙ ap (λ n. (draft_after start n).kinds) (sym (add-one index));
      edges = c.in_ok-kind.ensures.edges ∙ (λ i. before.edges i ++ edges_drawn (FAILURE_COUNT + index) (before.state i)) ∙ ap (λ n. (draft_after start n).edges) (sym (add-one index));
      state = c.in_ok-kind.ensures.after ∙ ap (after_node (FAILURE_COUNT + index)) before.state ∙ ap (λ n. (draft_after start n).state) (sym (add-one index));
    }
