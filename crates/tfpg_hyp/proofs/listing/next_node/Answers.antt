use Rattle.std.proofs.Common.{◌<◌, All, sym, subst, ap, ◌∙◌, arith}
use Rattle.std.proofs.lemmas.List.Elements.{All-head, All-tail}
use Rattle.tfpg_base.specs.declared.limits.TheConstants.{MAX_NODE_NUMBERS}
use Rattle.tfpg_hyp.specs.inside.Larger.{next_after}
use Rattle.tfpg_hyp.proofs.listing.next_node.Goals as goal

pub overflow_add-next : goal.overflow_add-next
overflow_add-next c =
    omega (arith, All-head (λ n. n < MAX_NODE_NUMBERS) c.in-Some.parts.0 c.in-Some.parts.1 (subst (All (λ n. n < MAX_NODE_NUMBERS)) c.in-Some.ensures c.loop-parts.invariant.small))

pub loop-parts-preserved : goal.loop-parts-preserved
loop-parts-preserved c = record {
  next_is = c.loop-parts.invariant.next_is ∙ ap (next_after c.loop-parts.next) c.in-Some.ensures;
  small = All-tail (λ n. n < MAX_NODE_NUMBERS) c.in-Some.parts.0 c.in-Some.parts.1 (subst (All (λ n. n < MAX_NODE_NUMBERS)) c.in-Some.ensures c.loop-parts.invariant.small);
}

pub returns : goal.returns
returns c = sym (c.loop-parts.invariant.next_is ∙ ap (next_after c.loop-parts.next) c.in_default.ensures)
