-- One more variable.
use Rattle.std.proofs.Common.{◌≡◌, ℕ, suc, ◌+◌, List, ◌∷◌, ◌++◌, [], sym, ◌∙◌, ap, arith, zero-add}
use Rattle.tfpg_diff.specs.VariableBounds.{VariableBounds}
use Rattle.tfpg_diff.specs.SystemState.{widest, unbounded_from}
use Rattle.tfpg_diff.proofs.lemmas.Fresh.{unbounded_from-more}
use Rattle.tfpg_diff.proofs.bounds.unbounded.Goals as goal

-- the bounds with one more variable
more : (before after : List VariableBounds) (new : VariableBounds) (count : ℕ) → after ≡ before ++ new ∷ [] → before ≡ unbounded_from 0 count → new ≡ widest count →
    after ≡ unbounded_from 0 (count + 1)
more before after new count pushed is widest_is =
    let next : count + 1 ≡ suc count = omega arith in
    pushed
    ∙ ap (λ (bs : List VariableBounds). bs ++ new ∷ []) is
    ∙ ap (λ (b : VariableBounds). unbounded_from 0 count ++ b ∷ []) (widest_is ∙ ap widest (sym (zero-add count)))
    ∙ sym (ap (unbounded_from 0) next ∙ unbounded_from-more 0 count)

pub loop-variable-preserved : goal.loop-variable-preserved
loop-variable-preserved c =
    more c.loop-variable.bounds.items c.push.new.self.items c.widest_bounds.result c.loop-variable.variable
    c.in_ok-push.ensures.items c.loop-variable.invariant c.widest_bounds.ensures
