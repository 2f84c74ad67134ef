-- The picks before stay the constraints that they were.
use Rattle.std.proofs.Common.{sym, ap, length, ◌∙◌}
use Rattle.tfpg_search.specs.inside.Leaf.{Leaf}
use Rattle.tfpg_search.proofs.lemmas.stated_system.KeptAfterCalls.{entered_kept, entered_leaf}
use Rattle.tfpg_search.proofs.leaf_system.LeafSystem.enter.Goals as goal

pub invariant_of-self-2 : goal.invariant_of-self-2
invariant_of-self-2 c =
    entered_kept c.args.self.now c.self.inside.system.demands c.self.inside.lows.items c.self.inside.highs.items c.self.inside.entered.items c.self.view_is c.self.invariant
    c.pick_count-before.result (c.pick_count-before.ensures.picks ∙ sym (ap (λ (leaf : Leaf). length leaf.demands.picks) c.self.view_is)) c.push.new.self.items c.in_ok-push.ensures.items

pub returns-clause-ok : goal.returns-clause-ok
returns-clause-ok c =
    entered_leaf c.args.self.now c.self.inside.system.demands c.self.inside.lows.items c.self.inside.highs.items c.self.inside.entered.items c.self.view_is c.self.invariant
    c.pick_count-before.result (c.pick_count-before.ensures.picks ∙ sym (ap (λ (leaf : Leaf). length leaf.demands.picks) c.self.view_is)) c.push.new.self.items c.in_ok-push.ensures.items
