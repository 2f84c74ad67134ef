-- The picks of the alternatives that stay are the constraints that they were.
use Rattle.std.proofs.Common.{◌≡◌, Some, refl, sym, length, subst, ◌<◌}
use Rattle.std.specs.Prelude.{slice_get}
use Rattle.std.proofs.lemmas.Option.{slice_get_read}
use Rattle.tfpg_search.specs.inside.Leaf.{Leaf}
use Rattle.tfpg_search.proofs.lemmas.stated_system.KeptAfterCalls.{left_kept, left_leaf}
use Rattle.tfpg_search.proofs.leaf_system.LeafSystem.leave.Goals as goal
use Rattle.tfpg_search.proofs.leaf_system.LeafSystem.leave.Goals.{After-truncate}

begins : (c : After-truncate) → slice_get c.self.inside.entered.items c.args.kept ≡ Some c.index-before.result.now
begins c =
    slice_get_read c.self.inside.entered.items (length c.self.inside.entered.items) c.args.kept c.index-before.result.now refl
    (subst (λ (leaf : Leaf). c.args.kept < length leaf.entered) (sym c.self.view_is) c.requires) c.index-before.ensures

pub invariant_of-self : goal.invariant_of-self
invariant_of-self c =
    left_kept c.args.self.now c.self.inside.system.demands c.self.inside.lows.items c.self.inside.highs.items c.self.inside.entered.items c.self.view_is c.self.invariant
    c.args.kept c.index-before.result.now (begins c) c.truncate.new.self.items c.truncate.ensures.items c.pop_to.new.self.demands c.pop_to.ensures.demands

pub returns-clause-leaves : goal.returns-clause-leaves
returns-clause-leaves c =
    left_leaf c.args.self.now c.self.inside.system.demands c.self.inside.lows.items c.self.inside.highs.items c.self.inside.entered.items c.self.view_is c.self.invariant
    c.args.kept c.index-before.result.now (begins c) c.truncate.new.self.items c.truncate.ensures.items c.pop_to.new.self.demands c.pop_to.ensures.demands c.pop_to.new.self.calls c.pop_to.new.self.identity
