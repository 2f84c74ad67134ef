-- The pick is a constraint of the last alternative that begins before it or with it.
use Rattle.std.proofs.Common.{◌≡◌, ◌<◌, ◌+◌, ◌-◌, ◌*◌, ◌∙◌, length, subst, sym, arith, slice_index_or}
use Rattle.tfpg_evidence.specs.declared.reason.Reason.TheVariants.{Zero, Pick}
use Rattle.tfpg_search.specs.inside.Leaf.{Leaf}
use Rattle.tfpg_search.specs.inside.EnteredPicks.{entered_picks}
use Rattle.tfpg_search.proofs.lemmas.stated_system.PicksEntered.{entered_pick_read, entered_picks-read}
use Rattle.tfpg_search.proofs.lemmas.stated_system.ReasonsKept.{reasons_of-pick}
use Rattle.tfpg_search.proofs.leaf_system.LeafSystem.pick_reason.Goals as goal

pub overflow_add-result : goal.overflow_add-result
overflow_add-result c =
    let read =
    entered_pick_read c.self.inside.entered.items c.deref.result.now (length c.self.inside.system.demands.picks) c.begun_by-split.result c.args.pick c.index-first.result.now c.self.invariant.begun
    c.deref.ensures.value (subst (λ (leaf : Leaf). c.args.pick < length leaf.demands.picks) (sym c.self.view_is) c.requires)
    c.begun_by-split.ensures.upto c.begun_by-split.ensures.before c.begun_by-split.ensures.after c.index-first.ensures in
    let small = read.small in
    omega arith

pub overflow_cast-result : goal.overflow_cast-result
overflow_cast-result c =
    let read =
    entered_pick_read c.self.inside.entered.items c.deref.result.now (length c.self.inside.system.demands.picks) c.begun_by-split.result c.args.pick c.index-first.result.now c.self.invariant.begun
    c.deref.ensures.value (subst (λ (leaf : Leaf). c.args.pick < length leaf.demands.picks) (sym c.self.view_is) c.requires)
    c.begun_by-split.ensures.upto c.begun_by-split.ensures.before c.begun_by-split.ensures.after c.index-first.ensures in
    let small = read.small in
    omega arith

pub returns : goal.returns
returns c =
    let read =
    entered_pick_read c.self.inside.entered.items c.deref.result.now (length c.self.inside.system.demands.picks) c.begun_by-split.result c.args.pick c.index-first.result.now c.self.invariant.begun
    c.deref.ensures.value (subst (λ (leaf : Leaf). c.args.pick < length leaf.demands.picks) (sym c.self.view_is) c.requires)
    c.begun_by-split.ensures.upto c.begun_by-split.ensures.before c.begun_by-split.ensures.after c.index-first.ensures in
    let within = subst (λ (leaf : Leaf). c.args.pick < length leaf.demands.picks) (sym c.self.view_is) c.requires in
    subst
    (λ (leaf : Leaf). Pick c.begun_by-split.result (c.args.pick - c.index-first.result.now + 1) ≡ slice_index_or leaf.reasons (2 * length leaf.demands.bounds + c.args.pick) (Zero 0)) c.self.view_is
    (sym read.is
    ∙ sym (entered_picks-read c.self.inside.entered.items (length c.self.inside.system.demands.picks) c.args.pick (Zero 0) within)
    ∙ reasons_of-pick c.self.inside.system.demands.bounds c.self.inside.lows.items c.self.inside.highs.items (entered_picks c.self.inside.entered.items (length c.self.inside.system.demands.picks))
    c.self.invariant.lows_each c.self.invariant.highs_each c.args.pick)
