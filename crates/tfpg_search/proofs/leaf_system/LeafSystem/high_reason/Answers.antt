-- The reason is read after those of the lower bounds.
use Rattle.std.proofs.Common.{◌≡◌, ◌<◌, ◌+◌, ◌∙◌, length, subst, sym, slice_index_or}
use Rattle.tfpg_evidence.specs.declared.reason.Reason.TheVariants.{Zero}
use Rattle.tfpg_search.specs.inside.Leaf.{Leaf}
use Rattle.tfpg_search.specs.inside.EnteredPicks.{entered_picks}
use Rattle.tfpg_search.proofs.lemmas.stated_system.ReasonsKept.{reasons_of-high}
use Rattle.tfpg_search.proofs.leaf_system.LeafSystem.high_reason.Goals as goal

pub returns : goal.returns
returns c =
    subst (λ (leaf : Leaf). c.of.result ≡ slice_index_or leaf.reasons (length leaf.demands.bounds + c.args.node) (Zero 0)) c.self.view_is
    (c.of.ensures
    ∙ reasons_of-high c.self.inside.system.demands.bounds c.self.inside.lows.items c.self.inside.highs.items (entered_picks c.self.inside.entered.items (length c.self.inside.system.demands.picks)) c.self.invariant.lows_each c.self.invariant.highs_each
    c.args.node c.index.result.now (subst (λ (leaf : Leaf). c.args.node < length leaf.demands.bounds) (sym c.self.view_is) c.requires) c.index.ensures)
