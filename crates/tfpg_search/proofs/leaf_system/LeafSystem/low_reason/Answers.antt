-- The reason is read at the node's index.
use Rattle.std.proofs.Common.{◌≡◌, ℕ, ◌∙◌, ap, length, subst, slice_index_or}
use Rattle.tfpg_evidence.specs.declared.reason.Reason.TheVariants.{Zero}
use Rattle.tfpg_search.specs.inside.Leaf.{Leaf}
use Rattle.tfpg_search.specs.inside.KeptReasons.{low_reason}
use Rattle.tfpg_search.specs.inside.EnteredPicks.{entered_picks}
use Rattle.tfpg_search.proofs.lemmas.stated_system.ReasonsKept.{reasons_of-low}
use Rattle.tfpg_search.proofs.leaf_system.LeafSystem.low_reason.Goals as goal

pub returns : goal.returns
returns c =
    subst (λ (leaf : Leaf). c.of.result ≡ slice_index_or leaf.reasons c.args.node (Zero 0)) c.self.view_is
    (c.of.ensures
    ∙ ap (λ (floor : ℕ). low_reason c.args.node floor c.index.result.now) c.floor.ensures
    ∙ reasons_of-low c.self.inside.system.demands.bounds c.self.inside.lows.items c.self.inside.highs.items (entered_picks c.self.inside.entered.items (length c.self.inside.system.demands.picks)) c.self.invariant.lows_each c.self.invariant.highs_each
    c.args.node c.bounds.result c.index.result.now c.bounds.ensures c.index.ensures)
