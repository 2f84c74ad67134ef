-- The reason of the node's lower bound is written once the bound is raised.
use Rattle.std.proofs.Common.{map, subst}
use Rattle.tfpg_evidence.specs.declared.reason.Reason.{Reason}
use Rattle.tfpg_search.specs.inside.Closing.{IsFaultOf}
use Rattle.tfpg_search.specs.inside.KeptReasons.{kept_reasons, reason_or}
use Rattle.tfpg_search.proofs.lemmas.stated_system.KeptAfterCalls.{same_kept, raised_kept, raised_adds, raised_named, raised_refused}
use Rattle.tfpg_search.proofs.leaf_system.LeafSystem.raise.Goals as goal

pub invariant_of-self : goal.invariant_of-self
invariant_of-self g c =
    raised_kept c.args.self.now c.self.inside.system.demands c.self.inside.lows.items c.self.inside.highs.items c.self.inside.entered.items c.self.view_is c.self.invariant
    c.args.node c.requires.node c.args.low.reason c.args.low.time c.from-tag.result c.from-tag.ensures c.requires.tighter c.raise.new.self.demands c.in-Ok.ensures.adds.0

pub invariant_of-self-in-Err : goal.invariant_of-self-in-Err
invariant_of-self-in-Err g c =
    same_kept c.args.self.now c.self.inside.system.demands c.self.inside.lows.items c.self.inside.highs.items c.self.inside.entered.items c.self.view_is c.self.invariant
    c.raise.new.self.demands c.in-Err.ensures.adds.0

pub refused-requires : goal.refused-requires
refused-requires g c =
    raised_named c.args.self.now c.self.inside.system.demands c.self.inside.lows.items c.self.inside.highs.items c.self.inside.entered.items c.self.view_is c.self.invariant
    c.args.node c.requires.node c.args.low.reason c.args.low.time c.from-tag.result c.from-tag.ensures c.requires.tighter
    c.raise.new.self.demands c.in-Err.ensures.adds.0 c.raise.new.self.cycle c.cycle.result.now c.in-Err.ensures.adds.2 c.cycle.ensures

pub returns-in-Ok-clause-adds : goal.returns-in-Ok-clause-adds
returns-in-Ok-clause-adds g c =
    raised_adds c.args.self.now c.self.inside.system.demands c.self.inside.lows.items c.self.inside.highs.items c.self.inside.entered.items c.self.view_is c.self.invariant
    c.args.node c.requires.node c.args.low.reason c.args.low.time c.from-tag.result c.from-tag.ensures c.requires.tighter c.raise.new.self.demands c.in-Ok.ensures.adds.0 c.raise.new.self.calls c.raise.new.self.identity

pub returns-in-Err-clause-adds : goal.returns-in-Err-clause-adds
returns-in-Err-clause-adds g c =
    raised_refused c.args.self.now c.self.inside.system.demands c.self.inside.lows.items c.self.inside.highs.items c.self.inside.entered.items c.self.view_is c.self.invariant
    c.args.node c.requires.node c.args.low.reason c.args.low.time c.from-tag.result c.from-tag.ensures c.requires.tighter
    c.raise.new.self.demands c.in-Err.ensures.adds.0 c.raise.new.self.cycle c.cycle.result.now c.in-Err.ensures.adds.2 c.cycle.ensures c.raise.new.self.calls c.raise.new.self.identity c.raise.ensures.identity c.refused.result
    (subst (λ (reason : Reason). IsFaultOf (map (reason_or (kept_reasons c.raise.new.self.demands c.self.inside.lows.items c.self.inside.highs.items c.self.inside.entered.items) c.from-tag.result reason) c.cycle.result.now) c.refused.result)
    c.of.ensures c.refused.ensures)
