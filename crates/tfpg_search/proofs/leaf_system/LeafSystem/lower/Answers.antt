-- The reason of the node's upper bound is written once the bound is lowered.
use Rattle.std.proofs.Common.{◌+◌, map, subst, arith}
use Rattle.tfpg_evidence.specs.declared.reason.Reason.{Reason}
use Rattle.tfpg_search.specs.inside.Closing.{IsFaultOf}
use Rattle.tfpg_search.specs.inside.KeptReasons.{kept_reasons, reason_or}
use Rattle.tfpg_search.proofs.lemmas.stated_system.KeptAfterCalls.{same_kept, lowered_kept, lowered_adds, lowered_named, lowered_refused}
use Rattle.tfpg_search.proofs.leaf_system.LeafSystem.lower.Goals as goal

pub invariant_of-self : goal.invariant_of-self
invariant_of-self g c =
    lowered_kept c.args.self.now c.self.inside.system.demands c.self.inside.lows.items c.self.inside.highs.items c.self.inside.entered.items c.self.view_is c.self.invariant
    c.args.node c.requires.node c.args.high.reason c.args.high.time (c.from.result + c.from-2.result) (omega (arith, c.variable_count.ensures.count, c.from.ensures, c.from-2.ensures)) c.requires.tighter c.lower.new.self.demands c.in-Ok.ensures.adds.0

pub invariant_of-self-in-Err : goal.invariant_of-self-in-Err
invariant_of-self-in-Err g c =
    same_kept c.args.self.now c.self.inside.system.demands c.self.inside.lows.items c.self.inside.highs.items c.self.inside.entered.items c.self.view_is c.self.invariant
    c.lower.new.self.demands c.in-Err.ensures.adds.0

pub refused-requires : goal.refused-requires
refused-requires g c =
    lowered_named c.args.self.now c.self.inside.system.demands c.self.inside.lows.items c.self.inside.highs.items c.self.inside.entered.items c.self.view_is c.self.invariant
    c.args.node c.requires.node c.args.high.reason c.args.high.time (c.from.result + c.from-2.result) (omega (arith, c.variable_count.ensures.count, c.from.ensures, c.from-2.ensures)) c.requires.tighter
    c.lower.new.self.demands c.in-Err.ensures.adds.0 c.lower.new.self.cycle c.cycle.result.now c.in-Err.ensures.adds.2 c.cycle.ensures

pub returns-in-Ok-clause-adds : goal.returns-in-Ok-clause-adds
returns-in-Ok-clause-adds g c =
    lowered_adds c.args.self.now c.self.inside.system.demands c.self.inside.lows.items c.self.inside.highs.items c.self.inside.entered.items c.self.view_is c.self.invariant
    c.args.node c.requires.node c.args.high.reason c.args.high.time (c.from.result + c.from-2.result) (omega (arith, c.variable_count.ensures.count, c.from.ensures, c.from-2.ensures)) c.requires.tighter c.lower.new.self.demands c.in-Ok.ensures.adds.0 c.lower.new.self.calls c.lower.new.self.identity

pub returns-in-Err-clause-adds : goal.returns-in-Err-clause-adds
returns-in-Err-clause-adds g c =
    lowered_refused c.args.self.now c.self.inside.system.demands c.self.inside.lows.items c.self.inside.highs.items c.self.inside.entered.items c.self.view_is c.self.invariant
    c.args.node c.requires.node c.args.high.reason c.args.high.time (c.from.result + c.from-2.result) (omega (arith, c.variable_count.ensures.count, c.from.ensures, c.from-2.ensures)) c.requires.tighter
    c.lower.new.self.demands c.in-Err.ensures.adds.0 c.lower.new.self.cycle c.cycle.result.now c.in-Err.ensures.adds.2 c.cycle.ensures c.lower.new.self.calls c.lower.new.self.identity c.lower.ensures.identity c.refused.result
    (subst (λ (reason : Reason). IsFaultOf (map (reason_or (kept_reasons c.lower.new.self.demands c.self.inside.lows.items c.self.inside.highs.items c.self.inside.entered.items) (c.from.result + c.from-2.result) reason) c.cycle.result.now) c.refused.result)
    c.of.ensures c.refused.ensures)
