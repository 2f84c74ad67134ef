-- Nothing is known but that times lie in range.
use Rattle.std.proofs.Common.{arith}
use Rattle.tfpg_search.specs.inside.KeptReasons.{kept_reasons}
use Rattle.tfpg_search.proofs.lemmas.work.BoundsGiven.{new_widest}
use Rattle.tfpg_search.proofs.lemmas.stated_system.KeptAfterCalls.{new_kept, new_long, new_none}
use Rattle.tfpg_search.proofs.lemmas.stated_system.NewSystemStated.{IsStated-new}
use Rattle.tfpg_search.proofs.leaf_system.LeafSystem.new.Goals as goal

pub invariant_of-result : goal.invariant_of-result
invariant_of-result c =
    let one = c.in_ok-lows.ensures.len in
    let other = c.in_ok-highs.ensures.len in
    let lows = c.in_ok-lows.lows.ok.0 in
    let highs = c.in_ok-highs.highs.ok.0 in
    new_kept c.in_ok-system.system.demands c.args.nodes c.in_ok-system.ensures.demands c.in_ok-lows.lows.items c.in_ok-highs.highs.items c.new-2.result.items (omega arith) (omega arith) c.new-2.ensures.items

pub returns-clause-stated : goal.returns-clause-stated
returns-clause-stated c =
    let one = c.in_ok-lows.ensures.len in
    let other = c.in_ok-highs.ensures.len in
    let lows = c.in_ok-lows.lows.ok.0 in
    let highs = c.in_ok-highs.highs.ok.0 in
    IsStated-new c.in_ok-system.system.demands
    (kept_reasons c.in_ok-system.system.demands c.in_ok-lows.lows.items c.in_ok-highs.highs.items c.new-2.result.items) c.args.nodes c.in_ok-system.ensures.demands
    (new_long c.in_ok-system.system.demands c.args.nodes c.in_ok-system.ensures.demands c.in_ok-lows.lows.items c.in_ok-highs.highs.items c.new-2.result.items (omega arith) (omega arith) c.new-2.ensures.items)

pub returns-clause-no_reasons : goal.returns-clause-no_reasons
returns-clause-no_reasons c =
    let one = c.in_ok-lows.ensures.len in
    let other = c.in_ok-highs.ensures.len in
    let lows = c.in_ok-lows.lows.ok.0 in
    let highs = c.in_ok-highs.highs.ok.0 in
    new_none c.in_ok-system.system.demands c.args.nodes c.in_ok-system.ensures.demands c.in_ok-lows.lows.items c.in_ok-highs.highs.items c.new-2.result.items (omega arith) (omega arith) c.new-2.ensures.items

pub returns-clause-widest : goal.returns-clause-widest
returns-clause-widest c =
    new_widest c.in_ok-system.system.demands c.args.nodes c.in_ok-system.ensures.demands
    (kept_reasons c.in_ok-system.system.demands c.in_ok-lows.lows.items c.in_ok-highs.highs.items c.new-2.result.items) c.new-2.result.items c.in_ok-system.system.calls c.in_ok-system.system.identity
