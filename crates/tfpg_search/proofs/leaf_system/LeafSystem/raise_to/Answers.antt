-- A bound that is no greater changes nothing.
use Rattle.std.proofs.Common.{ℕ, ◌<◌, ◌≤◌, sym, subst, arith}
use Rattle.tfpg_diff.proofs.lemmas.Updates.{with_floor-looser}
use Rattle.tfpg_search.proofs.lemmas.work.BoundsSet.{raised_counts}
use Rattle.tfpg_search.proofs.leaf_system.LeafSystem.raise_to.Goals as goal

pub returns-then-low-floor-clause-ok : goal.returns-then-low-floor-clause-ok
returns-then-low-floor-clause-ok g c =
    let demands = c.args.self.now.demands in
    sym (with_floor-looser demands.bounds demands.picks c.args.node c.bounds.result c.bounds.ensures c.args.low.time c.args.node (subst (λ (floor : ℕ). c.args.low.time ≤ floor) c.floor.ensures c.if-low-floor.true))

pub returns-then-low-floor-clause-counts : goal.returns-then-low-floor-clause-counts
returns-then-low-floor-clause-counts g c bounds there = record { ok = omega arith; any = omega arith }

pub returns-clause-counts : goal.returns-clause-counts
returns-clause-counts g c bounds there =
    raised_counts bounds c.args.self.now c.raise.new.self c.args.node c.args.low.time c.args.node c.bounds.result c.bounds.ensures (subst (λ (floor : ℕ). floor < c.args.low.time) c.floor.ensures c.if-low-floor.false) there
    c.args.work.now c.raise.new.work c.raise.result c.raise.ensures.step c.raise.ensures.ok c.raise.ensures.adds.err
