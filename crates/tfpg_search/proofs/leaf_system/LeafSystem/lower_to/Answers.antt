-- A bound that is no less changes nothing.
use Rattle.std.proofs.Common.{ℕ, ◌+◌, ◌<◌, ◌≤◌, length, sym, subst, arith}
use Rattle.tfpg_diff.proofs.lemmas.Updates.{with_ceiling-looser}
use Rattle.tfpg_search.proofs.lemmas.work.BoundsSet.{lowered_counts}
use Rattle.tfpg_search.proofs.leaf_system.LeafSystem.lower_to.Goals as goal

pub returns-then-ceiling-high-clause-ok : goal.returns-then-ceiling-high-clause-ok
returns-then-ceiling-high-clause-ok g c =
    let demands = c.args.self.now.demands in
    sym (with_ceiling-looser demands.bounds demands.picks c.args.node c.bounds.result c.bounds.ensures c.args.high.time (length demands.bounds + c.args.node)
    (subst (λ (ceiling : ℕ). ceiling ≤ c.args.high.time) c.ceiling.ensures c.if-ceiling-high.true))

pub returns-then-ceiling-high-clause-counts : goal.returns-then-ceiling-high-clause-counts
returns-then-ceiling-high-clause-counts g c bounds there = record { ok = omega arith; any = omega arith }

pub returns-clause-counts : goal.returns-clause-counts
returns-clause-counts g c bounds there =
    lowered_counts bounds c.args.self.now c.lower.new.self c.args.node c.args.high.time (length c.args.self.now.demands.bounds + c.args.node) c.bounds.result c.bounds.ensures (subst (λ (ceiling : ℕ). c.args.high.time < ceiling) c.ceiling.ensures c.if-ceiling-high.false) there
    c.args.work.now c.lower.new.work c.lower.result c.lower.ensures.step c.lower.ensures.ok c.lower.ensures.adds.err
