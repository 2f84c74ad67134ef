-- A new system is ready at its ceilings.
use Rattle.std.proofs.Common.{◌≡◌, length, ◌∙◌, ap, arith}
use Rattle.std.specs.Prelude.{vec_capacity}
use Rattle.tfpg_diff.specs.declared.trail.Trail.{Trail}
use Rattle.tfpg_diff.specs.SystemState.{unbounded_from}
use Rattle.tfpg_diff.proofs.lemmas.Fresh.{length-unbounded_from, IsReady-new}
use Rattle.tfpg_diff.proofs.system.System.new.Goals as goal
use Rattle.tfpg_diff.proofs.system.System.new.Goals.{After-deref}

-- the bounds, as the code reads them
read : (c : After-deref) → c.deref.result.now ≡ unbounded_from 0 c.args.count
read c = c.deref.ensures.value ∙ c.in_ok-bounds.ensures

-- there are as many as variables
len : (c : After-deref) → length c.deref.result.now ≡ c.args.count
len c = ap length (read c) ∙ length-unbounded_from 0 c.args.count

pub start-requires-clause-values : goal.start-requires-clause-values
start-requires-clause-values c = omega (arith, len (goal.at.start-requires-clause-values c).After-deref, c.in_ok-labels.ensures.values)

pub start-requires-clause-links : goal.start-requires-clause-links
start-requires-clause-links c = omega (arith, len (goal.at.start-requires-clause-links c).After-deref, c.in_ok-labels.ensures.links)

pub invariant_of-result : goal.invariant_of-result
invariant_of-result c =
    IsReady-new c.in_ok-bounds.bounds.items c.deref.result.now c.new-2.result.items c.args.count c.start.new.labels (vec_capacity c.in_ok-cycle.cycle)
    c.deref.ensures.value c.in_ok-bounds.ensures c.new-2.ensures.items (omega arith) c.start.ensures.ceilings
    (ap (λ (trail : Trail). trail.saved.items) c.start.ensures.trail ∙ c.in_ok-labels.ensures.trail)
    (omega (arith, c.in_ok-cycle.ensures.capacity))

pub returns-clause-count : goal.returns-clause-count
returns-clause-count c = ap length c.in_ok-bounds.ensures ∙ length-unbounded_from 0 c.args.count
