-- The trail takes back, or the solution is computed afresh.
use Rattle.std.proofs.Common.{arith}
use Rattle.tfpg_diff.specs.Demands.{demands_of}
use Rattle.tfpg_diff.proofs.lemmas.TakingBack.{TakesBack-undone, TakesBack-afresh}
use Rattle.tfpg_diff.proofs.passes.take_back.Goals as goal

pub returns-then-labels-from-clause-taken : goal.returns-then-labels-from-clause-taken
returns-then-labels-from-clause-taken c =
    TakesBack-undone (demands_of c.args.bounds.now c.args.picks.now) c.args.labels.now c.undo_to.new.self c.requires.able (omega arith)
    c.undo_to.ensures.reach c.undo_to.ensures.back c.undo_to.ensures.trail

pub returns-clause-taken : goal.returns-clause-taken
returns-clause-taken c =
    TakesBack-afresh (demands_of c.args.bounds.now c.args.picks.now) c.args.labels.now c.compute_afresh.new.labels
    c.compute_afresh.ensures.kept c.compute_afresh.ensures.met c.compute_afresh.ensures.saved c.compute_afresh.ensures.reach
