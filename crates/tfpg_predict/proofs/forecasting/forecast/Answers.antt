use Rattle.std.proofs.Common.{subst}
use Rattle.tfpg_log.specs.Log.{ignoring}
use Rattle.tfpg_predict.specs.LeastTime.{lookahead_of}
use Rattle.tfpg_predict.specs.inside.Tried.{IsTried}
use Rattle.tfpg_predict.specs.declared.trial.Tried.{Tried}
use Rattle.tfpg_predict.proofs.lemmas.Halving.{halved_none, never_by_its_end, unsettled_at_end}
use Rattle.tfpg_predict.proofs.forecasting.forecast.Goals as goal

pub returns-in-Out : goal.returns-in-Out
returns-in-Out g c =
    never_by_its_end (lookahead_of c.args.graph.now (ignoring c.args.log.now c.args.doubts) c.args.node c.args.to) c.args.set c.args.budget c.in-Out.steps
    (subst (λ (tried : Tried). IsTried (lookahead_of c.args.graph.now (ignoring c.args.log.now c.args.doubts) c.args.node c.args.to) c.args.set c.args.budget c.args.to tried) c.in-Out.is
    c.in_ok-trace.ensures)

pub returns-in-Spent : goal.returns-in-Spent
returns-in-Spent g c =
    unsettled_at_end (lookahead_of c.args.graph.now (ignoring c.args.log.now c.args.doubts) c.args.node c.args.to) c.args.set c.args.budget c.in-Spent.steps
    (subst (λ (tried : Tried). IsTried (lookahead_of c.args.graph.now (ignoring c.args.log.now c.args.doubts) c.args.node c.args.to) c.args.set c.args.budget c.args.to tried) c.in-Spent.is
    c.in_ok-trace.ensures)

pub halve-requires-clause-halved : goal.halve-requires-clause-halved
halve-requires-clause-halved g c =
    halved_none _ c.time_in-high.result c.in-Fits.trace c.new.result
    (subst (λ (tried : Tried). IsTried (lookahead_of c.args.graph.now (ignoring c.args.log.now c.args.doubts) c.args.node c.args.to) c.args.set c.args.budget c.args.to tried) c.in-Fits.is
    c.in_ok-trace.ensures)
    c.time_in-high.ensures.at c.time_in-high.ensures.by_bound c.new.ensures
