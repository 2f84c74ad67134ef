use Rattle.std.proofs.Common.{length, ap}
use Rattle.tfpg_run.specs.inside.fleet.UnderWay.{problem_in}
use Rattle.tfpg_run.proofs.lemmas.fleet.NextAnswers.{answered_none}
use Rattle.tfpg_run.proofs.lemmas.fleet.NewFleets.{counts_again, counts_no_memory, counts_ok}
use Rattle.tfpg_run.proofs.fleet.watch.Watch.new.Goals as goal

pub returns-in_err-fleet-clause-too_many : goal.returns-in_err-fleet-clause-too_many
returns-in_err-fleet-clause-too_many c =
    counts_again c.args.vehicles.now.graph.now c.args.vehicles.now.terms (length c.args.vehicles.now.names.now) c.in_err-fleet.field-0.0 c.from_residual.result c.from_residual.ensures.1 c.in_err-fleet.ensures.too_many

pub returns-in_err-ranked-clause-too_many : goal.returns-in_err-ranked-clause-too_many
returns-in_err-ranked-clause-too_many c =
    counts_no_memory c.args.vehicles.now.graph.now c.args.vehicles.now.terms (length c.args.vehicles.now.names.now) c.in_ok-fleet.fleet c.from_residual-in_err-ranked.result c.from_residual-in_err-ranked.ensures.1 c.in_ok-fleet.ensures.too_many

pub returns-clause-too_many : goal.returns-clause-too_many
returns-clause-too_many c =
    counts_ok c.args.vehicles.now.graph.now c.args.vehicles.now.terms (length c.args.vehicles.now.names.now) c.in_ok-fleet.fleet _ c.in_ok-fleet.ensures.too_many

pub returns-clause-new : goal.returns-clause-new
returns-clause-new c =
    answered_none (problem_in c.args.vehicles.now) _ (length c.as_slice.result.now) c.in_ok-fleet.ensures.names c.in_ok-fleet.ensures.represents c.in_ok-ranked.ensures (ap length c.as_slice.ensures)
