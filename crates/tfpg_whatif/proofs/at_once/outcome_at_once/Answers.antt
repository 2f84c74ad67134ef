use Rattle.tfpg_clause.specs.Case.{case_of}
use Rattle.tfpg_whatif.proofs.lemmas.AtOnce.{kept, kept_is, refuted}
use Rattle.tfpg_whatif.proofs.at_once.outcome_at_once.Goals as goal

pub returns-in-Some : goal.returns-in-Some
returns-in-Some c = λ earlier set budget is explains.
    refuted (case_of c.args.graph.now c.args.log.now c.args.reach.now) set budget c.in_ok-steps.field-0 c.in-Some.steps c.in-Some.is (c.in_ok-steps.ensures earlier set budget is)

pub returns-in-Some-2 : goal.returns-in-Some-2
returns-in-Some-2 c = λ earlier set budget is explains.
    kept c.args.graph.now c.args.log.now earlier c.args.reach.now set budget c.args.last.now c.args.index c.in-Some-2.trace is explains
    (kept_is c.in_ok-trace.field-0 c.in-Some-2.trace c.in-Some-2.is _ c.in_ok-trace.ensures)
