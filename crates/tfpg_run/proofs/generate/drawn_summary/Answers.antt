use Rattle.std.proofs.Common.{[], length, ap}
use Rattle.std.proofs.lemmas.Result.{IfOk-weaker}
use Rattle.std.specs.Prelude.{IsSomeAnd}
use Rattle.tfpg_base.specs.Lines.{lines_of}
use Rattle.tfpg_hyp.proofs.lemmas.FittingSets.{says_misfit}
use Rattle.tfpg_diagnose.proofs.lemmas.Diagnosed.{own_diagnosed}
use Rattle.tfpg_run.specs.generate.Generating.{HasSummary}
use Rattle.tfpg_run.specs.generate.Summary.{drawn_text}
use Rattle.tfpg_run.specs.generate.Terms.{generated_terms}
use Rattle.tfpg_run.specs.inside.generate.Summary.{SaysOfRound}
use Rattle.tfpg_run.proofs.lemmas.generate.Truths.{drawn_failures, members_there, found_there, summary_there}
use Rattle.tfpg_run.proofs.generate.drawn_summary.Goals as goal

pub new_diagnosis-requires : goal.new_diagnosis-requires
new_diagnosis-requires g c = drawn_failures c.args.number c.args.size c.in_ok-graph.field-0.graph c.in_ok-graph.field-0.simulated c.in_ok-graph.ensures

pub take_text-requires : goal.take_text-requires
take_text-requires g c = own_diagnosed c.in_ok-graph.field-0.graph generated_terms [] c.in_ok-diagnosis.diagnosis c.in_ok-diagnosis.ensures

pub summary_of-requires-clause-members : goal.summary_of-requires-clause-members
summary_of-requires-clause-members g c =
    members_there c.args.number c.args.size c.in_ok-graph.field-0.graph c.in_ok-graph.field-0.simulated c.in_ok-graph.ensures (lines_of c.as_slice.result.now)
    c.take_text.new.self (ap lines_of c.as_slice.ensures) (c.in_ok-take_text.ensures c.in_ok-graph.field-0.graph generated_terms c.in_ok-diagnosis.ensures)

pub summary_of-requires-clause-found : goal.summary_of-requires-clause-found
summary_of-requires-clause-found g c =
    found_there c.args.number c.args.size c.in_ok-graph.field-0.graph c.in_ok-graph.field-0.simulated c.in_ok-graph.ensures (lines_of c.as_slice.result.now)
    c.take_text.new.self (ap lines_of c.as_slice.ensures) (c.in_ok-take_text.ensures c.in_ok-graph.field-0.graph generated_terms c.in_ok-diagnosis.ensures)

pub returns : goal.returns
returns g c =
    let d = c.take_text.new.self in
    IfOk-weaker c.summary_of.result
    (λ text. IsSomeAnd d.last (SaysOfRound (drawn_text c.args.number c.args.size d.engine.graph (length d.engine.log.events)) d.engine.graph (length d.engine.log.events) c.in_ok-graph.field-0.simulated.set text.items))
    (λ text. HasSummary c.args.number c.args.size text.items)
    (λ text says. summary_there c.args.number c.args.size c.in_ok-graph.field-0.graph c.in_ok-graph.field-0.simulated c.in_ok-graph.ensures (lines_of c.as_slice.result.now)
    d (ap lines_of c.as_slice.ensures) (c.in_ok-take_text.ensures c.in_ok-graph.field-0.graph generated_terms c.in_ok-diagnosis.ensures) text.items
    (λ graph terms line rounds log round valid of ordered is. says_misfit (c.rounds_say_which_sets_fit.ensures graph terms line rounds log round valid of ordered is)) says)
    c.summary_of.ensures
