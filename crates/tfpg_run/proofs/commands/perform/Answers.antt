use Rattle.tfpg_base.specs.declared.terms.Terms.{Terms}
use Rattle.std.proofs.Common.{◌≡◌, ◌∙◌, ap, rules, refl}
use Rattle.tfpg_base.specs.Words.{comma_parts}
use Rattle.tfpg_words.specs.Plans.{meaning_of}
use Rattle.tfpg_run.proofs.lemmas.fleet.NewFleets.{fleet_done, fleet_stopped, fleet_within}
use Rattle.tfpg_run.specs.World.{world}
use Rattle.tfpg_run.proofs.lemmas.Stops.{OnOk-with, check_stopped, explain_stopped, simulate_stopped, convert_stopped, ask_stopped}
use Rattle.tfpg_run.proofs.lemmas.predict.Endings.{predict_done, predict_stopped}
use Rattle.tfpg_panel.specs.Desk.{seen_by}
use Rattle.tfpg_run.proofs.commands.perform.Goals as goal

-- the input is untouched
pub returns-in-Simulate-clause-done : goal.returns-in-Simulate-clause-done
returns-in-Simulate-clause-done g c =
    let input = g.S.Source.state c.args.input.now in
    let done = OnOk-with c.simulate_files.result _ (input ≡ input) (c.simulate_files.ensures.done input (seen_by g.P.Panel.state c.args.desk.now)) refl in
    search (rules, done)

-- nor is it where the work was stopped
pub returns-in-Simulate-clause-stopped : goal.returns-in-Simulate-clause-stopped
returns-in-Simulate-clause-stopped g c =
    let input = g.S.Source.state c.args.input.now in
    let before = world (g.F.Shelf.state c.args.shelf.now) input (g.K.Sink.state c.args.out.now) (seen_by g.P.Panel.state c.args.desk.now) in
    let now = world (g.F.Shelf.state c.simulate_files.new.shelf) input (g.K.Sink.state c.simulate_files.new.out) (seen_by g.P.Panel.state c.args.desk.now) in
    simulate_stopped c.simulate_files.result (meaning_of c.args.command.now) c.as_str-in-Simulate.result.now c.as_str-in-Simulate-2.result.now before now
    c.in-Simulate.draw c.in-Simulate.trace c.in-Simulate.graph c.in-Simulate.script (ap meaning_of c.in-Simulate.is) c.as_str-in-Simulate.ensures c.as_str-in-Simulate-2.ensures refl
    (c.simulate_files.ensures.stopped input (seen_by g.P.Panel.state c.args.desk.now))

pub returns-in-Explain-clause-stopped : goal.returns-in-Explain-clause-stopped
returns-in-Explain-clause-stopped g c =
    let before = world (g.F.Shelf.state c.args.shelf.now) (g.S.Source.state c.args.input.now) (g.K.Sink.state c.args.out.now) (seen_by g.P.Panel.state c.args.desk.now) in
    let now = world (g.F.Shelf.state c.explain_by_files.new.shelf) (g.S.Source.state c.explain_by_files.new.input) (g.K.Sink.state c.explain_by_files.new.out) (seen_by g.P.Panel.state c.args.desk.now) in
    explain_stopped c.explain_by_files.result (meaning_of c.args.command.now) c.as_str-in-Explain.result.now c.as_str-in-Explain-2.result.now before now
    c.in-Explain.graph c.in-Explain.log (ap meaning_of c.in-Explain.is) c.as_str-in-Explain.ensures c.as_str-in-Explain-2.ensures (c.explain_by_files.ensures.stopped (seen_by g.P.Panel.state c.args.desk.now))

pub returns-in-Check-clause-stopped : goal.returns-in-Check-clause-stopped
returns-in-Check-clause-stopped g c =
    let before = world (g.F.Shelf.state c.args.shelf.now) (g.S.Source.state c.args.input.now) (g.K.Sink.state c.args.out.now) (seen_by g.P.Panel.state c.args.desk.now) in
    let now = world (g.F.Shelf.state c.check_by_files.new.shelf) (g.S.Source.state c.check_by_files.new.input) (g.K.Sink.state c.check_by_files.new.out) (seen_by g.P.Panel.state c.args.desk.now) in
    check_stopped c.check_by_files.result (meaning_of c.args.command.now) c.as_str-in-Check.result.now c.as_str-in-Check-2.result.now before now
    c.in-Check.graph c.in-Check.log (ap meaning_of c.in-Check.is) c.as_str-in-Check.ensures c.as_str-in-Check-2.ensures (c.check_by_files.ensures.stopped (seen_by g.P.Panel.state c.args.desk.now))

-- the same of a graph that is converted
pub returns-in-Convert-clause-done : goal.returns-in-Convert-clause-done
returns-in-Convert-clause-done g c =
    let input = g.S.Source.state c.args.input.now in
    let done = OnOk-with c.convert_file.result _ (input ≡ input) (c.convert_file.ensures.done input (seen_by g.P.Panel.state c.args.desk.now)) refl in
    search (rules, done)

pub returns-in-Convert-clause-stopped : goal.returns-in-Convert-clause-stopped
returns-in-Convert-clause-stopped g c =
    let input = g.S.Source.state c.args.input.now in
    let before = world (g.F.Shelf.state c.args.shelf.now) input (g.K.Sink.state c.args.out.now) (seen_by g.P.Panel.state c.args.desk.now) in
    let now = world (g.F.Shelf.state c.convert_file.new.shelf) input (g.K.Sink.state c.convert_file.new.out) (seen_by g.P.Panel.state c.args.desk.now) in
    convert_stopped c.convert_file.result (meaning_of c.args.command.now) c.as_str-in-Convert.result.now before now
    c.in-Convert.json c.in-Convert.graph (ap meaning_of c.in-Convert.is) c.as_str-in-Convert.ensures refl
    (c.convert_file.ensures.stopped input (seen_by g.P.Panel.state c.args.desk.now))

pub returns-in-Explain-clause-done : goal.returns-in-Explain-clause-done
returns-in-Explain-clause-done g c =
    let done = c.explain_by_files.ensures.done (seen_by g.P.Panel.state c.args.desk.now) in
    search (rules, done)

pub returns-in-Check-clause-done : goal.returns-in-Check-clause-done
returns-in-Check-clause-done g c =
    let done = c.check_by_files.ensures.done (seen_by g.P.Panel.state c.args.desk.now) in
    search (rules, done)

-- and of questions after a log
pub returns-in-Ask-clause-done : goal.returns-in-Ask-clause-done
returns-in-Ask-clause-done g c =
    let input = g.S.Source.state c.args.input.now in
    let done = OnOk-with c.ask_by_files.result _ (input ≡ input) (c.ask_by_files.ensures.done input (seen_by g.P.Panel.state c.args.desk.now)) refl in
    search (rules, done)

pub returns-in-Ask-clause-stopped : goal.returns-in-Ask-clause-stopped
returns-in-Ask-clause-stopped g c =
    let input = g.S.Source.state c.args.input.now in
    let before = world (g.F.Shelf.state c.args.shelf.now) input (g.K.Sink.state c.args.out.now) (seen_by g.P.Panel.state c.args.desk.now) in
    let now = world (g.F.Shelf.state c.ask_by_files.new.shelf) input (g.K.Sink.state c.ask_by_files.new.out) (seen_by g.P.Panel.state c.args.desk.now) in
    ask_stopped c.ask_by_files.result (meaning_of c.args.command.now) c.as_str-in-Ask.result.now c.as_str-in-Ask-2.result.now before now
    (record { k = c.in-Ask.k; doubt = c.in-Ask.doubt; budget = c.in-Ask.budget }) c.in-Ask.graph c.in-Ask.log (ap meaning_of c.in-Ask.is) c.as_str-in-Ask.ensures c.as_str-in-Ask-2.ensures refl
    (c.ask_by_files.ensures.stopped input (seen_by g.P.Panel.state c.args.desk.now))

-- a fleet
pub returns-in-Fleet-clause-done : goal.returns-in-Fleet-clause-done
returns-in-Fleet-clause-done g c =
    let before = world (g.F.Shelf.state c.args.shelf.now) (g.S.Source.state c.args.input.now) (g.K.Sink.state c.args.out.now) (seen_by g.P.Panel.state c.args.desk.now) in
    let now = world (g.F.Shelf.state c.fleet_file.new.shelf) (g.S.Source.state c.fleet_file.new.input) (g.K.Sink.state c.fleet_file.new.out) (seen_by g.P.Panel.state c.args.desk.now) in
    let terms : Terms = record { k = c.in-Fleet.k; doubt = c.in-Fleet.doubt; budget = c.in-Fleet.budget } in
    fleet_done c.fleet_file.result (meaning_of c.args.command.now) terms c.as_str-in-Fleet.result.now c.in-Fleet.graph (comma_parts c.as_str-in-Fleet-2.result.now) (comma_parts c.in-Fleet.names) before now
    (ap meaning_of c.in-Fleet.is) c.as_str-in-Fleet.ensures (ap comma_parts c.as_str-in-Fleet-2.ensures) (c.fleet_file.ensures.done (seen_by g.P.Panel.state c.args.desk.now))

pub returns-in-Fleet-clause-stopped : goal.returns-in-Fleet-clause-stopped
returns-in-Fleet-clause-stopped g c =
    let before = world (g.F.Shelf.state c.args.shelf.now) (g.S.Source.state c.args.input.now) (g.K.Sink.state c.args.out.now) (seen_by g.P.Panel.state c.args.desk.now) in
    let now = world (g.F.Shelf.state c.fleet_file.new.shelf) (g.S.Source.state c.fleet_file.new.input) (g.K.Sink.state c.fleet_file.new.out) (seen_by g.P.Panel.state c.args.desk.now) in
    let terms : Terms = record { k = c.in-Fleet.k; doubt = c.in-Fleet.doubt; budget = c.in-Fleet.budget } in
    fleet_stopped c.fleet_file.result (meaning_of c.args.command.now) terms c.as_str-in-Fleet.result.now c.in-Fleet.graph (comma_parts c.as_str-in-Fleet-2.result.now) (comma_parts c.in-Fleet.names) before now
    (ap meaning_of c.in-Fleet.is) c.as_str-in-Fleet.ensures (ap comma_parts c.as_str-in-Fleet-2.ensures) (c.fleet_file.ensures.stopped (seen_by g.P.Panel.state c.args.desk.now))

pub returns-in-Fleet-clause-work : goal.returns-in-Fleet-clause-work
returns-in-Fleet-clause-work g c done =
    let before = world (g.F.Shelf.state c.args.shelf.now) (g.S.Source.state c.args.input.now) (g.K.Sink.state c.args.out.now) (seen_by g.P.Panel.state c.args.desk.now) in
    let now = world (g.F.Shelf.state c.fleet_file.new.shelf) (g.S.Source.state c.fleet_file.new.input) (g.K.Sink.state c.fleet_file.new.out) (seen_by g.P.Panel.state c.args.desk.now) in
    let terms : Terms = record { k = c.in-Fleet.k; doubt = c.in-Fleet.doubt; budget = c.in-Fleet.budget } in
    fleet_within (meaning_of c.args.command.now) terms c.as_str-in-Fleet.result.now c.in-Fleet.graph (comma_parts c.as_str-in-Fleet-2.result.now) (comma_parts c.in-Fleet.names) before now c.args.work.now c.fleet_file.new.work
    (ap meaning_of c.in-Fleet.is) c.as_str-in-Fleet.ensures (ap comma_parts c.as_str-in-Fleet-2.ensures) (c.fleet_file.ensures.work (seen_by g.P.Panel.state c.args.desk.now) done)

-- the forecasts were written
pub returns-in-Predict-clause-done : goal.returns-in-Predict-clause-done
returns-in-Predict-clause-done g c =
    let input = g.S.Source.state c.args.input.now in
    let before = world (g.F.Shelf.state c.args.shelf.now) input (g.K.Sink.state c.args.out.now) (seen_by g.P.Panel.state c.args.desk.now) in
    let now = world (g.F.Shelf.state c.predict_by_files.new.shelf) input (g.K.Sink.state c.predict_by_files.new.out) (seen_by g.P.Panel.state c.args.desk.now) in
    predict_done c.predict_by_files.result (meaning_of c.args.command.now) _ c.in-Predict.ahead c.as_str-in-Predict-2.result.now c.as_str-in-Predict-3.result.now c.as_bytes.result.now
    c.in-Predict.graph c.in-Predict.log c.in-Predict.node before now (ap meaning_of c.in-Predict.is) c.as_str-in-Predict-2.ensures c.as_str-in-Predict-3.ensures (c.as_bytes.ensures.value ∙ c.as_str-in-Predict.ensures) refl
    (c.predict_by_files.ensures.done input (seen_by g.P.Panel.state c.args.desk.now))

-- or they were not
pub returns-in-Predict-clause-stopped : goal.returns-in-Predict-clause-stopped
returns-in-Predict-clause-stopped g c =
    let input = g.S.Source.state c.args.input.now in
    let before = world (g.F.Shelf.state c.args.shelf.now) input (g.K.Sink.state c.args.out.now) (seen_by g.P.Panel.state c.args.desk.now) in
    let now = world (g.F.Shelf.state c.predict_by_files.new.shelf) input (g.K.Sink.state c.predict_by_files.new.out) (seen_by g.P.Panel.state c.args.desk.now) in
    predict_stopped c.predict_by_files.result (meaning_of c.args.command.now) _ c.in-Predict.ahead c.as_str-in-Predict-2.result.now c.as_str-in-Predict-3.result.now c.as_bytes.result.now
    c.in-Predict.graph c.in-Predict.log c.in-Predict.node before now (ap meaning_of c.in-Predict.is) c.as_str-in-Predict-2.ensures c.as_str-in-Predict-3.ensures (c.as_bytes.ensures.value ∙ c.as_str-in-Predict.ensures) refl
    (c.predict_by_files.ensures.stopped input (seen_by g.P.Panel.state c.args.desk.now))
