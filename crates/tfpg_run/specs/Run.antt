-- How a run of the program ends, and what it has done with the outside by then.
use Rattle.std.specs.Prelude.{◌≡◌, ◌⊎◌, Result, Ok, Err}
use Rattle.tfpg_words.specs.declared.usage_cause.UsageCause.{UsageCause}
use Rattle.tfpg_words.specs.Meaning.{Meaning, Diagnose, Explain, Check, Simulate, Generate, Convert, Ask, Fleet, Predict}
use Rattle.tfpg_run.specs.declared.end.End.{End}
use Rattle.tfpg_run.specs.declared.end.End.TheVariants as ends
use Rattle.tfpg_run.specs.World.{World}
use Rattle.tfpg_run.specs.diagnose.Diagnosing.{DiagnoseEnds}
use Rattle.tfpg_run.specs.explain.Explaining.{ExplainEnds}
use Rattle.tfpg_run.specs.check.Checking.{CheckEnds}
use Rattle.tfpg_run.specs.simulate.Simulating.{HasSimulation, SimulateEnds}
use Rattle.tfpg_run.specs.generate.Generating.{GenerateEnds}
use Rattle.tfpg_run.specs.convert.Converting.{ConvertEnds}
use Rattle.tfpg_run.specs.ask.Asking.{AskEnds}
use Rattle.tfpg_run.specs.fleet.FleetEnds.{FleetEnds}
use Rattle.tfpg_answers.specs.Forecasts.{prediction}
use Rattle.tfpg_run.specs.predict.Predicting.{PredictEnds}

-- No command but `diagnose` touches the desk, and refused words do not either.
abbrev pub LeavesDesk : {Desk : Type 0} → Result Meaning UsageCause → Desk → Desk → Type 0
LeavesDesk (Ok (Diagnose terms graph)) before now = Unit {0}
LeavesDesk meant before now = now ≡ before

-- How a run ends whose words mean this: words that are refused have their cause, and nothing was asked for, taken or
-- written; and else it goes as the command says.
abbrev pub CommandEnds : Result Meaning UsageCause → World → World → End → Type 0
CommandEnds (Err cause) before now end = (now ≡ before) × (end ≡ ends.Usage cause)
CommandEnds (Ok (Diagnose terms graph)) before now end = DiagnoseEnds terms graph before now end
CommandEnds (Ok (Explain graph log)) before now end = ExplainEnds graph log before now end
CommandEnds (Ok (Check graph log)) before now end = CheckEnds graph log before now end
CommandEnds (Ok (Simulate draw trace graph script)) before now end =
    SimulateEnds (HasSimulation draw trace) graph script before now end × (now.input ≡ before.input)
CommandEnds (Ok (Generate draw size)) before now end = GenerateEnds draw size before now end
CommandEnds (Ok (Convert json graph)) before now end = ConvertEnds json graph before now end × (now.input ≡ before.input)
CommandEnds (Ok (Ask terms graph log)) before now end = AskEnds terms graph log before now end × (now.input ≡ before.input)
CommandEnds (Ok (Fleet terms graph names)) before now end = FleetEnds terms graph names before now end
CommandEnds (Ok (Predict terms ahead graph log node)) before now end =
    PredictEnds (prediction terms ahead node) graph log before now end × (now.input ≡ before.input)

-- How a run ends: as the words say; or memory ran out for the words, and nothing was asked for, taken or written.
abbrev pub RunEnds : Result Meaning UsageCause → World → World → End → Type 0
RunEnds meant before now end = CommandEnds meant before now end ⊎ ((now ≡ before) × (end ≡ ends.NoMemory))
