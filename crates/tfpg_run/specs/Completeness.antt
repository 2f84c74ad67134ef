-- When a run is done, or memory ran out: where the files, the input and the output serve what the words mean.
use Rattle.std.specs.Prelude.{◌≡◌, ◌⊎◌, ℕ, ◌≤◌, List, length, Some, Err}
use Rattle.tfpg_base.specs.declared.limits.TheConstants.{MAX_BYTES}
use Rattle.tfpg_base.specs.Outside.{SourceState, ShelfState, Rose}
use Rattle.tfpg_base.specs.Lines.{lines_of}
use Rattle.tfpg_graph.specs.Graph.{Tfpg}
use Rattle.tfpg_graph.specs.Text.{Spells}
use Rattle.tfpg_report.specs.Blocks.{Block}
use Rattle.tfpg_check.specs.declared.cause.CheckCause.{CheckCause}
use Rattle.tfpg_check.specs.Causes.{AreReportLines, IsCause}
use Rattle.tfpg_sim.specs.Script.{IsScriptFault}
use Rattle.tfpg_words.specs.Meaning.{Meaning, Diagnose, Explain, Check, Simulate, Generate, Convert, Ask, Fleet, Predict}
use Rattle.tfpg_base.specs.declared.terms.Terms.{Terms}
use Rattle.tfpg_run.specs.declared.end.End.{End}
use Rattle.tfpg_run.specs.declared.end.End.TheVariants.{Done, NoMemory, NotAccepted}
use Rattle.tfpg_run.specs.Fetch.{GivesGraphBy, GivesGraphAndText}
use Rattle.tfpg_diagnose.specs.JudgedReports.{problem_of}
use Rattle.tfpg_run.specs.convert.Converting.{SpellsFrom}
use Rattle.tfpg_map.specs.Spelling.{HasMap}
use Rattle.tfpg_run.specs.fleet.FleetEnds.{HasFewForFleet}
use Rattle.tfpg_run.specs.fleet.FleetOutput.{fleet_problem}
use Rattle.tfpg_run.specs.TooMany.{HasFewHypotheses}
use Rattle.tfpg_answers.specs.declared.predict.probing.ProbeFault.{ProbeFault}
use Rattle.tfpg_answers.specs.Probing.{probed_node}
use Rattle.tfpg_run.specs.World.{World}

-- The input is known, and has at most 2^32 bytes left.
pub record IsShort (input : SourceState) : Type 0 where
  pub known : List ℕ
  pub left : input.left ≡ Some known
  pub few : length known ≤ MAX_BYTES

-- The input is short, and this holds of its lines.
abbrev pub HasLines : SourceState → (List (List ℕ) → Type 0) → Type 0
HasLines input Hold = (short : IsShort input) × Hold (lines_of short.known)

-- The contents of the shelf are known, and the file of this name spells a valid graph, of which this holds.
pub record ServesGraph (SpellsIt : List ℕ → Tfpg → Type 0) (shelf : ShelfState) (name : List ℕ) (Holds : Tfpg → Type 0) : Type 0 where
  pub files : List (List ℕ × List ℕ)
  pub known : shelf.files ≡ Some files
  pub graph : Tfpg
  pub gives : GivesGraphBy SpellsIt shelf name graph
  pub holds : Holds graph

-- The contents of the shelf are known, and the files of these names give a graph and a text, of which this holds.
pub record ServesGraphAndText (shelf : ShelfState) (graph_name text_name : List ℕ) (Hold : Tfpg → List ℕ → Type 0) : Type 0 where
  pub files : List (List ℕ × List ℕ)
  pub known : shelf.files ≡ Some files
  pub graph : Tfpg
  pub text : List ℕ
  pub gives : GivesGraphAndText shelf graph_name text_name graph text
  pub hold : Hold graph text

-- The graph takes a probe of the node of this name.
abbrev pub CanBeProbed : Tfpg → List ℕ → Type 0
CanBeProbed graph node = (fault : ProbeFault) → probed_node graph node ≡ Err fault → ⊥

-- The files serve what the words mean, and so does the input where it is read.
abbrev pub CanBeDone : Meaning → World → Type 0
CanBeDone (Diagnose terms file) before = ServesGraph Spells before.shelf file (HasFewHypotheses terms) × IsShort before.input
CanBeDone (Explain file log) before =
    ServesGraphAndText before.shelf file log (λ graph text. HasLines before.input (HasMap graph))
CanBeDone (Check file log) before =
    ServesGraphAndText before.shelf file log (λ graph text. HasLines before.input (λ lines.
    (terms : Terms) × (blocks : List Block) × AreReportLines (problem_of graph text) terms blocks lines))
CanBeDone (Simulate draw trace file script) before =
    ServesGraphAndText before.shelf file script (λ graph text. (line : ℕ) → IsScriptFault graph (lines_of text) line → ⊥)
CanBeDone (Generate draw size) before = Unit {0}
CanBeDone (Convert json file) before = ServesGraph (SpellsFrom json) before.shelf file (λ graph. Unit {0})
CanBeDone (Ask terms file log) before = ServesGraphAndText before.shelf file log (λ graph text. HasFewHypotheses terms graph)
CanBeDone (Fleet terms file names) before =
    ServesGraph Spells before.shelf file (λ graph. HasFewForFleet (fleet_problem graph terms names)) × IsShort before.input
CanBeDone (Predict terms ahead file log node) before =
    ServesGraphAndText before.shelf file log (λ graph text. CanBeProbed graph node × HasFewHypotheses terms graph)

-- A report can be judged, and the lines of the input are not accepted, for this cause at this line.
abbrev pub CanRefuse : ShelfState → SourceState → List ℕ → List ℕ → ℕ → CheckCause → Type 0
CanRefuse shelf input graph_name log_name line cause =
    ServesGraphAndText shelf graph_name log_name (λ graph text. HasLines input (λ lines. IsCause (problem_of graph text) lines line cause))

-- Neither the shelf, nor the input, nor the output failed.
pub record NothingFails (before now : World) : Type 0 where
  pub shelf : Rose before.shelf.faults now.shelf.faults → ⊥
  pub input : Rose before.input.faults now.input.faults → ⊥
  pub output : Rose before.output.faults now.output.faults → ⊥

-- The run is done, or memory ran out.
abbrev pub IsCompleted : End → Type 0
IsCompleted end = (end ≡ Done) ⊎ (end ≡ NoMemory)

-- The lines of the input are not accepted, for this cause at this line, or memory ran out.
abbrev pub IsRefusedFor : ℕ → CheckCause → End → Type 0
IsRefusedFor line cause end = (end ≡ NotAccepted line cause) ⊎ (end ≡ NoMemory)
