-- A diagnosis of many vehicles under way.
use Rattle.std.specs.Prelude.{◌+◌, ◌≡◌, ◌⊎◌, ◌++◌, ◌∷◌, [], ℕ, ◌<◌, ◌≤◌, List, length, map, take, flat_map, Some, None, Result, Ok, Err, slice_get, slice_index_or}
use Rattle.tfpg_base.specs.declared.line.Line.TheVariants as line
use Rattle.tfpg_base.specs.declared.terms.Terms.{Terms}
use Rattle.tfpg_base.specs.declared.limits.TheConstants.{MAX_BYTES}
use Rattle.tfpg_base.specs.Lines.{Reading, LinesState, LinesRepresent, lines_of}
use Rattle.tfpg_base.specs.Outside.{SinkState, Takes, Puts, IsAtEnd}
use Rattle.tfpg_graph.specs.Graph.{Tfpg, Sizes, failures}
use Rattle.tfpg_evidence.specs.RoundOf.{IsRoundOf}
use Rattle.tfpg_evidence.specs.declared.round.Round.{Round}
use Rattle.tfpg_engine.specs.declared.told.Told.{Told}
use Rattle.tfpg_engine.specs.declared.told.Told.TheVariants as told
use Rattle.tfpg_fleet.specs.Belonging.{addressee, lines_for}
use Rattle.tfpg_fleet.specs.FleetState.{FleetRepresents, names_of}
use Rattle.tfpg_log.specs.declared.refused_line.RefusedLine.TheVariants.{Offer}
use Rattle.tfpg_report.specs.Blocks.{Block, refused_text, round_text}
use Rattle.tfpg_check.specs.Report.{AreBlocks, HasReports}
use Rattle.tfpg_streams.specs.declared.fault.StreamFault.{StreamFault}
use Rattle.tfpg_streams.specs.declared.fault.StreamFault.TheVariants.{WriteFault}
use Rattle.tfpg_run.specs.declared.fleet.stream.NextAnswer.{NextAnswer}
use Rattle.tfpg_run.specs.declared.fleet.stream.NextAnswer.TheVariants.{Written, Ended}
use Rattle.tfpg_run.specs.declared.fleet.watch.Vehicles.{Vehicles}
use Rattle.tfpg_run.specs.declared.fleet.watch.Watch.{Watch}
use Rattle.tfpg_streams.specs.Streams.{Streams, CountsUnchanged}
use Rattle.tfpg_diagnose.specs.RightReport.{RoundsSay}
use Rattle.tfpg_diagnose.specs.TellsPanels.{losses_in}
use Rattle.tfpg_run.specs.fleet.Answers.{Answer, answer_text, blocks_for, vehicle_of}
use Rattle.tfpg_run.specs.fleet.Counting.{is_in, last_ranks, modes_text, ranks, vehicles_that}
use Rattle.tfpg_run.specs.fleet.FleetOutput.{FleetProblem, answered_text, fleet_problem, rounds_for}
use Rattle.tfpg_run.specs.fleet.FleetWork.{AreAnswersWithin}
use Rattle.tfpg_streams.specs.Writing.{Cuts}

-- what is diagnosed, as the code has it
abbrev pub problem_in : Vehicles → FleetProblem
problem_in vehicles = fleet_problem vehicles.graph.now vehicles.terms vehicles.names.now

-- The blocks of a vehicle so far are those of its lines, each of whose rounds says what a round says. No panel is lost.
pub record AreOwnBlocks (graph : Tfpg) (terms : Terms) (lines : List (List ℕ)) (blocks : List Block) : Type 0 where
  pub are : AreBlocks graph terms lines blocks
  pub say : RoundsSay graph terms lines blocks
  pub none_lost : flat_map losses_in blocks ≡ []

-- What is kept of a vehicle is which failure modes the last of these rounds ranks.
abbrev pub IsKept : Tfpg → List Round → List ℕ → Type 0
IsKept graph rounds set =
    (position : ℕ) → position < length (failures graph) → is_in position set ≡ last_ranks position rounds

-- These lines of the stream have these answers. The fleet has taken the lines, and has returned the rounds of the answers. What is kept
-- of each vehicle is which failure modes its last round ranks.
pub record HasAnswered (fleet : FleetProblem) (lines : List (List ℕ)) (answers : List Answer) (watch : Watch) : Type 0 where
  pub addressed : map vehicle_of answers ≡ map (addressee fleet.names) lines
  pub blocks : (number : ℕ) → AreOwnBlocks fleet.graph fleet.terms (lines_for fleet.names number lines) (blocks_for number answers)
  pub names : names_of watch.fleet ≡ fleet.names
  pub represents : FleetRepresents fleet.graph fleet.terms watch.fleet lines (λ number. rounds_for number answers)
  pub one_each : length watch.ranked.items ≡ length fleet.names
  pub kept : (number : ℕ) (set : List ℕ) → slice_get watch.ranked.items number ≡ Some set
      → IsKept fleet.graph (rounds_for number answers) set

-- some lines have some answers
pub record IsWatching (fleet : FleetProblem) (watch : Watch) : Type 0 where
  pub lines : List (List ℕ)
  pub answers : List Answer
  pub answered : HasAnswered fleet lines answers watch

-- The next line of the stream and its number, the lines and the answers before it, and the count of calls before its answer and after it.
pub record AnswerTurn : Type 0 where
  pub lines : List (List ℕ)
  pub answers : List Answer
  pub line : List ℕ
  pub number : ℕ
  pub start : ℕ
  pub end : ℕ

-- these
abbrev pub answer_turn : List (List ℕ) → List Answer → List ℕ → ℕ → ℕ → ℕ → AnswerTurn
answer_turn lines answers line number start end =
    record { lines = lines; answers = answers; line = line; number = number; start = start; end = end }

-- With one answer more the lines have theirs, within their limits if those before were; and the bytes are its text.
pub record Answers (fleet : FleetProblem) (turn : AnswerTurn) (bytes : List ℕ) (watch : Watch) : Type 0 where
  pub answer : Answer
  pub answered : HasAnswered fleet (turn.lines ++ turn.line ∷ []) (turn.answers ++ answer ∷ []) watch
  pub within : (first : ℕ) → AreAnswersWithin fleet turn.lines turn.answers first turn.start
      → AreAnswersWithin fleet (turn.lines ++ turn.line ∷ []) (turn.answers ++ answer ∷ []) first turn.end
  pub text : bytes ≡ answer_text fleet.graph fleet.names turn.number answer

-- a round that was told is of a graph of these sizes
abbrev pub IsToldOf : Sizes → Told → Type 0
IsToldOf sizes (told.Refused refusal) = Unit {0}
IsToldOf sizes (told.Round round) = IsRoundOf sizes round

-- the block of a line of this number that brought this
abbrev pub told_text : Tfpg → ℕ → Told → List ℕ
told_text graph line (told.Refused refusal) = refused_text line (Offer refusal)
told_text graph line (told.Round round) = round_text graph round

-- what is kept of a vehicle after this was told of its line, where it had this before and there are so many failure modes
abbrev pub KeepsLast : Told → ℕ → List ℕ → List ℕ → Type 0
KeepsLast (told.Refused refusal) failures before after = after ≡ before
KeepsLast (told.Round round) failures before after =
    (position : ℕ) → position < failures → is_in position after ≡ ranks position round

-- the lines of the failure modes, by what is kept of each vehicle
abbrev pub kept_text : Tfpg → List (List ℕ) → List ℕ
kept_text graph ranked =
    modes_text graph (λ position. vehicles_that (λ number. is_in position (slice_index_or ranked number [])) (length ranked))
    (length (failures graph))

-- Writing the answer of this text: all was written, or the output failed before it was.
abbrev pub WritesAnswer : List ℕ → SinkState → SinkState → Result NextAnswer StreamFault → Type 0
WritesAnswer text before after (Ok next) = (next ≡ Written) × Puts before after text × (after.faults ≡ before.faults)
WritesAnswer text before after (Err fault) = (fault ≡ WriteFault) × Cuts text before after

-- the streams, the reader of lines, the fleet with what is kept, and the count of calls, at one moment
pub record AnsweringState : Type 0 where
  pub streams : Streams
  pub lines : LinesState
  pub watch : Watch
  pub calls : ℕ

-- these four
abbrev pub answering_at : Streams → LinesState → Watch → ℕ → AnsweringState
answering_at streams lines watch calls = record { streams = streams; lines = lines; watch = watch; calls = calls }

-- A diagnosis that began with this count of calls and the streams before has come to this: each line that the reader has returned has its
-- answer, which is written, and nothing else was written but what stands before the answers. Its calls are within the limits of its
-- rounds. Nothing has failed.
pub record IsAnswering (fleet : FleetProblem) (start : ℕ) (before : Streams) (now : AnsweringState) : Type 0 where
  pub reading : Reading
  pub takes : Takes before.input now.streams.input reading.taken
  pub few : length reading.taken ≤ MAX_BYTES
  pub represents : LinesRepresent now.lines reading
  pub goes_on : (reading.ended ≡ None) ⊎ ((reading.ended ≡ Some (Ok line.End)) × IsAtEnd now.streams.input)
  pub front : take (length reading.given) (lines_of reading.taken) ≡ reading.given
  pub answers : List Answer
  pub answered : HasAnswered fleet reading.given answers now.watch
  pub within : AreAnswersWithin fleet reading.given answers start now.calls
  pub writes : Puts before.output now.streams.output (answered_text fleet answers)
  pub has_reports : HasReports fleet.graph fleet.terms
  pub no_fault : CountsUnchanged before now.streams

-- It has come to the end of the input, and all lines have their answers.
pub record HasAnsweredAll (fleet : FleetProblem) (start : ℕ) (before : Streams) (now : AnsweringState) : Type 0 where
  pub taken : List ℕ
  pub takes : Takes before.input now.streams.input taken
  pub few : length taken ≤ MAX_BYTES
  pub at_end : IsAtEnd now.streams.input
  pub answers : List Answer
  pub answered : HasAnswered fleet (lines_of taken) answers now.watch
  pub within : AreAnswersWithin fleet (lines_of taken) answers start now.calls
  pub writes : Puts before.output now.streams.output (answered_text fleet answers)
  pub has_reports : HasReports fleet.graph fleet.terms
  pub no_fault : CountsUnchanged before now.streams

-- What writing the answer after the line of this number leads to: one line on; or to the end of the input.
abbrev pub ComesTo : FleetProblem → ℕ → Streams → ℕ → AnsweringState → NextAnswer → Type 0
ComesTo fleet start before number now Written = IsAnswering fleet start before now × (now.lines.number ≡ number + 1)
ComesTo fleet start before number now Ended = HasAnsweredAll fleet start before now
