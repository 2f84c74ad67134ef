-- What a diagnosis of many vehicles on one stream writes.
use Rattle.std.specs.Prelude.{◌≡◌, ◌≤◌, ℕ, List, [], ◌++◌, length, map, flat_map}
use Rattle.tfpg_base.specs.declared.limits.TheConstants.{MAX_LINE_NUMBER}
use Rattle.tfpg_base.specs.declared.terms.Terms.{Terms}
use Rattle.tfpg_graph.specs.Graph.{Tfpg, failures}
use Rattle.tfpg_fleet.specs.Belonging.{addressee, lines_for}
use Rattle.tfpg_evidence.specs.declared.round.Round.{Round}
use Rattle.tfpg_report.specs.Blocks.{Block}
use Rattle.tfpg_check.specs.Report.{AreBlocks, HasReports, rounds_of}
use Rattle.tfpg_diagnose.specs.RightReport.{RoundsSay}
use Rattle.tfpg_diagnose.specs.TellsPanels.{losses_in}
use Rattle.tfpg_run.specs.fleet.Answers.{Answer, answers_text, blocks_for, opening_text, vehicle_of}
use Rattle.tfpg_run.specs.fleet.Counting.{last_ranks, modes_text, vehicles_that}

-- What is diagnosed: vehicles of these names, each of this graph, on these terms.
pub record FleetProblem : Type 0 where
  pub graph : Tfpg
  pub terms : Terms
  pub names : List (List ℕ)

-- these three
abbrev pub fleet_problem : Tfpg → Terms → List (List ℕ) → FleetProblem
fleet_problem graph terms names = record { graph = graph; terms = terms; names = names }

-- The blocks of a vehicle are those of a report of its lines alone, each of whose rounds says what a round says. No panel is lost.
pub record IsVehicleReport (graph : Tfpg) (terms : Terms) (lines : List (List ℕ)) (blocks : List Block) : Type 0 where
  pub has_reports : HasReports graph terms
  pub few_lines : length lines ≤ MAX_LINE_NUMBER
  pub are_blocks : AreBlocks graph terms lines blocks
  pub say : RoundsSay graph terms lines blocks
  pub none_lost : flat_map losses_in blocks ≡ []

-- These are the answers to the lines of the stream, one for each in order. Each is of the vehicle that its line belongs to, or of none.
-- The blocks of each vehicle, joined in order, are a report of its own lines alone.
pub record AreAnswers (fleet : FleetProblem) (lines : List (List ℕ)) (answers : List Answer) : Type 0 where
  pub addressed : map vehicle_of answers ≡ map (addressee fleet.names) lines
  pub reports : (number : ℕ) → IsVehicleReport fleet.graph fleet.terms (lines_for fleet.names number lines) (blocks_for number answers)

-- the text up to the answers so far: each vehicle's name with the first line of a report, and then the answers
abbrev pub answered_text : FleetProblem → List Answer → List ℕ
answered_text fleet answers = opening_text fleet.names fleet.terms ++ answers_text fleet.graph fleet.names 1 answers

-- the rounds of the vehicle of this number
abbrev pub rounds_for : ℕ → List Answer → List Round
rounds_for number answers = flat_map rounds_of (blocks_for number answers)

-- how many vehicles have the failure mode at this position among what their last round ranks
abbrev pub vehicles_with : FleetProblem → List Answer → ℕ → ℕ
vehicles_with fleet answers position =
    vehicles_that (λ number. last_ranks position (rounds_for number answers)) (length fleet.names)

-- The bytes are what a diagnosis of the fleet writes for these lines of the stream: the answers, and a line for each failure mode.
pub record IsFleetOutput (fleet : FleetProblem) (lines : List (List ℕ)) (bytes : List ℕ) : Type 0 where
  pub answers : List Answer
  pub are : AreAnswers fleet lines answers
  pub text : bytes ≡ answered_text fleet answers ++ modes_text fleet.graph (vehicles_with fleet answers) (length (failures fleet.graph))

-- The bytes are what it has written after these lines of a stream that has not ended: all but the lines of the failure modes.
pub record IsFleetOutputSoFar (fleet : FleetProblem) (lines : List (List ℕ)) (bytes : List ℕ) : Type 0 where
  pub answers : List Answer
  pub are : AreAnswers fleet lines answers
  pub text : bytes ≡ answered_text fleet answers

-- The bytes begin what it has written after these lines.
abbrev pub BeginsFleetOutput : FleetProblem → List (List ℕ) → List ℕ → Type 0
BeginsFleetOutput fleet lines bytes = (more : List ℕ) × IsFleetOutputSoFar fleet lines (bytes ++ more)
