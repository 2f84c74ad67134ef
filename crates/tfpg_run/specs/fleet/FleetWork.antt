-- How many counted calls the answers to a stream take at most: the sum of the limits of the rounds of all vehicles.
use Rattle.std.specs.Prelude.{◌≡◌, ℕ, ◌+◌, ◌≤◌, List, length, sum_by, Some, slice_get}
use Rattle.tfpg_fleet.specs.Belonging.{lines_for}
use Rattle.tfpg_diagnose.specs.Work.{AreBlocksWithin}
use Rattle.tfpg_run.specs.fleet.Answers.{Answer, blocks_for}
use Rattle.tfpg_run.specs.fleet.FleetOutput.{FleetProblem, IsFleetOutput}

-- For the answers to these lines the count of calls went from one number to the other, by at most the sum of these numbers, one for each
-- vehicle. Each is within the limits of the vehicle's own blocks.
pub record AreAnswersWithin (fleet : FleetProblem) (lines : List (List ℕ)) (answers : List Answer) (start end : ℕ) : Type 0 where
  pub calls : List ℕ
  pub one_each : length calls ≡ length fleet.names
  pub each : (number own : ℕ) → slice_get calls number ≡ Some own
      → AreBlocksWithin fleet.graph (lines_for fleet.names number lines) (blocks_for number answers) 0 own
  pub within : end ≤ start + sum_by (λ own. own) calls

-- The bytes are the output for these lines, and for it the count of calls went from one number to the other, within the limits of all
-- rounds.
pub record IsFleetOutputWithin (fleet : FleetProblem) (start end : ℕ) (lines : List (List ℕ)) (bytes : List ℕ) : Type 0 where
  pub output : IsFleetOutput fleet lines bytes
  pub within : AreAnswersWithin fleet lines output.answers start end
