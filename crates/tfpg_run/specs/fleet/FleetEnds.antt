-- How `fleet` ends: it reads a graph, and answers the lines of the stream one by one.
use Rattle.std.specs.Prelude.{◌≡◌, ◌⊎◌, ◌++◌, ℕ, List, [], length, Result, Ok, Err}
use Rattle.tfpg_base.specs.declared.terms.Terms.{Terms}
use Rattle.tfpg_base.specs.Lines.{lines_of}
use Rattle.tfpg_base.specs.Outside.{SourceState, IsAtEnd}
use Rattle.tfpg_graph.specs.Text.{Spells}
use Rattle.tfpg_fleet.specs.TooMany.{IsTooMany}
use Rattle.tfpg_run.specs.declared.end.End.{End}
use Rattle.tfpg_run.specs.declared.end.End.TheVariants as ends
use Rattle.tfpg_streams.specs.declared.fault.StreamFault.{StreamFault}
use Rattle.tfpg_streams.specs.declared.fault.StreamFault.TheVariants.{WriteFault}
use Rattle.tfpg_run.specs.EndsOf.{EndsBy, StopsBy, end_of_stream_fault}
use Rattle.tfpg_run.specs.Fetch.{LacksFiles, WorksByGraph}
use Rattle.tfpg_streams.specs.Outputs.{HasOutputOfFirstLines, IsStreamFault, IsWrittenBefore, TakesAndWrites, WritesOutput}
use Rattle.tfpg_streams.specs.Streams.{Streams}
use Rattle.tfpg_run.specs.World.{World, streams_of, watched_of}
use Rattle.tfpg_run.specs.fleet.FleetOutput.{FleetProblem, BeginsFleetOutput, IsFleetOutput, IsFleetOutputSoFar, fleet_problem}

-- What was written by then. A failed write alone may cut it: what is left begins the answers to the first lines of the input; or, once the
-- input has ended, the whole output for it. So no line of a failure mode is written before that end. Without a failed write it is what is
-- right so far, or, without memory, nothing.
abbrev pub IsAnsweredBefore : FleetProblem → SourceState → List ℕ → List ℕ → StreamFault → Type 0
IsAnsweredBefore fleet input taken written WriteFault =
    HasOutputOfFirstLines (BeginsFleetOutput fleet) input taken written
    ⊎ (IsAtEnd input × (more : List ℕ) × IsFleetOutput fleet (lines_of taken) (written ++ more))
IsAnsweredBefore fleet input taken written fault =
    IsWrittenBefore (IsFleetOutputSoFar fleet) (BeginsFleetOutput fleet) input taken written fault

-- How answering ends where these bytes were taken, and these were written: with the whole output for the whole input; or with its cause,
-- and what was written by then.
abbrev pub AnsweringEnds : FleetProblem → Streams → Streams → Result (Unit {0}) StreamFault → List ℕ → List ℕ → Type 0
AnsweringEnds fleet before now (Ok done) taken written = WritesOutput (IsFleetOutput fleet) before now taken written
AnsweringEnds fleet before now (Err fault) taken written =
    IsStreamFault before now taken fault × IsAnsweredBefore fleet now.input taken written fault

-- A diagnosis of the fleet took bytes from the input and wrote its answers, with this result.
abbrev pub AnswersStream : FleetProblem → Streams → Streams → Result (Unit {0}) StreamFault → Type 0
AnswersStream fleet before now result = TakesAndWrites (AnsweringEnds fleet before now result) before now

-- The graph has not too many hypotheses for the vehicles.
abbrev pub HasFewForFleet : FleetProblem → Type 0
HasFewForFleet fleet = (count : ℕ) → IsTooMany fleet.graph fleet.terms (length fleet.names) count → ⊥

-- How a diagnosis of the vehicles ends: there are too many hypotheses for them, as the end says, and all but the shelf is untouched; or there
-- are not, and they were diagnosed.
abbrev pub FleetDiagnosisEnds : FleetProblem → World → World → End → Type 0
FleetDiagnosisEnds fleet before now end =
    StopsBy (IsTooMany fleet.graph fleet.terms (length fleet.names)) ends.TooManyHypotheses (watched_of before) (watched_of now) end
    ⊎ (HasFewForFleet fleet × EndsBy (AnswersStream fleet (streams_of before) (streams_of now)) end_of_stream_fault end)

-- There is no graph of the file of that name; or the diagnosis of the vehicles of these names ended so.
abbrev pub FleetEnds : Terms → List ℕ → List (List ℕ) → World → World → End → Type 0
FleetEnds terms name names before now end =
    LacksFiles name [] before now end
    ⊎ WorksByGraph Spells name (λ graph. FleetDiagnosisEnds (fleet_problem graph terms names) before now) before now end
