-- A run that reads line by line has written what is right for all lines that came whole when a read fails, and not both a read and a write
-- fail.
use Rattle.std.proofs.Common.{◌≡◌, ◌⊎◌, ℕ, List, [], Result, Ok, Err, ap, inl, inr}
use Rattle.tfpg_base.specs.declared.terms.Terms.{Terms}
use Rattle.tfpg_graph.specs.Graph.{Tfpg}
use Rattle.tfpg_graph.specs.Text.{Spells}
use Rattle.tfpg_words.specs.Meaning.{Diagnose, Fleet}
use Rattle.tfpg_run.specs.declared.end.End.{End}
use Rattle.tfpg_run.specs.declared.end.End.TheVariants as ends
use Rattle.tfpg_streams.specs.Outputs.{TakesAndWrites}
use Rattle.tfpg_streams.specs.declared.fault.StreamFault.{StreamFault}
use Rattle.tfpg_streams.specs.declared.fault.StreamFault.TheVariants as streams
use Rattle.tfpg_run.specs.EndsOf.{EndsBy, end_of_result, end_of_stream_fault}
use Rattle.tfpg_run.specs.Fetch.{LacksFiles, WorksByGraph}
use Rattle.tfpg_run.specs.InTime.{AnswersComeInTime, BlocksComeInTime, WritesWholeLines}
use Rattle.tfpg_run.specs.Run.{RunEnds}
use Rattle.tfpg_run.specs.World.{World, streams_of, watched_of}
use Rattle.tfpg_diagnose.specs.Diagnosing.{Diagnoses}
use Rattle.tfpg_diagnose.specs.RightReport.{IsRightReport}
use Rattle.tfpg_diagnose.specs.TellsPanels.{desks}
use Rattle.tfpg_diagnose.specs.Watched.{Watched}
use Rattle.tfpg_run.specs.diagnose.Diagnosing.{DiagnosisEnds}
use Rattle.tfpg_run.specs.fleet.FleetEnds.{AnswersStream, FleetDiagnosisEnds}
use Rattle.tfpg_run.specs.fleet.FleetOutput.{FleetProblem, IsFleetOutputSoFar, fleet_problem}

-- ---- the input or the output did not fail

abbrev HoldsOne : World → World → Type 0
HoldsOne before now = (now.input.faults ≡ before.input.faults) ⊎ (now.output.faults ≡ before.output.faults)

untouched : (before now : World) → watched_of now ≡ watched_of before → HoldsOne before now
untouched before now same = inl (ap (λ (w : Watched). w.input.faults) same)

unchanged : (before now : World) → now ≡ before → HoldsOne before now
unchanged before now same = inl (ap (λ (w : World). w.input.faults) same)

-- ---- `diagnose`

module _ (terms : Terms) (name : List ℕ) (before now : World) where
  abbrev IsReported : Tfpg → List (List ℕ) → List ℕ → Type 0
  IsReported graph = IsRightReport graph terms (desks before.desk now.desk)

  -- the work with a graph ended with a read fault
  diagnosed : (file : WorksByGraph Spells name (DiagnosisEnds terms before now) before now ends.ReadFault) (result : Result (Unit {0}) StreamFault)
      → Diagnoses file.graph terms (watched_of before) (watched_of now) result → ends.ReadFault ≡ end_of_result end_of_stream_fault result
      → WritesWholeLines IsReported name before now
  diagnosed file (Ok done) works is = let other : ends.ReadFault ≡ ends.Done = is in absurd cc
  diagnosed file (Err streams.ReadFault) works is = record {
    graph = file.graph;
    gives = file.gives;
    works = record { taken = works.taken; takes = works.takes; written = works.written; writes = works.writes; ends = works.ends.1 };
    no_write_failed = works.ends.0.1;
  }
  diagnosed file (Err streams.WriteFault) works is = let other : ends.ReadFault ≡ ends.WriteFault = is in absurd cc
  diagnosed file (Err streams.TooMuchInput) works is = let other : ends.ReadFault ≡ ends.TooMuchInput = is in absurd cc
  diagnosed file (Err streams.NoMemory) works is = let other : ends.ReadFault ≡ ends.NoMemory = is in absurd cc

  of_diagnosis : RunEnds (Ok (Diagnose terms name)) before now ends.ReadFault
      → LacksFiles name [] before now ends.ReadFault ⊎ WritesWholeLines IsReported name before now
  of_diagnosis (inl (inl lacks)) = inl lacks
  of_diagnosis (inl (inr file)) = by file.works
    where
      by : DiagnosisEnds terms before now file.graph ends.ReadFault → LacksFiles name [] before now ends.ReadFault ⊎ WritesWholeLines IsReported name before now
      by (inl many) = let other : ends.ReadFault ≡ ends.TooManyHypotheses many.fault = many.end_is in absurd cc
      by (inr few) = inr (diagnosed file few.1.result few.1.works few.1.end_is)
  of_diagnosis (inr none) = let other : ends.ReadFault ≡ ends.NoMemory = none.1 in absurd cc

  diagnosed_once : (graph : Tfpg) (result : Result (Unit {0}) StreamFault) → Diagnoses graph terms (watched_of before) (watched_of now) result → HoldsOne before now
  diagnosed_once graph (Ok done) works = inl works.ends.no_fault.input
  diagnosed_once graph (Err streams.ReadFault) works = inr works.ends.0.1
  diagnosed_once graph (Err streams.WriteFault) works = inl works.ends.0.1
  diagnosed_once graph (Err streams.TooMuchInput) works = inl works.ends.0.1.input
  diagnosed_once graph (Err streams.NoMemory) works = inl works.ends.0.input

  one_of_diagnosis : (end : End) → RunEnds (Ok (Diagnose terms name)) before now end → HoldsOne before now
  one_of_diagnosis end (inl (inl lacks)) = untouched before now lacks.untouched
  one_of_diagnosis end (inl (inr file)) = by file.works
    where
      by : DiagnosisEnds terms before now file.graph end → HoldsOne before now
      by (inl many) = untouched before now many.untouched
      by (inr few) = diagnosed_once file.graph few.1.result few.1.works
  one_of_diagnosis end (inr none) = unchanged before now none.0

pub blocks_in_time : BlocksComeInTime
blocks_in_time terms name = record { whole = of_diagnosis terms name; not_both = one_of_diagnosis terms name }

-- ---- `fleet`

module _ (terms : Terms) (name : List ℕ) (names : List (List ℕ)) (before now : World) where
  abbrev IsAnswered : Tfpg → List (List ℕ) → List ℕ → Type 0
  IsAnswered graph = IsFleetOutputSoFar (fleet_problem graph terms names)

  -- the work with a graph ended with a read fault
  answered : (file : WorksByGraph Spells name (λ graph. FleetDiagnosisEnds (fleet_problem graph terms names) before now) before now ends.ReadFault) (result : Result (Unit {0}) StreamFault)
      → AnswersStream (fleet_problem file.graph terms names) (streams_of before) (streams_of now) result → ends.ReadFault ≡ end_of_result end_of_stream_fault result
      → WritesWholeLines IsAnswered name before now
  answered file (Ok done) works is = let other : ends.ReadFault ≡ ends.Done = is in absurd cc
  answered file (Err streams.ReadFault) works is = record {
    graph = file.graph;
    gives = file.gives;
    works = record { taken = works.taken; takes = works.takes; written = works.written; writes = works.writes; ends = works.ends.1 };
    no_write_failed = works.ends.0.1;
  }
  answered file (Err streams.WriteFault) works is = let other : ends.ReadFault ≡ ends.WriteFault = is in absurd cc
  answered file (Err streams.TooMuchInput) works is = let other : ends.ReadFault ≡ ends.TooMuchInput = is in absurd cc
  answered file (Err streams.NoMemory) works is = let other : ends.ReadFault ≡ ends.NoMemory = is in absurd cc

  of_fleet : RunEnds (Ok (Fleet terms name names)) before now ends.ReadFault
      → LacksFiles name [] before now ends.ReadFault ⊎ WritesWholeLines IsAnswered name before now
  of_fleet (inl (inl lacks)) = inl lacks
  of_fleet (inl (inr file)) = by file.works
    where
      by : FleetDiagnosisEnds (fleet_problem file.graph terms names) before now ends.ReadFault → LacksFiles name [] before now ends.ReadFault ⊎ WritesWholeLines IsAnswered name before now
      by (inl many) = let other : ends.ReadFault ≡ ends.TooManyHypotheses many.fault = many.end_is in absurd cc
      by (inr few) = inr (answered file few.1.result few.1.works few.1.end_is)
  of_fleet (inr none) = let other : ends.ReadFault ≡ ends.NoMemory = none.1 in absurd cc

  answered_once : (fleet : FleetProblem) (result : Result (Unit {0}) StreamFault) → AnswersStream fleet (streams_of before) (streams_of now) result → HoldsOne before now
  answered_once fleet (Ok done) works = inl works.ends.no_fault.input
  answered_once fleet (Err streams.ReadFault) works = inr works.ends.0.1
  answered_once fleet (Err streams.WriteFault) works = inl works.ends.0.1
  answered_once fleet (Err streams.TooMuchInput) works = inl works.ends.0.1.input
  answered_once fleet (Err streams.NoMemory) works = inl works.ends.0.input

  one_of_fleet : (end : End) → RunEnds (Ok (Fleet terms name names)) before now end → HoldsOne before now
  one_of_fleet end (inl (inl lacks)) = untouched before now lacks.untouched
  one_of_fleet end (inl (inr file)) = by file.works
    where
      by : FleetDiagnosisEnds (fleet_problem file.graph terms names) before now end → HoldsOne before now
      by (inl many) = untouched before now many.untouched
      by (inr few) = answered_once (fleet_problem file.graph terms names) few.1.result few.1.works
  one_of_fleet end (inr none) = unchanged before now none.0

pub answers_in_time : AnswersComeInTime
answers_in_time terms name names = record { whole = of_fleet terms name names; not_both = one_of_fleet terms name names }
