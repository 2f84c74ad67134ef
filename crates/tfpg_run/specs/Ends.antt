-- The status and the line for each end of the program.
use Rattle.std.specs.Prelude.{ℕ, List, [], ◌∷◌, codes, decimal}
use Rattle.tfpg_base.specs.Words.{line_of}
use Rattle.tfpg_run.specs.declared.end.End.{End}
use Rattle.tfpg_run.specs.declared.end.End.TheVariants.{Done, NotAccepted, Usage, Graph, TooManyHypotheses, ReadFault, WriteFault, TooMuchInput, NoMemory}
use Rattle.tfpg_graph.specs.CauseNames.{graph_cause_name}
use Rattle.tfpg_check.specs.CauseNames.{check_cause_name}
use Rattle.tfpg_words.specs.CauseNames.{usage_name}

-- the status with which the program exits
abbrev pub status_of : End → ℕ
status_of Done = 0
status_of (NotAccepted line cause) = 1
status_of (Usage cause) = 2
status_of (Graph line cause) = 3
status_of (TooManyHypotheses count) = 4
status_of ReadFault = 5
status_of WriteFault = 6
status_of TooMuchInput = 7
status_of NoMemory = 8

-- what is said of an end; nothing of one that is done
abbrev pub line_of_end : End → List ℕ
line_of_end Done = []
line_of_end (NotAccepted line cause) =
    line_of (codes "not" ∷ codes "accepted" ∷ decimal line ∷ check_cause_name cause ∷ [])
line_of_end (Usage cause) = line_of (codes "usage" ∷ usage_name cause ∷ [])
line_of_end (Graph line cause) = line_of (codes "graph" ∷ decimal line ∷ graph_cause_name cause ∷ [])
line_of_end (TooManyHypotheses count) = line_of (codes "too" ∷ codes "many" ∷ codes "hypotheses" ∷ decimal count ∷ [])
line_of_end ReadFault = codes "read fault"
line_of_end WriteFault = codes "write fault"
line_of_end TooMuchInput = codes "too much input"
line_of_end NoMemory = codes "no memory"
