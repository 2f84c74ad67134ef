-- What the reader returns for a line, beside what the line makes of its state. Out of memory may come in place of each.
use Rattle.std.specs.Prelude.{◌≡◌, ℕ, List, Result, Ok, Err}
use Rattle.tfpg_graph.specs.declared.cause.GraphCause.{GraphCause}
use Rattle.tfpg_graph.specs.declared.cause.GraphRefusal.{GraphRefusal}
use Rattle.tfpg_graph.specs.declared.cause.GraphRefusal.TheVariants as text
use Rattle.tfpg_graph.specs.declared.reading.reader.GraphLineRefusal.{GraphLineRefusal}
use Rattle.tfpg_graph.specs.declared.reading.reader.GraphLineRefusal.TheVariants as line
use Rattle.tfpg_graph.specs.Faults.{IsClean, IsWholeFault}
use Rattle.tfpg_graph.specs.declared.reading.reader.Reader.{Reader}

-- The reader's result for a line is what the line makes of its state, unless memory ran out.
abbrev pub IsTurnResult : Result Reader GraphCause → Result Reader GraphLineRefusal → Type 0
IsTurnResult turned (Ok progress) = turned ≡ Ok progress
IsTurnResult turned (Err (line.Cause cause)) = turned ≡ Err cause
IsTurnResult turned (Err line.NoMemory) = Unit {0}

-- the refusal of a text, where a line of this number is refused so
abbrev pub refusal_at : GraphLineRefusal → ℕ → GraphRefusal
refusal_at (line.Cause cause) number = text.Fault (record { line = number; cause = cause })
refusal_at line.NoMemory number = text.NoMemory

-- The refusal of a text none of whose lines has a cause: it is that of the whole text.
abbrev pub IsEndRefusal : List (List ℕ) → GraphRefusal → Type 0
IsEndRefusal lines (text.Fault fault) = IsClean lines × IsWholeFault lines fault
IsEndRefusal lines text.NoMemory = Unit {0}
