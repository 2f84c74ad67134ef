-- What a command writes, for any notion of what is right to write: one text at its end, or line by line as it reads.
use Rattle.std.specs.Prelude.{◌≡◌, ◌⊎◌, ◌++◌, ℕ, ◌+◌, ◌<◌, ◌≤◌, List, [], length, take, Result, Ok, Err}
use Rattle.tfpg_base.specs.Lines.{lines_of, whole_lines}
use Rattle.tfpg_base.specs.declared.limits.TheConstants.{MAX_BYTES}
use Rattle.tfpg_base.specs.Outside.{SourceState, SinkState, Rose, Takes, Puts, IsAtEnd}
use Rattle.tfpg_streams.specs.declared.fault.OutputFault.{OutputFault}
use Rattle.tfpg_streams.specs.declared.fault.OutputFault.TheVariants as output
use Rattle.tfpg_streams.specs.declared.fault.StreamFault.{StreamFault}
use Rattle.tfpg_streams.specs.declared.fault.StreamFault.TheVariants.{ReadFault, WriteFault, TooMuchInput, NoMemory}
use Rattle.tfpg_streams.specs.Streams.{Streams, HasLeft, CountsUnchanged}

-- A text that is right was written whole, and the output did not fail.
pub record WritesText (IsRight : List ℕ → Type 0) (before now : SinkState) : Type 0 where
  pub text : List ℕ
  pub right : IsRight text
  pub writes : Puts before now text
  pub no_fault : now.faults ≡ before.faults

-- The output failed, and what was written begins a text that is right, and is not all of it.
pub record BeginsText (IsRight : List ℕ → Type 0) (before now : SinkState) : Type 0 where
  pub front : List ℕ
  pub rest : List ℕ
  pub right : IsRight (front ++ rest)
  pub some_left : 0 < length rest
  pub writes : Puts before now front
  pub rose : Rose before.faults now.faults

-- How the writing of one text ends, which is to be right. Before the whole text is known, nothing is written.
abbrev pub TextEnds : (List ℕ → Type 0) → SinkState → SinkState → Result (Unit {0}) OutputFault → Type 0
TextEnds IsRight before now (Ok done) = WritesText IsRight before now
TextEnds IsRight before now (Err output.WriteFault) = BeginsText IsRight before now
TextEnds IsRight before now (Err output.NoMemory) = now ≡ before

-- The whole input was taken, at most 2^32 bytes, what is right for its lines was written, and nothing failed.
pub record WritesOutput (IsRight : List (List ℕ) → List ℕ → Type 0) (before now : Streams)
    (taken written : List ℕ) : Type 0 where
  pub right : IsRight (lines_of taken) written
  pub few : length taken ≤ MAX_BYTES
  pub at_end : IsAtEnd now.input
  pub no_fault : CountsUnchanged before now

-- The bytes are right for the first lines of the input: of what was taken from it and what it has left.
pub record HasOutputOfFirstLines (IsRight : List (List ℕ) → List ℕ → Type 0) (input : SourceState)
    (taken bytes : List ℕ) : Type 0 where
  pub rest : List ℕ
  pub left : HasLeft input rest
  pub count : ℕ
  pub within : count ≤ length (lines_of (taken ++ rest))
  pub right : IsRight (take count (lines_of (taken ++ rest))) bytes

-- Why the work with the streams stopped, where these bytes were taken: the input failed, and the output did not; or the
-- output failed, and the input did not; or the input is too long, or memory ran out, and neither failed.
abbrev pub IsStreamFault : Streams → Streams → List ℕ → StreamFault → Type 0
IsStreamFault before now taken ReadFault =
    Rose before.input.faults now.input.faults × (now.output.faults ≡ before.output.faults)
IsStreamFault before now taken WriteFault =
    Rose before.output.faults now.output.faults × (now.input.faults ≡ before.input.faults)
IsStreamFault before now taken TooMuchInput = (length taken ≡ MAX_BYTES + 1) × CountsUnchanged before now
IsStreamFault before now taken NoMemory = CountsUnchanged before now

-- What was written by then, where this is right to write for lines, and where this begins it. A failed write alone may cut it.
abbrev pub IsWrittenBefore : (List (List ℕ) → List ℕ → Type 0) → (List (List ℕ) → List ℕ → Type 0) → SourceState → List ℕ → List ℕ
    → StreamFault → Type 0
-- What is right for the lines that came whole.
IsWrittenBefore IsRight Begins input taken written ReadFault = IsRight (whole_lines taken) written
-- What is right for the lines that came whole in the first 2^32 bytes.
IsWrittenBefore IsRight Begins input taken written TooMuchInput = IsRight (whole_lines (take MAX_BYTES taken)) written
-- A beginning, up to any byte, of what is right for the first lines.
IsWrittenBefore IsRight Begins input taken written WriteFault = HasOutputOfFirstLines Begins input taken written
-- Nothing, or what is right for the first lines.
IsWrittenBefore IsRight Begins input taken written NoMemory =
    ((written ≡ []) × HasOutputOfFirstLines Begins input taken written) ⊎ HasOutputOfFirstLines IsRight input taken written

-- Bytes were taken from the input and others written, and so it ended, by what both are.
pub record TakesAndWrites (Ends : List ℕ → List ℕ → Type 0) (before now : Streams) : Type 0 where
  pub taken : List ℕ
  pub takes : Takes before.input now.input taken
  pub written : List ℕ
  pub writes : Puts before.output now.output written
  pub ends : Ends taken written

-- Bytes were taken and others written line by line, to the end of the input.
abbrev pub WorksToEnd : (List (List ℕ) → List ℕ → Type 0) → Streams → Streams → Type 0
WorksToEnd IsRight before now = TakesAndWrites (WritesOutput IsRight before now) before now

-- How reading and writing line by line ends, where these bytes were taken, and these were written.
abbrev pub LineByLineEnds : (List (List ℕ) → List ℕ → Type 0) → (List (List ℕ) → List ℕ → Type 0) → Streams → Streams
    → Result (Unit {0}) StreamFault → List ℕ → List ℕ → Type 0
LineByLineEnds IsRight Begins before now (Ok done) taken written = WritesOutput IsRight before now taken written
LineByLineEnds IsRight Begins before now (Err fault) taken written =
    IsStreamFault before now taken fault × IsWrittenBefore IsRight Begins now.input taken written fault

-- Bytes were taken and others written line by line, with this result: what is right, or what begins it.
abbrev pub WorksLineByLine : (List (List ℕ) → List ℕ → Type 0) → (List (List ℕ) → List ℕ → Type 0) → Streams → Streams
    → Result (Unit {0}) StreamFault → Type 0
WorksLineByLine IsRight Begins before now result = TakesAndWrites (LineByLineEnds IsRight Begins before now result) before now
