-- Reading the map of the input, under way and ended.
use Rattle.std.specs.Prelude.{◌≡◌, ◌⊎◌, ℕ, ◌+◌, ◌≤◌, List, length, take, Some, None, Result, Ok, Err}
use Rattle.tfpg_base.specs.declared.line.Line.TheVariants as line
use Rattle.tfpg_base.specs.Lines.{Reading, LinesState, LinesRepresent, lines_of}
use Rattle.tfpg_base.specs.declared.limits.TheConstants.{MAX_BYTES}
use Rattle.tfpg_base.specs.Outside.{SourceState, Takes, IsAtEnd}
use Rattle.tfpg_graph.specs.Graph.{Tfpg}
use Rattle.tfpg_map.specs.declared.map.Map.{Map}
use Rattle.tfpg_map.specs.declared.map.MapReader.{MapReader}
use Rattle.tfpg_map.specs.declared.map.NoMap.{NoMap}
use Rattle.tfpg_map.specs.declared.map.NoMap.TheVariants.{Refused}
use Rattle.tfpg_map.specs.declared.reading.NextMapLine.{NextMapLine}
use Rattle.tfpg_map.specs.declared.reading.NextMapLine.TheVariants.{Read, Ended}
use Rattle.tfpg_map.specs.inside.Lines.{MapRepresents}

-- the reading of a map at one moment: the input, the reader of lines and the reader of the map
pub record MapReadingState : Type 0 where
  pub input : SourceState
  pub lines : LinesState
  pub map : MapReader

-- the reading of a map with these
abbrev pub map_reading_at : SourceState → LinesState → MapReader → MapReadingState
map_reading_at input lines map = record { input = input; lines = lines; map = map }

-- Reading that began with this input has come to this: each line that was returned is read, and nothing has failed.
pub record IsReadingMap (graph : Tfpg) (before : SourceState) (now : MapReadingState) : Type 0 where
  pub reading : Reading
  pub takes : Takes before now.input reading.taken
  pub few : length reading.taken ≤ MAX_BYTES
  pub represents : LinesRepresent now.lines reading
  pub goes_on : (reading.ended ≡ None) ⊎ ((reading.ended ≡ Some (Ok line.End)) × IsAtEnd now.input)
  pub front : take (length reading.given) (lines_of reading.taken) ≡ reading.given
  pub read : MapRepresents graph now.map reading.given
  pub no_fault : now.input.faults ≡ before.faults

-- The whole input was taken, and each of its lines is read.
pub record HasReadAll (graph : Tfpg) (before now : SourceState) (map : MapReader) : Type 0 where
  pub taken : List ℕ
  pub takes : Takes before now taken
  pub few : length taken ≤ MAX_BYTES
  pub at_end : IsAtEnd now
  pub read : MapRepresents graph map (lines_of taken)
  pub no_fault : now.faults ≡ before.faults

-- What reading the line after that of this number leads to: reading is under way still, one line on; or all is read.
abbrev pub ReadsOn : Tfpg → SourceState → ℕ → MapReadingState → NextMapLine → Type 0
ReadsOn graph before number now Read = IsReadingMap graph before now × (now.lines.number ≡ number + 1)
ReadsOn graph before number now Ended = HasReadAll graph before now.input now.map

-- what a reader that has read all lines gives: its map, or that there is no line
abbrev pub ReturnsMap : MapReader → Result Map NoMap → Type 0
ReturnsMap reader (Ok map) = (reader.hypothesis ≡ Some map.hypothesis) × (reader.trace ≡ map.trace)
ReturnsMap reader (Err fault) = (reader.hypothesis ≡ None) × (fault ≡ Refused 1)
