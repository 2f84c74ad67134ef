-- The map of the input, or why there is none.
use Rattle.std.specs.Prelude.{◌≡◌, ◌++◌, ℕ, ◌≤◌, List, [], length, ◌+◌, take}
use Rattle.tfpg_base.specs.declared.limits.TheConstants.{MAX_BYTES}
use Rattle.tfpg_base.specs.Lines.{lines_of, whole_lines}
use Rattle.tfpg_base.specs.Outside.{SourceState, IsAtEnd, Rose, Takes}
use Rattle.tfpg_graph.specs.Graph.{Tfpg}
use Rattle.tfpg_streams.specs.Streams.{HasLeft}
use Rattle.tfpg_map.specs.Spelling.{SpellsMap, IsMapFault, BeginsMap}
use Rattle.tfpg_map.specs.declared.map.Map.{Map}
use Rattle.tfpg_map.specs.declared.map.NoMap.{NoMap}
use Rattle.tfpg_map.specs.declared.map.NoMap.TheVariants.{Refused, Lines, NoMemory}
use Rattle.tfpg_base.specs.declared.line.LineFault.TheVariants.{ReadFault, TooMuchInput}

-- The input is what was taken and what is left. Its lines are no map, and this is the number of the first faulty one.
-- An input without a line was read to its end. Nothing failed.
pub record RefusesMap (graph : Tfpg) (before now : SourceState) (taken : List ℕ) (number : ℕ) : Type 0 where
  pub rest : List ℕ
  pub left : HasLeft now rest
  pub fault : IsMapFault graph (lines_of (taken ++ rest)) number
  pub ended : lines_of (taken ++ rest) ≡ [] → IsAtEnd now
  pub no_fault : now.faults ≡ before.faults

-- The whole input was taken, at most 2^32 bytes, and its lines spell this map. Nothing failed.
pub record ReadsMap (graph : Tfpg) (before now : SourceState) (map : Map) : Type 0 where
  pub taken : List ℕ
  pub takes : Takes before now taken
  pub spells : SpellsMap graph (lines_of taken) map.hypothesis map.trace
  pub few : length taken ≤ MAX_BYTES
  pub at_end : IsAtEnd now
  pub no_fault : now.faults ≡ before.faults

-- what shows why there is no map, where these bytes were taken
abbrev pub ShowsNoMap : Tfpg → SourceState → SourceState → List ℕ → NoMap → Type 0
ShowsNoMap graph before now taken (Refused number) = RefusesMap graph before now taken number
ShowsNoMap graph before now taken (Lines ReadFault) = Rose before.faults now.faults × BeginsMap graph (whole_lines taken)
ShowsNoMap graph before now taken (Lines TooMuchInput) =
    (length taken ≡ MAX_BYTES + 1) × BeginsMap graph (whole_lines (take MAX_BYTES taken)) × (now.faults ≡ before.faults)
ShowsNoMap graph before now taken NoMemory = now.faults ≡ before.faults

-- The input gives no map, with this cause.
pub record LacksMap (graph : Tfpg) (before now : SourceState) (fault : NoMap) : Type 0 where
  pub taken : List ℕ
  pub takes : Takes before now taken
  pub shown : ShowsNoMap graph before now taken fault
