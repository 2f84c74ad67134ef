-- Scripts: which lines spell one, and the first faulty line of lines that do not.
use Rattle.std.specs.Prelude.{◌≡◌, ◌⊎◌, ℕ, ◌+◌, ◌<◌, ◌≤◌, List, [], ◌∷◌, length, map, All, AllPairs, count_by, Bool, true, false, ◌==◌, IsTrue, codes, decimal}
use Rattle.std.specs.Option.{option_map_or}
use Rattle.tfpg_base.specs.Choice.{last_of}
use Rattle.tfpg_streams.specs.FaultyLine.{IsFaultyLine}
use Rattle.tfpg_base.specs.Words.{line_of}
use Rattle.tfpg_base.specs.declared.limits.TheConstants.{MAX_TIME}
use Rattle.tfpg_graph.specs.Graph.{Tfpg, is_kind_at, is_failure, name_word}
use Rattle.tfpg_log.specs.EventLines.{mode_word}
use Rattle.tfpg_log.specs.declared.limits.TheConstants.{MAX_MODE_CHANGES}
use Rattle.tfpg_sim.specs.declared.limits.TheConstants.{MAX_ENTRIES}
use Rattle.tfpg_sim.specs.declared.entry.Entry.{Entry}
use Rattle.tfpg_sim.specs.declared.entry.Entry.TheVariants.{Start, Mode, Sweep, Tick, Stop}

-- the words of a line of a script
abbrev pub words_of_entry : Tfpg → Entry → List (List ℕ)
words_of_entry graph (Start time node) = decimal time ∷ codes "start" ∷ name_word graph node ∷ []
words_of_entry graph (Mode time mode) = decimal time ∷ codes "mode" ∷ mode_word graph mode ∷ []
words_of_entry graph (Sweep time) = decimal time ∷ codes "sweep" ∷ []
words_of_entry graph (Tick time) = decimal time ∷ codes "tick" ∷ []
words_of_entry graph (Stop time) = decimal time ∷ codes "stop" ∷ []

-- the line
abbrev pub entry_line : Tfpg → Entry → List ℕ
entry_line graph entry = line_of (words_of_entry graph entry)

-- the time of a line
abbrev pub time_of_entry : Entry → ℕ
time_of_entry (Start time node) = time
time_of_entry (Mode time mode) = time
time_of_entry (Sweep time) = time
time_of_entry (Tick time) = time
time_of_entry (Stop time) = time

-- The line names what the graph has, and its time is not too large.
abbrev pub IsEntryOf : Tfpg → Entry → Type 0
IsEntryOf graph (Start time node) = (time ≤ MAX_TIME) × IsTrue (is_kind_at is_failure graph node)
IsEntryOf graph (Mode time mode) = (time ≤ MAX_TIME) × (mode < length graph.modes)
IsEntryOf graph entry = time_of_entry entry ≤ MAX_TIME

-- it is the stop
abbrev pub is_stop : Entry → Bool
is_stop (Stop time) = true
is_stop _ = false

-- it changes the mode
abbrev pub changes_mode : Entry → Bool
changes_mode (Mode time mode) = true
changes_mode _ = false

-- it starts this failure mode
abbrev pub starts : ℕ → Entry → Bool
starts failure (Start time node) = node == failure
starts failure _ = false

-- the time of the last line, and 0 where there is none
abbrev pub time_so_far : List Entry → ℕ
time_so_far entries = option_map_or time_of_entry (last_of entries) 0

-- the last line is the stop
abbrev pub has_stopped : List Entry → Bool
has_stopped entries = option_map_or is_stop (last_of entries) false

-- The lines spell these entries, with which a script may begin: each is of the graph, and the times never fall; no failure
-- mode starts twice, and nothing comes after the stop; and there are not too many entries and not too many changes of mode.
pub record SpellsEntries (graph : Tfpg) (lines : List (List ℕ)) (entries : List Entry) : Type 0 where
  pub spelled : lines ≡ map (entry_line graph) entries
  pub of_graph : All (IsEntryOf graph) entries
  pub in_order : AllPairs (λ earlier later. time_of_entry earlier ≤ time_of_entry later) entries
  pub once : (failure : ℕ) → count_by (starts failure) entries ≤ 1
  pub ended : AllPairs (λ earlier later. is_stop earlier ≡ false) entries
  pub few : length entries ≤ MAX_ENTRIES
  pub few_changes : count_by changes_mode entries ≤ MAX_MODE_CHANGES

-- The lines spell this script, of which the last entry is the stop.
pub record SpellsScript (graph : Tfpg) (lines : List (List ℕ)) (entries : List Entry) : Type 0 where
  pub begun : SpellsEntries graph lines entries
  pub stops : IsTrue (has_stopped entries)

-- A script may begin with these lines.
abbrev pub BeginsScript : Tfpg → List (List ℕ) → Type 0
BeginsScript graph lines = (entries : List Entry) × SpellsEntries graph lines entries

-- Where lines are no script: their first faulty line; or, where a script may begin with all of them and yet they are none,
-- the line after the last.
abbrev pub IsScriptFault : Tfpg → List (List ℕ) → ℕ → Type 0
IsScriptFault graph lines number =
    IsFaultyLine (BeginsScript graph) lines number
    ⊎ (BeginsScript graph lines × ((entries : List Entry) → SpellsScript graph lines entries → ⊥)
    × (number ≡ length lines + 1))
