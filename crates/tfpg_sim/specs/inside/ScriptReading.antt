-- How a script is read: what each line says, which line may come after which, and the first line at fault. That this is
-- what the definition of scripts says is shown in the proofs.
use Rattle.std.specs.Prelude.{ℕ, ◌+◌, List, [], ◌∷◌, ◌++◌, length, fold, count_by, Bool, true, not, ◌&&◌, nat_lt, nat_le, if◌then◌else◌, Option, Some, None, option_map, option_and_then, Result, Ok, Err, codes, bytes_eq}
use Rattle.std.specs.List.{list_any}
use Rattle.std.specs.Bool.{then_some}
use Rattle.tfpg_base.specs.Words.{words_of, number_of}
use Rattle.tfpg_base.specs.Lines.{lines_of}
use Rattle.tfpg_base.specs.declared.limits.TheConstants.{MAX_TIME}
use Rattle.tfpg_graph.specs.Graph.{Tfpg, is_kind_at, is_failure, node_named, mode_named}
use Rattle.tfpg_log.specs.declared.limits.TheConstants.{MAX_MODE_CHANGES}
use Rattle.tfpg_sim.specs.declared.limits.TheConstants.{MAX_ENTRIES}
use Rattle.tfpg_sim.specs.declared.entry.Entry.{Entry}
use Rattle.tfpg_sim.specs.declared.entry.Entry.TheVariants.{Start, Mode, Sweep, Tick, Stop}
use Rattle.tfpg_sim.specs.Script.{time_of_entry, changes_mode, starts, time_so_far, has_stopped}

-- the time that a word spells, where it is a number and not too large
abbrev pub time_in : List ℕ → Option ℕ
time_in word = option_and_then (λ time. then_some (nat_le time MAX_TIME) time) (number_of word)

-- the failure mode of this name
abbrev pub failure_named : Tfpg → List ℕ → Option ℕ
failure_named graph name =
    option_and_then (λ node. then_some (is_kind_at is_failure graph node) node) (node_named graph name)

-- what a line says by the one word after its time
abbrev pub entry_alone : List ℕ → ℕ → Option Entry
entry_alone word time =
    if bytes_eq word (codes "sweep") then Some (Sweep time)
    else (if bytes_eq word (codes "tick") then Some (Tick time)
    else (if bytes_eq word (codes "stop") then Some (Stop time) else None))

-- what it says by a word and a name
abbrev pub entry_with_name : Tfpg → List ℕ → List ℕ → ℕ → Option Entry
entry_with_name graph word name time =
    if bytes_eq word (codes "start") then option_map (λ node. Start time node) (failure_named graph name)
    else (if bytes_eq word (codes "mode") then option_map (λ mode. Mode time mode) (mode_named graph name) else None)

-- what a line of these words says, where they have one of the five shapes and its time and name are right
abbrev pub entry_in : Tfpg → List (List ℕ) → Option Entry
entry_in graph [] = None
entry_in graph (time ∷ []) = None
entry_in graph (time ∷ word ∷ []) = option_and_then (λ t. entry_alone word t) (time_in time)
entry_in graph (time ∷ word ∷ name ∷ []) = option_and_then (λ t. entry_with_name graph word name t) (time_in time)
entry_in graph (time ∷ word ∷ name ∷ more ∷ others) = None

-- what a line says
abbrev pub entry_of : Tfpg → List ℕ → Option Entry
entry_of graph line = entry_in graph (words_of line)

-- A start is the first of its failure mode, and a change of mode is not one too many.
abbrev pub is_new : List Entry → Entry → Bool
is_new before (Start time node) = not (list_any (starts node) before)
is_new before (Mode time mode) = nat_lt (count_by changes_mode before) MAX_MODE_CHANGES
is_new before (Sweep time) = true
is_new before (Tick time) = true
is_new before (Stop time) = true

-- The line may come after these: they are not too many and have no stop, and its time is not before theirs.
abbrev pub may_follow : List Entry → Entry → Bool
may_follow before entry =
    nat_lt (length before) MAX_ENTRIES
    && (not (has_stopped before) && (nat_le (time_so_far before) (time_of_entry entry) && is_new before entry))

-- what a line after these says, where it is right
abbrev pub next_entry : Tfpg → List Entry → List ℕ → Option Entry
next_entry graph before line =
    option_and_then (λ entry. then_some (may_follow before entry) entry) (entry_of graph line)

-- The line is at fault where nothing right is said.
abbrev pub with_next : List Entry → Option Entry → Result (List Entry) ℕ
with_next before None = Err (length before + 1)
with_next before (Some entry) = Ok (before ++ entry ∷ [])

-- what is read with one line more, or the number of the first line at fault
abbrev pub with_script_line : Tfpg → Result (List Entry) ℕ → List ℕ → Result (List Entry) ℕ
with_script_line graph (Ok before) line = with_next before (next_entry graph before line)
with_script_line graph (Err number) line = Err number

-- what the lines say, or the number of the first line at fault
abbrev pub read_lines : Tfpg → List (List ℕ) → Result (List Entry) ℕ
read_lines graph lines = fold (with_script_line graph) (Ok []) lines

-- Where the stop is missing, the line after the last is at fault.
abbrev pub stopped : Result (List Entry) ℕ → Result (List Entry) ℕ
stopped (Err number) = Err number
stopped (Ok entries) = if has_stopped entries then Ok entries else Err (length entries + 1)

-- the lines of a script, of which the last is the stop, or the number of the first line at fault
abbrev pub script_of : Tfpg → List ℕ → Result (List Entry) ℕ
script_of graph text = stopped (read_lines graph (lines_of text))
