-- The line of an event that is given by numbers.
use Rattle.std.specs.Prelude.{ℕ, List, [], ◌∷◌, ◌==◌, if◌then◌else◌, unwrap_or, codes, decimal, slice_get}
use Rattle.tfpg_base.specs.Words.{line_of}
use Rattle.tfpg_graph.specs.Graph.{Tfpg, name_at}
use Rattle.tfpg_embed.specs.declared.kinds.TheConstants.{ALARM, SILENT, SWEEP, TICK, MODE}

-- A word of 33 bytes. No node and no mode has it as its name, since names have at most 32 bytes.
abbrev pub no_name : List ℕ
no_name = codes "xxxxxxxxxxxxxxxxxxxxxxxxxxxxxxxxx"

-- The words of the line of an event of this kind at this time, for the node or the mode of this index. If none has it, there is a word in the
-- place of its name that is no name. If there is no such kind, there is the time alone.
abbrev pub words_of_event : Tfpg → ℕ → ℕ → ℕ → List (List ℕ)
words_of_event graph time kind index =
    if kind == ALARM then decimal time ∷ codes "alarm" ∷ unwrap_or (name_at graph index) no_name ∷ []
    else (if kind == SILENT then decimal time ∷ codes "silent" ∷ unwrap_or (name_at graph index) no_name ∷ []
    else (if kind == SWEEP then decimal time ∷ codes "sweep" ∷ []
    else (if kind == TICK then decimal time ∷ codes "tick" ∷ []
    else (if kind == MODE then decimal time ∷ codes "mode" ∷ unwrap_or (slice_get graph.modes index) no_name ∷ []
    else decimal time ∷ []))))

-- the line of that event
abbrev pub line_of_event : Tfpg → ℕ → ℕ → ℕ → List ℕ
line_of_event graph time kind index = line_of (words_of_event graph time kind index)
