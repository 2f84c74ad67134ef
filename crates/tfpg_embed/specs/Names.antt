-- The names of a graph and their indexes, as C asks for them.
use Rattle.std.specs.Prelude.{ℕ, List, ◌==◌, if◌then◌else◌, Option, None, slice_get, option_and_then}
use Rattle.std.specs.Option.{option_map_or}
use Rattle.tfpg_graph.specs.Graph.{Tfpg, name_at, failure_at, node_named, mode_named, position_of_failure}
use Rattle.tfpg_embed.specs.declared.answer.TfpgAnswer.{TfpgAnswer}
use Rattle.tfpg_embed.specs.declared.kinds.TheConstants.{NODE_NAME, FAILURE_NAME, MODE_NAME}
use Rattle.tfpg_embed.specs.declared.status.TheConstants.{DONE, NO_SUCH}
use Rattle.tfpg_embed.specs.Answers.{answer_of_text, answer_with}
use Rattle.tfpg_embed.specs.Rooms.{room_after}

-- the name of what has this index: of a node by its number, of a failure mode by its position, or of a mode
abbrev pub name_in : Tfpg → ℕ → ℕ → Option (List ℕ)
name_in graph kind index =
    if kind == NODE_NAME then name_at graph index
    else (if kind == FAILURE_NAME then option_and_then (name_at graph) (failure_at graph index)
    else (if kind == MODE_NAME then slice_get graph.modes index else None))

-- the index of what has this name
abbrev pub index_in : Tfpg → ℕ → List ℕ → Option ℕ
index_in graph kind name =
    if kind == NODE_NAME then node_named graph name
    else (if kind == FAILURE_NAME then option_and_then (position_of_failure graph) (node_named graph name)
    else (if kind == MODE_NAME then mode_named graph name else None))

-- the answer about a name, with a room of so many bytes
abbrev pub answer_of_name : Option (List ℕ) → ℕ → TfpgAnswer
answer_of_name name room = option_map_or (λ bytes. answer_of_text bytes room) name (answer_with NO_SUCH)

-- the room after that
abbrev pub room_after_name : Option (List ℕ) → List ℕ → List ℕ
room_after_name name room = option_map_or (λ bytes. room_after bytes room) name room

-- the answer about an index
abbrev pub answer_of_index : Option ℕ → TfpgAnswer
answer_of_index index = option_map_or (λ _. answer_with DONE) index (answer_with NO_SUCH)
