-- The times of a trace by node, as a list.
use Rattle.std.specs.Prelude.{◌≡◌, ℕ, List, Option, None, slice_index_or}
use Rattle.tfpg_base.specs.declared.activation.Activation.{Activation}
use Rattle.tfpg_base.specs.Trace.{time_of}

-- The list has the time of each node that the trace gives one, at its number, and no other.
abbrev pub HasTimes : List (Option ℕ) → List Activation → Type 0
HasTimes by_node trace = (node : ℕ) → slice_index_or by_node node None ≡ time_of trace node
