-- What contracts see of a search.
use Rattle.std.specs.Prelude.{ℕ, List}
use Rattle.tfpg_graph.specs.Graph.{Tfpg}
use Rattle.tfpg_log.specs.Log.{Logbook}
use Rattle.tfpg_clause.specs.Case.{Case, case_of}
use Rattle.tfpg_clause.specs.declared.path.PathSplit.{PathSplit}
use Rattle.tfpg_search.specs.inside.Leaf.{Leaf}

-- A search: its set and what that reaches, and how many events it has seen. What it keeps of its tree is there for the
-- proofs, and no promise reads it but which system it has and how many calls that has counted: the splits on the path to the present
-- leaf with how many picks stood before each, and the system of that leaf.
pub record SearchState : Type 0 where
  pub set : List ℕ
  pub reach : List ℕ
  pub seen : ℕ
  pub path : List PathSplit
  pub entered : List ℕ
  pub leaf : Leaf

-- how many counted calls of its system there were: those of `raise`, `lower` and `push`
abbrev pub calls_of_search : SearchState → ℕ
calls_of_search search = search.leaf.calls

-- the case that a search is about
abbrev pub case_of_search : Tfpg → Logbook → SearchState → Case
case_of_search graph log search = case_of graph log search.reach
