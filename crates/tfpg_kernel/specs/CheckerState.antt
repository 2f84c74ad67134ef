-- What contracts see of a checker.
use Rattle.std.specs.Prelude.{ℕ, List, Bool}
use Rattle.tfpg_clause.specs.declared.path.PathSplit.{PathSplit}

-- A checker: the nodes that the set reaches, the splits on the path to the present leaf from the root on with their marks, whether
-- the tree is closed, and for how many more splits on the path there is room.
pub record CheckerState : Type 0 where
  pub reach : List ℕ
  pub path : List PathSplit
  pub closed : Bool
  pub spare : ℕ
