-- What entering and leaving alternatives does to the system.
use Rattle.std.specs.Prelude.{◌≡◌, ℕ, List, [], ◌∷◌, ◌++◌, length, take, Bool, true, false, IsTrue, Option, Some, None, is_some}
use Rattle.std.specs.Option.{option_map_or}
use Rattle.tfpg_base.specs.declared.constraint.Constraint.{Constraint}
use Rattle.tfpg_evidence.specs.declared.reason.Reason.{Reason}
use Rattle.tfpg_graph.specs.Graph.{Tfpg}
use Rattle.tfpg_log.specs.Log.{Logbook}
use Rattle.tfpg_clause.specs.Facts.{fact}
use Rattle.tfpg_clause.specs.Case.{Case}
use Rattle.tfpg_clause.specs.inside.MarkedTrees.{stated_on}
use Rattle.tfpg_clause.specs.declared.path.PathSplit.{PathSplit}
use Rattle.tfpg_base.specs.Choice.{item_at}
use Rattle.tfpg_search.specs.inside.Leaf.{Leaf, IsStated, pick_reasons}
use Rattle.tfpg_search.specs.inside.Picks.{constraint_count}

-- how many constraints were picked at the split of this number
abbrev pub constraint_count_at : Tfpg → Logbook → List PathSplit → ℕ → ℕ
constraint_count_at graph log path split = option_map_or (constraint_count graph log) (item_at path split) 0

-- The bounds are as they were, and so is all that is stated.
pub record KeepsBounds (old new : Leaf) : Type 0 where
  pub variables : length new.demands.bounds ≡ length old.demands.bounds
  pub stated : (fact stated : Reason → Option Constraint) → IsStated fact stated old → IsStated fact stated new

-- Where there is such a number, the picks after so many are dropped.
abbrev pub Leaves : Option ℕ → Leaf → Leaf → Type 0
Leaves None old new = new ≡ old
Leaves (Some count) old new = KeepsBounds old new × (pick_reasons new ≡ take count (pick_reasons old))

-- Constraints of the alternatives on the path were pushed, or none: all is stated still, and the picks go on from the old ones.
pub record Pushing (case : Case) (path : List PathSplit) (old new : Leaf) : Type 0 where
  pub variables : length new.demands.bounds ≡ length old.demands.bounds
  pub stated : IsStated (fact case) (stated_on case path) new
  pub more : (added : List Reason) × (pick_reasons new ≡ pick_reasons old ++ added)

-- Where there is a constraint, it was pushed with its reason. The call returns whether there is one.
abbrev pub PushesOne : Option Constraint → Reason → Leaf → Leaf → Bool → Type 0
PushesOne constraint reason old new true = (pick_reasons new ≡ pick_reasons old ++ reason ∷ []) × IsTrue (is_some constraint)
PushesOne constraint reason old new false = (pick_reasons new ≡ pick_reasons old) × (constraint ≡ None)
