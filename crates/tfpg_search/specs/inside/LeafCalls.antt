-- What calls on the system of a leaf come to, whatever the facts are and whatever is stated.
use Rattle.std.specs.Prelude.{◌≡◌, [], ◌∷◌, ◌++◌, length, Option, Some, Result, OnOk, OnErr, IfErr}
use Rattle.tfpg_base.specs.declared.constraint.Constraint.{Constraint}
use Rattle.tfpg_evidence.specs.declared.reason.Reason.{Reason}
use Rattle.tfpg_search.specs.declared.add_fault.AddFault.{AddFault}
use Rattle.tfpg_search.specs.inside.Closing.{Closes}
use Rattle.tfpg_search.specs.inside.Leaf.{Leaf, pick_reasons, IsStated}

-- All that the system demands afterwards is stated, and the reasons of a conflict close the leaf.
pub record IsStatedAfter (fact stated : Reason → Option Constraint) (new : Leaf) (result : Result (Unit {0}) AddFault) : Type 0 where
  pub still : IsStated fact stated new
  pub closes : IfErr result (Closes stated)

-- A bound was added by a reason that states this constraint as a fact. What was stated before is so afterwards, and at a fault
-- nothing changed but what was counted.
pub record AddsFact (reason : Reason) (constraint : Constraint) (old new : Leaf) (result : Result (Unit {0}) AddFault) : Type 0 where
  pub err : OnErr result (new ≡ record old { calls = new.calls })
  pub entered : new.entered ≡ old.entered
  pub nodes : length new.demands.bounds ≡ length old.demands.bounds
  pub reasons : pick_reasons new ≡ pick_reasons old
  pub stated : (fact states : Reason → Option Constraint) → IsStated fact states old → fact reason ≡ Some constraint
      → IsStatedAfter fact states new result

-- A pick was added by a reason that states this constraint. What was stated before is so afterwards, and at a fault nothing
-- changed but what was counted.
pub record AddsPick (reason : Reason) (constraint : Constraint) (old new : Leaf) (result : Result (Unit {0}) AddFault) : Type 0 where
  pub err : OnErr result (new ≡ record old { calls = new.calls })
  pub entered : new.entered ≡ old.entered
  pub bounds : new.demands.bounds ≡ old.demands.bounds
  pub reasons : OnOk result (pick_reasons new ≡ pick_reasons old ++ reason ∷ [])
  pub stated : (fact states : Reason → Option Constraint) → IsStated fact states old → states reason ≡ Some constraint
      → IsStatedAfter fact states new result

-- All facts were added, or some at a fault. What was stated before is so afterwards.
pub record AddsFacts (fact : Reason → Option Constraint) (old new : Leaf) (result : Result (Unit {0}) AddFault) : Type 0 where
  pub entered : new.entered ≡ old.entered
  pub nodes : length new.demands.bounds ≡ length old.demands.bounds
  pub reasons : pick_reasons new ≡ pick_reasons old
  pub stated : (states : Reason → Option Constraint) → IsStated fact states old → IsStatedAfter fact states new result
