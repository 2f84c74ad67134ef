-- How the counted calls of a search are paid: by bounds that are set, by alternatives that are entered, and by steps.
use Rattle.std.specs.Prelude.{◌≡◌, ℕ, ◌+◌, ◌*◌, ◌-◌, ◌≤◌, length, Result, OnOk}
use Rattle.tfpg_search.specs.declared.add_fault.AddFault.{AddFault}
use Rattle.tfpg_search.specs.inside.Leaf.{Leaf, bounds_in}
use Rattle.tfpg_search.specs.SearchState.{SearchState}
use Rattle.tfpg_search.specs.Searched.{SearchCall}
use Rattle.tfpg_search.specs.Work.{NodeBounds, changed_bounds}

-- how many bounds of the system are not yet set to these
abbrev pub unset : NodeBounds → Leaf → ℕ
unset bounds leaf = changed_bounds (bounds_in leaf) bounds

-- The count went from one number to the other, by as many calls as the system counted.
abbrev pub CountsAlike : Leaf → Leaf → ℕ → ℕ → Type 0
CountsAlike old new before after = new.calls + before ≡ old.calls + after

-- The calls that bring the system to its leaf: one for each bound that differs, and three where an alternative is not entered.
abbrev pub due : NodeBounds → SearchState → ℕ
due bounds search = unset bounds search.leaf + 3 * (length search.path - length search.entered)

-- The count went from one number to the other, by a call for each bound that was set, and one more at a fault.
pub record CountsFacts (bounds : NodeBounds) (old new : Leaf) (before after : ℕ) (result : Result (Unit {0}) AddFault) : Type 0 where
  pub ok : OnOk result (after + unset bounds new ≤ before + unset bounds old)
  pub any : after + unset bounds new ≤ before + unset bounds old + 1

-- The count went from one number to the other, by calls that were due, four for each step that was appended, and one more.
abbrev pub IsPaid : NodeBounds → SearchCall → ℕ → ℕ → Type 0
IsPaid bounds call before after =
    after + unset bounds call.new.leaf + 4 * length call.before ≤ before + due bounds call.old + 4 * length call.after + 1
