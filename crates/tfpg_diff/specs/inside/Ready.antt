-- What a system is between its calls, and what takes back what a call lowered.
use Rattle.std.specs.Prelude.{◌≡◌, ℕ, ◌+◌, ◌<◌, ◌≤◌, length, slice_index, All}
use Rattle.tfpg_diff.specs.declared.trail.Saved.{Saved}
use Rattle.tfpg_diff.specs.declared.labels.Labels.{Labels}
use Rattle.tfpg_diff.specs.Demands.{Demands}
use Rattle.tfpg_diff.specs.Solution.{HasSolution}
use Rattle.tfpg_diff.specs.SystemState.{popped_to}
use Rattle.tfpg_diff.specs.inside.Kept.{AreKept, IsSound, MeetsPicks}
use Rattle.tfpg_diff.specs.inside.Undone.{Labelling, undone_to, IsTrail}

-- The values are the latest solution of the demands, and the links say where they come from.
pub record IsSolved (demands : Demands) (labels : Labelling) : Type 0 where
  pub kept : AreKept demands labels.values labels.links
  pub met : MeetsPicks labels.values demands.picks

-- Between calls: what is kept, every pick met, what the trail takes back, and room for the tags that a call lends.
pub record IsReady (demands : Demands) (labels : Labels) (cycle_capacity : ℕ) : Type 0 where
  pub sound : IsSound demands
  pub kept : AreKept demands labels.values.items labels.links.items
  pub met : MeetsPicks labels.values.items demands.picks
  pub trail : IsTrail (length demands.picks) (length labels.values.items) labels.trail.saved.items
  pub back : (count : ℕ) → labels.trail.reach ≤ count → count < length demands.picks →
      IsSolved (popped_to demands count) (undone_to count labels)
  pub room : length demands.bounds + 3 ≤ cycle_capacity

-- Labels of a system with one variable for each bound.
pub record AreSized (demands : Demands) (labels : Labels) : Type 0 where
  pub values : length labels.values.items ≡ length demands.bounds + 1
  pub links : length labels.links.items ≡ length demands.bounds + 1
  pub zero_stays : slice_index labels.values.items 0 ≡ 0

-- The demands have a solution, and the trail, where it reaches that far, takes the labels back to the latest one.
pub record CanTakeBack (demands : Demands) (labels : Labels) : Type 0 where
  pub solvable : HasSolution demands
  pub sized : AreSized demands labels
  pub inside : All (λ (each : Saved). each.number < length labels.values.items) labels.trail.saved.items
  pub solves : labels.trail.reach ≤ length demands.picks → IsSolved demands (undone_to (length demands.picks) labels)

-- The labels were taken back to the latest solution of the demands, and can be taken back further as before.
pub record TakesBack (demands : Demands) (old new : Labels) : Type 0 where
  pub kept : AreKept demands new.values.items new.links.items
  pub met : MeetsPicks new.values.items demands.picks
  pub trail : IsTrail (length demands.picks) (length new.values.items) new.trail.saved.items
  pub back : (count : ℕ) → new.trail.reach ≤ count → count < length demands.picks →
      (old.trail.reach ≤ count) × (undone_to count new ≡ undone_to count old)
