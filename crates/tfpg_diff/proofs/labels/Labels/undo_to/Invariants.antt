-- What was taken back so far can be taken back as before from here on.
use Rattle.std.proofs.Common.{◌≡◌, ℕ, ◌<◌, ◌≤◌, length, vec_len}
use Rattle.std.specs.Prelude.{All}
use Rattle.tfpg_diff.specs.declared.trail.Saved.{Saved}
use Rattle.tfpg_diff.specs.inside.Undone.{undone_to}
use Rattle.tfpg_diff.proofs.labels.Labels.undo_to.Given as goal

abbrev pub invariant-loop-saved : goal.invariant-loop-saved
invariant-loop-saved l = record {
  values : length l.self.values.items ≡ length l.initial.self.values.items;
  links : length l.self.links.items ≡ length l.initial.self.links.items;
  inside : All (λ (each : Saved). each.number < length l.self.values.items) l.self.trail.saved.items;
  reach : l.self.trail.reach ≡ l.initial.self.trail.reach;
  back : (picks : ℕ) → picks ≤ l.count → undone_to picks l.self ≡ undone_to picks l.initial.self;
}

abbrev pub decreases-loop-saved : goal.decreases-loop-saved
decreases-loop-saved l = vec_len l.self.trail.saved
