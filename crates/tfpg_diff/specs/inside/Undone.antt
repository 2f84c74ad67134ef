-- What a trail takes back: values and links as they were before some calls.
use Rattle.std.specs.Prelude.{◌≡◌, ℕ, ◌+◌, ◌<◌, ◌≤◌, List, [], ◌∷◌, length, reverse, nat_lt, if◌then◌else◌, slice_set, All}
use Rattle.tfpg_diff.specs.declared.link.Link.{Link}
use Rattle.tfpg_diff.specs.declared.trail.Saved.{Saved}
use Rattle.tfpg_diff.specs.declared.labels.Labels.{Labels}

-- The values of all numbers, and their links.
pub record Labelling : Type 0 where
  pub values : List ℕ
  pub links : List Link

-- the values and links that these labels hold
abbrev pub labelling : Labels → Labelling
labelling labels = record { values = labels.values.items; links = labels.links.items }

-- the values and links where one number has what was saved of it
abbrev pub restored : Saved → Labelling → Labelling
restored saved labels = record {
  values = slice_set labels.values saved.number saved.value;
  links = slice_set labels.links saved.number saved.link;
}

-- The values and links before calls lowered them since there were so many picks. What was saved last stands first.
abbrev pub undone : ℕ → List Saved → Labelling → Labelling
undone count [] labels = labels
undone count (saved ∷ older) labels = if nat_lt saved.before count then labels else undone count older (restored saved labels)

-- the values and links that there were with so many picks, as far as the trail reaches
abbrev pub undone_to : ℕ → Labels → Labelling
undone_to count labels = undone count (reverse labels.trail.saved.items) (labelling labels)

-- Nothing was saved since there were so many picks. What was saved last stands first.
abbrev pub IsOlder : ℕ → List Saved → Type 0
IsOlder count [] = Unit {0}
IsOlder count (saved ∷ older) = saved.before < count

-- A trail for so many picks and numbers: what it saved is of these numbers, and was saved before there were more picks.
pub record IsTrail (count numbers : ℕ) (saved : List Saved) : Type 0 where
  pub inside : All (λ (each : Saved). each.number < numbers) saved
  pub older : IsOlder count (reverse saved)

-- What a call that lowers values does to the trail, where there were so many picks before it: what there was can be
-- taken back as far as the trail still reaches.
pub record Remembers (before : ℕ) (old new : Labels) : Type 0 where
  pub reach : old.trail.reach ≤ new.trail.reach
  pub back : new.trail.reach ≤ before → (count : ℕ) → count ≤ before → undone_to count new ≡ undone_to count old
  pub trail : IsTrail (before + 1) (length old.values.items) old.trail.saved.items →
      IsTrail (before + 1) (length new.values.items) new.trail.saved.items
