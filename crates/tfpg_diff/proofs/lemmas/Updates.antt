-- A change of the bounds of one variable is a write, or nothing where the new bound is not tighter.
use Rattle.std.proofs.Common.{◌≡◌, ℕ, zero, suc, ◌<◌, ◌≤◌, List, [], ◌∷◌, set, Some, ◌∙◌, ap, lt-ltb, le-ltb}
use Rattle.std.specs.Prelude.{slice_get}
use Rattle.std.proofs.lemmas.Option.{same_Some, none-some}
use Rattle.tfpg_base.proofs.lemmas.lists.Written.{set-slice_get}
use Rattle.tfpg_diff.specs.VariableBounds.{VariableBounds}
use Rattle.tfpg_diff.specs.declared.pick.Pick.{Pick}
use Rattle.tfpg_diff.specs.SystemState.{raised, lowered, changed_at, with_floor, with_ceiling}
use Rattle.tfpg_diff.specs.Demands.{demands_of}
use Rattle.tfpg_diff.proofs.lemmas.Bounding.{under, over}

-- a change of one item is a write of the changed item
pub changed_at-set : (change : VariableBounds → VariableBounds) (bounds : List VariableBounds) (v : ℕ) (old : VariableBounds) → slice_get bounds v ≡ Some old →
    changed_at change bounds v ≡ set bounds v (change old)
changed_at-set change [] v old at = absurd (none-some old at)
changed_at-set change (b ∷ bs) zero old at = ap (λ (c : VariableBounds). change c ∷ bs) (same_Some b old at)
changed_at-set change (b ∷ bs) (suc v) old at = ap (λ (cs : List VariableBounds). b ∷ cs) (changed_at-set change bs v old at)

-- a tighter ceiling
lowered_tighter : (ceiling tag : ℕ) (old : VariableBounds) → ceiling < old.ceiling → lowered ceiling tag old ≡ under old ceiling tag
lowered_tighter ceiling tag old tighter = rw (lt-ltb ceiling old.ceiling tighter)

-- a ceiling that is not tighter
lowered_looser : (ceiling tag : ℕ) (old : VariableBounds) → old.ceiling ≤ ceiling → lowered ceiling tag old ≡ old
lowered_looser ceiling tag old looser = rw (le-ltb ceiling old.ceiling looser)

-- a tighter floor
raised_tighter : (least tag : ℕ) (old : VariableBounds) → old.floor < least → raised least tag old ≡ over old least tag
raised_tighter least tag old tighter = rw (lt-ltb old.floor least tighter)

-- a floor that is not tighter
raised_looser : (least tag : ℕ) (old : VariableBounds) → least ≤ old.floor → raised least tag old ≡ old
raised_looser least tag old looser = rw (le-ltb old.floor least looser)

module _ (bounds : List VariableBounds) (picks : List Pick) (v : ℕ) (old : VariableBounds) (at_v : slice_get bounds v ≡ Some old) where
  -- the demands with a tighter ceiling
  pub with_ceiling-tighter : (ceiling tag : ℕ) → ceiling < old.ceiling →
      with_ceiling (demands_of bounds picks) v ceiling tag ≡ demands_of (set bounds v (under old ceiling tag)) picks
  with_ceiling-tighter ceiling tag tighter =
      ap (λ (bs : List VariableBounds). demands_of bs picks)
      (changed_at-set (lowered ceiling tag) bounds v old at_v ∙ ap (set bounds v) (lowered_tighter ceiling tag old tighter))

  -- the demands with a ceiling that is not tighter
  pub with_ceiling-looser : (ceiling tag : ℕ) → old.ceiling ≤ ceiling → with_ceiling (demands_of bounds picks) v ceiling tag ≡ demands_of bounds picks
  with_ceiling-looser ceiling tag looser =
      ap (λ (bs : List VariableBounds). demands_of bs picks)
      (changed_at-set (lowered ceiling tag) bounds v old at_v ∙ ap (set bounds v) (lowered_looser ceiling tag old looser) ∙ set-slice_get bounds v old at_v)

  -- the demands with a tighter floor
  pub with_floor-tighter : (least tag : ℕ) → old.floor < least →
      with_floor (demands_of bounds picks) v least tag ≡ demands_of (set bounds v (over old least tag)) picks
  with_floor-tighter least tag tighter =
      ap (λ (bs : List VariableBounds). demands_of bs picks)
      (changed_at-set (raised least tag) bounds v old at_v ∙ ap (set bounds v) (raised_tighter least tag old tighter))

  -- the demands with a floor that is not tighter
  pub with_floor-looser : (least tag : ℕ) → least ≤ old.floor → with_floor (demands_of bounds picks) v least tag ≡ demands_of bounds picks
  with_floor-looser least tag looser =
      ap (λ (bs : List VariableBounds). demands_of bs picks)
      (changed_at-set (raised least tag) bounds v old at_v ∙ ap (set bounds v) (raised_looser least tag old looser) ∙ set-slice_get bounds v old at_v)
