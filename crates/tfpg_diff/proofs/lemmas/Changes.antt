-- What stays true where the demands change: one more pick, a lower ceiling, a higher floor, fewer picks.
use Rattle.std.proofs.Common.{◌≡◌, ◌≢◌, ℕ, ◌+◌, ◌^◌, ◌<◌, ◌≤◌, List, [], ◌∷◌, ◌++◌, length, set, take, Some, refl, sym, ◌∙◌, ap, subst, arith, inl, inr, ⊎_elim, ◌⊎◌}
use Rattle.std.specs.Prelude.{slice_get, slice_index, All, Contains}
use Rattle.std.proofs.lemmas.Bool.{cases_eq}
use Rattle.std.proofs.lemmas.Option.{same_Some, slice_get_within}
use Rattle.std.proofs.lemmas.List.{length-set, length_push}
use Rattle.std.proofs.lemmas.List.Elements.{All-push, All-take, Contains-append_left, Contains-push_cases}
use Rattle.tfpg_diff.specs.declared.demand.Demand.{Demand}
use Rattle.tfpg_diff.specs.VariableBounds.{VariableBounds}
use Rattle.tfpg_diff.specs.declared.pick.Pick.{Pick}
use Rattle.tfpg_base.specs.Constraint.{Meets}
use Rattle.tfpg_diff.specs.Demands.{Demands, Demanded, Bounded, demand_of_pick, demands_of}
use Rattle.tfpg_diff.specs.Solution.{IsBetween, IsSolution}
use Rattle.tfpg_base.specs.declared.limits.TheConstants.{NEVER}
use Rattle.tfpg_diff.specs.inside.Kept.{IsLink, IsKept, IsSound}
use Rattle.tfpg_base.proofs.lemmas.lists.Elements.{All-front}
use Rattle.tfpg_base.proofs.lemmas.lists.Written.{slice_get-set_other, slice_get-set_same}

-- What is kept stays kept under other demands of as many variables: their solutions are solutions, they have the links, and
-- the values are within their bounds.
pub IsKept-moved : (old new : Demands) (values : List ℕ) (links : List Demand) → IsKept old values links →
    length new.bounds ≡ length old.bounds →
    ((times : List ℕ) → IsSolution new times → IsSolution old times) →
    ((x : ℕ) (e : Demand) → 0 < x → slice_get links x ≡ Some e → IsLink old values x e → Demanded new e) →
    ((v : ℕ) (b : VariableBounds) → Bounded new v b → IsBetween b (slice_index values (v + 1))) →
    IsKept new values links
IsKept-moved old new values links kept same solutions demanded within = record {
  values_len = let k = kept.values_len in omega arith;
  links_len = let k = kept.links_len in omega arith;
  zero_stays = kept.zero_stays;
  rooted = kept.rooted;
  linked = λ x e up at.
      let link : IsLink old values x e = kept.linked x e up at in
      record { left = link.left; right = (let r = link.right in omega arith); demanded = demanded x e up at link; tight = link.tight };
  within = within;
  greatest = λ times solution. kept.greatest times (solutions times solution);
}

-- the bounds that a list has after a change of one variable's
pub Bounded-set : (bounds : List VariableBounds) (picks : List Pick) (v : ℕ) (new : VariableBounds) (u : ℕ) (c : VariableBounds) →
    Bounded (demands_of (set bounds v new) picks) u c → ((u ≡ v) × (c ≡ new)) ⊎ ((u ≢ v) × Bounded (demands_of bounds picks) u c)
Bounded-set bounds picks v new u c at = ⊎_elim
    (λ (same : u ≡ v).
    let inside : v < length bounds = (let w = slice_get_within (set bounds v new) u c at in let l = length-set bounds v new in omega arith) in
    inl (same, same_Some c new (sym at ∙ ap (slice_get (set bounds v new)) same ∙ slice_get-set_same bounds v new inside)))
    (λ (other : u ≢ v). inr (other, sym (slice_get-set_other bounds v u new other) ∙ at))
    (cases_eq u v)

-- the bounds of another variable stay
pub Bounded-set_other : (bounds : List VariableBounds) (picks : List Pick) (v : ℕ) (new : VariableBounds) (u : ℕ) (c : VariableBounds) → u ≢ v →
    Bounded (demands_of bounds picks) u c → Bounded (demands_of (set bounds v new) picks) u c
Bounded-set_other bounds picks v new u c other at = slice_get-set_other bounds v u new other ∙ at

-- the new bounds of the variable
pub Bounded-set_same : (bounds : List VariableBounds) (picks : List Pick) (v : ℕ) (old new : VariableBounds) → Bounded (demands_of bounds picks) v old →
    Bounded (demands_of (set bounds v new) picks) v new
Bounded-set_same bounds picks v old new at = slice_get-set_same bounds v new (slice_get_within bounds v old at)

-- a constraint of the demands is one of those with one more pick
pub Demanded-pick : (bounds : List VariableBounds) (picks : List Pick) (pick : Pick) (e : Demand) →
    Demanded (demands_of bounds picks) e → Demanded (demands_of bounds (picks ++ pick ∷ [])) e
Demanded-pick bounds picks pick e demanded = elim demanded [
  | inl is ↦ inl is
  | inr others ↦ elim others [
    | inl is ↦ inr (inl is)
    | inr is ↦ inr (inr (is.0, Contains-append_left picks (pick ∷ []) is.0 is.1, is.2))
  ]
]

-- a constraint of the demands with one more pick is one without it, or the pick
pub Demanded-pick_cases : (bounds : List VariableBounds) (picks : List Pick) (pick : Pick) (e : Demand) →
    Demanded (demands_of bounds (picks ++ pick ∷ [])) e → Demanded (demands_of bounds picks) e ⊎ (e ≡ demand_of_pick pick)
Demanded-pick_cases bounds picks pick e demanded = elim demanded [
  | inl is ↦ inl (inl is)
  | inr others ↦ elim others [
    | inl is ↦ inl (inr (inl is))
    | inr is ↦ ⊎_elim
        (λ (among : Contains picks is.0). inl (inr (inr (is.0, among, is.2))))
        (λ (last : pick ≡ is.0). inr (is.2 ∙ ap demand_of_pick (sym last)))
        (Contains-push_cases picks pick is.0 is.1)
  ]
]

-- a solution with one more pick is one without it
pub IsSolution-pick : (bounds : List VariableBounds) (picks : List Pick) (pick : Pick) (times : List ℕ) →
    IsSolution (demands_of bounds (picks ++ pick ∷ [])) times → IsSolution (demands_of bounds picks) times
IsSolution-pick bounds picks pick times solution = record {
  complete = solution.complete;
  between = solution.between;
  met = All-front (λ (p : Pick). Meets times p.constraint) picks (pick ∷ []) solution.met;
}

-- what is kept stays kept with one more pick
pub IsKept-pick : (bounds : List VariableBounds) (picks : List Pick) (pick : Pick) (values : List ℕ) (links : List Demand) →
    IsKept (demands_of bounds picks) values links → IsKept (demands_of bounds (picks ++ pick ∷ [])) values links
IsKept-pick bounds picks pick values links kept =
    IsKept-moved (demands_of bounds picks) (demands_of bounds (picks ++ pick ∷ [])) values links kept refl
    (IsSolution-pick bounds picks pick)
    (λ x e up at link. Demanded-pick bounds picks pick e link.demanded)
    (λ v b at. kept.within v b at)

-- demands stay sound with one more pick
pub IsSound-pick : (bounds : List VariableBounds) (picks : List Pick) (pick : Pick) → IsSound (demands_of bounds picks) →
    length picks + 1 < 2 ^ 32 → pick.constraint.left ≤ length bounds → pick.constraint.right ≤ length bounds →
    IsSound (demands_of bounds (picks ++ pick ∷ []))
IsSound-pick bounds picks pick sound room left right = record {
  few = sound.few;
  few_picks = omega (arith, length_push picks pick);
  ceilings = sound.ceilings;
  lefts = All-push (λ (p : Pick). p.constraint.left ≤ length bounds) picks pick sound.lefts left;
  rights = All-push (λ (p : Pick). p.constraint.right ≤ length bounds) picks pick sound.rights right;
}

-- demands stay sound with other bounds of a variable that are not past the latest value
pub IsSound-set : (bounds : List VariableBounds) (picks : List Pick) (v : ℕ) (new : VariableBounds) → IsSound (demands_of bounds picks) →
    new.ceiling ≤ NEVER → IsSound (demands_of (set bounds v new) picks)
IsSound-set bounds picks v new sound low =
    let same : length (set bounds v new) ≡ length bounds = length-set bounds v new in
    record {
      few = (let f = sound.few in omega arith);
      few_picks = sound.few_picks;
      ceilings = λ u c at. ⊎_elim
          (λ (is : (u ≡ v) × (c ≡ new)). subst (λ (b : VariableBounds). b.ceiling ≤ NEVER) (sym is.1) low)
          (λ (is : (u ≢ v) × Bounded (demands_of bounds picks) u c). sound.ceilings u c is.1)
          (Bounded-set bounds picks v new u c at);
      lefts = subst (λ (n : ℕ). All (λ (p : Pick). p.constraint.left ≤ n) picks) (sym same) sound.lefts;
      rights = subst (λ (n : ℕ). All (λ (p : Pick). p.constraint.right ≤ n) picks) (sym same) sound.rights;
    }

-- a solution with fewer picks from one with all
pub IsSolution-take : (bounds : List VariableBounds) (picks : List Pick) (len : ℕ) (times : List ℕ) →
    IsSolution (demands_of bounds picks) times → IsSolution (demands_of bounds (take len picks)) times
IsSolution-take bounds picks len times solution = record {
  complete = solution.complete;
  between = solution.between;
  met = All-take (λ (pick : Pick). Meets times pick.constraint) len picks solution.met;
}
