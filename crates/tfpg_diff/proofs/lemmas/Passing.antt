-- One more pick of a pass.
use Rattle.std.proofs.Common.{◌≡◌, ℕ, ◌+◌, ◌≤◌, Bool, true, false, List, sum, Option, Some, None, sym, ◌∙◌, ap, subst, arith, ⊎_elim, ◌⊎◌}
use Rattle.std.proofs.lemmas.List.Elements.{AllWithin-none, AllWithin-more}
use Rattle.tfpg_diff.specs.declared.pick.Pick.{Pick}
use Rattle.tfpg_diff.specs.Demands.{demand_of_pick}
use Rattle.tfpg_diff.specs.inside.Kept.{IsMetBy, AreMetFrom, Passes, Relaxes}

-- the values sum up to no more than before
sum-passed : (picks : List Pick) (count : ℕ) (before : List ℕ) (last : Option ℕ) (after : List ℕ) → Passes picks count before last after → sum after ≤ sum before
sum-passed picks count before None after passed = let e = ap sum passed.0 in omega arith
sum-passed picks count before (Some last) after passed = let less = passed.0 in omega arith

-- the pick was broken
pub Passes-broken : (picks : List Pick) (index : ℕ) (before middle after : List ℕ) (last : Option ℕ) →
    Passes picks index before last middle → Relaxes picks index middle true after → Passes picks (index + 1) before (Some index) after
Passes-broken picks index before middle after last passed relaxed = (
  (let s = sum-passed picks index before last middle passed in omega arith),
  omega arith,
  AllWithin-none (λ (pick : Pick). IsMetBy after (demand_of_pick pick)) picks (index + 1),
)

-- the pick was met
pub Passes-met : (picks : List Pick) (index : ℕ) (before middle after : List ℕ) (last : Option ℕ) →
    Passes picks index before last middle → Relaxes picks index middle false after → Passes picks (index + 1) before last after
Passes-met picks index before middle after None passed relaxed = (
  relaxed.0 ∙ passed.0,
  AllWithin-more (λ (pick : Pick). IsMetBy after (demand_of_pick pick)) picks 0 index
      (subst (λ (values : List ℕ). AreMetFrom values picks 0 index) (sym relaxed.0) passed.1) relaxed.1,
)
Passes-met picks index before middle after (Some last) passed relaxed = (
  (let e = ap sum relaxed.0 in let less = passed.0 in omega arith),
  (let inside = passed.1 in omega arith),
  AllWithin-more (λ (pick : Pick). IsMetBy after (demand_of_pick pick)) picks (last + 1) index
      (subst (λ (values : List ℕ). AreMetFrom values picks (last + 1) index) (sym relaxed.0) passed.2) relaxed.1,
)

-- either of the two, as the code joins them
pub Passes-more : (picks : List Pick) (index : ℕ) (before middle after : List ℕ) (last : Option ℕ) (result : Bool) (joined : Option ℕ) →
    Passes picks index before last middle → Relaxes picks index middle result after →
    ((result ≡ true) × (joined ≡ Some index)) ⊎ ((result ≡ false) × (joined ≡ last)) → Passes picks (index + 1) before joined after
Passes-more picks index before middle after last result joined passed relaxed cases =
    ⊎_elim
    (λ (is : (result ≡ true) × (joined ≡ Some index)).
    subst (λ (o : Option ℕ). Passes picks (index + 1) before o after) (sym is.1)
    (Passes-broken picks index before middle after last passed (subst (λ (b : Bool). Relaxes picks index middle b after) is.0 relaxed)))
    (λ (is : (result ≡ false) × (joined ≡ last)).
    subst (λ (o : Option ℕ). Passes picks (index + 1) before o after) (sym is.1)
    (Passes-met picks index before middle after last passed (subst (λ (b : Bool). Relaxes picks index middle b after) is.0 relaxed)))
    cases
