-- A solution meets each demand, and times that meet each demand are a solution.
use Rattle.std.proofs.Common.{◌≡◌, ℕ, zero, suc, List, ◌∷◌, length, get_or, refl, sym, subst, arith, inl, inr}
use Rattle.std.specs.Prelude.{slice_index, pos}
use Rattle.std.proofs.lemmas.Int.{ints}
use Rattle.std.proofs.lemmas.List.Elements.{All-contains, Contains-get_or}
use Rattle.tfpg_base.specs.Constraint.{value_of, Meets}
use Rattle.tfpg_base.proofs.lemmas.lists.Written.{get_or-cons_next}
use Rattle.tfpg_diff.specs.declared.demand.Demand.{Demand}
use Rattle.tfpg_diff.specs.Demands.{Demands, Demanded, ceiling_of, floor_of, demand_of_pick}
use Rattle.tfpg_diff.specs.Solution.{IsBetween, IsSolution}
use Rattle.tfpg_diff.specs.inside.Kept.{IsMetBy}

-- the value of a number is the one in the list that begins with zero
value_of-values : (times : List ℕ) (number : ℕ) → value_of times number ≡ pos (slice_index (0 ∷ times) number)
value_of-values times zero = refl
value_of-values times (suc variable) = refl

-- what the times meet is met by the values
pub IsMetBy-Meets : (times : List ℕ) (e : Demand) → Meets times e.constraint → IsMetBy (0 ∷ times) e
IsMetBy-Meets times e met =
    let left = value_of-values times e.constraint.left in
    let right = value_of-values times e.constraint.right in
    omega (arith, ints)

-- what is met by the values, the times meet
pub Meets-IsMetBy : (times : List ℕ) (e : Demand) → IsMetBy (0 ∷ times) e → Meets times e.constraint
Meets-IsMetBy times e met =
    let left = value_of-values times e.constraint.left in
    let right = value_of-values times e.constraint.right in
    omega (arith, ints)

-- a solution meets each demand
pub IsMetBy-solution : (demands : Demands) (times : List ℕ) → IsSolution demands times → (e : Demand) → Demanded demands e → IsMetBy (0 ∷ times) e
IsMetBy-solution demands times solution e demanded = elim demanded [
  | inl is ↦
      let between : IsBetween is.1 (slice_index times is.0) = solution.between is.0 is.1 is.2 in
      let here : IsMetBy (0 ∷ times) (ceiling_of is.0 is.1) = (let b = between.below in let n = get_or-cons_next 0 times is.0 0 in omega (arith, ints)) in
      subst (λ (f : Demand). IsMetBy (0 ∷ times) f) (sym is.3) here
  | inr others ↦ elim others [
    | inl is ↦
        let between : IsBetween is.1 (slice_index times is.0) = solution.between is.0 is.1 is.2 in
        let here : IsMetBy (0 ∷ times) (floor_of is.0 is.1) = (let b = between.above in let n = get_or-cons_next 0 times is.0 0 in omega (arith, ints)) in
        subst (λ (f : Demand). IsMetBy (0 ∷ times) f) (sym is.3) here
    | inr is ↦
        subst (λ (f : Demand). IsMetBy (0 ∷ times) f) (sym is.2)
        (IsMetBy-Meets times (demand_of_pick is.0) (All-contains (λ pick. Meets times pick.constraint) demands.picks is.0 solution.met is.1))
  ]
]

-- times that meet each demand are a solution
pub IsSolution-met : (demands : Demands) (times : List ℕ) → length times ≡ length demands.bounds →
    ((e : Demand) → Demanded demands e → IsMetBy (0 ∷ times) e) → IsSolution demands times
IsSolution-met demands times complete met = record {
  complete = complete;
  between = λ variable bounds at.
      let n = get_or-cons_next 0 times variable 0 in
      let high : IsMetBy (0 ∷ times) (ceiling_of variable bounds) = met (ceiling_of variable bounds) (inl (variable, bounds, at, refl)) in
      let low : IsMetBy (0 ∷ times) (floor_of variable bounds) = met (floor_of variable bounds) (inr (inl (variable, bounds, at, refl))) in
      record { above = omega (arith, ints); below = omega (arith, ints) };
  met = λ index none inside.
      let pick = get_or demands.picks index none in
      Meets-IsMetBy times (demand_of_pick pick) (met (demand_of_pick pick) (inr (inr (pick, Contains-get_or demands.picks index none inside, refl))));
}
