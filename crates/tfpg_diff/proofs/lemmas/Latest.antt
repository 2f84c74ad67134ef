-- Where values that are kept meet the picks, they are the latest solution.
use Rattle.std.proofs.Common.{◌≡◌, ℕ, suc, ◌+◌, ◌<◌, ◌≤◌, List, ◌∷◌, length, drop, sym, ◌∙◌, ap, subst, arith, inl, inr}
use Rattle.std.specs.Prelude.{slice_index}
use Rattle.std.proofs.lemmas.Int.{ints}
use Rattle.std.proofs.lemmas.List.{length-drop, drop_more}
use Rattle.std.proofs.lemmas.List.Elements.{All-contains}
use Rattle.tfpg_diff.specs.declared.demand.Demand.{Demand}
use Rattle.tfpg_diff.specs.declared.pick.Pick.{Pick}
use Rattle.tfpg_diff.specs.Demands.{Demands, Demanded, floor_of, ceiling_of, demand_of_pick}
use Rattle.tfpg_diff.specs.Solution.{IsBetween, IsLatest}
use Rattle.tfpg_diff.proofs.lemmas.Solutions.{IsSolution-met}
use Rattle.tfpg_diff.specs.inside.Kept.{IsMetBy, IsKept, MeetsPicks}

-- values that are kept and meet the picks meet every constraint
pub IsMetBy-kept : (demands : Demands) (values : List ℕ) (links : List Demand) (kept : IsKept demands values links) →
    MeetsPicks values demands.picks → (demand : Demand) → Demanded demands demand → IsMetBy values demand
IsMetBy-kept demands values links kept met demand demanded =
    elim demanded [
      | inl is ↦
          let within : IsBetween is.1 (slice_index values (is.0 + 1)) = kept.within is.0 is.1 is.2 in
          let here : IsMetBy values (ceiling_of is.0 is.1) = (let z = kept.zero_stays in let b = within.below in omega (arith, ints)) in
          subst (λ (e : Demand). IsMetBy values e) (sym is.3) here
      | inr others ↦ elim others [
        | inl is ↦
            let within : IsBetween is.1 (slice_index values (is.0 + 1)) = kept.within is.0 is.1 is.2 in
            let here : IsMetBy values (floor_of is.0 is.1) = (let z = kept.zero_stays in let b = within.above in omega (arith, ints)) in
            subst (λ (e : Demand). IsMetBy values e) (sym is.3) here
        | inr is ↦
            subst (λ (e : Demand). IsMetBy values e) (sym is.2) (All-contains (λ (pick : Pick). IsMetBy values (demand_of_pick pick)) demands.picks is.0 met is.1)
      ]
    ]

-- the values are zero, and then the times of the variables
pub values-whole : (demands : Demands) (values : List ℕ) (links : List Demand) → IsKept demands values links → 0 ∷ drop 1 values ≡ values
values-whole demands values links kept =
    let some : 0 < length values = let k = kept.values_len in omega arith in
    ap (λ (y : ℕ). y ∷ drop 1 values) (sym kept.zero_stays) ∙ sym (drop_more values 0 0 some)

-- they are the latest solution
pub IsLatest-kept : (demands : Demands) (values : List ℕ) (links : List Demand) (kept : IsKept demands values links) →
    MeetsPicks values demands.picks → IsLatest demands (drop 1 values)
IsLatest-kept demands values links kept met =
    let whole : 0 ∷ drop 1 values ≡ values = values-whole demands values links kept in
    record {
      solution = IsSolution-met demands (drop 1 values) (let k = kept.values_len in omega (arith, length-drop 1 values))
          (λ demand demanded. subst (λ (all : List ℕ). IsMetBy all demand) (sym whole) (IsMetBy-kept demands values links kept met demand demanded));
      greatest = λ other solution variable inside.
          subst (λ (times : List ℕ). slice_index (0 ∷ other) (suc variable) ≤ slice_index times (suc variable)) (sym whole)
          (kept.greatest other solution (suc variable));
    }
