-- That the ranking order is transitive.
use Rattle.std.proofs.Common.{◌*◌, ◌<◌, ◌≤◌, ◌⊎◌, inl, inr, ⊎_elim, arith, ◌∙◌}
use Rattle.tfpg_base.proofs.lemmas.lists.Fractions.{fractions-le, fractions-lt_le, fractions-le_lt}
use Rattle.tfpg_hyp.specs.declared.place.Place.{Place}
use Rattle.tfpg_hyp.specs.Ranking.{IsMoreRobust, IsAsRobust, IsRankedBefore}

module _ (a b c : Place) (whole_a : 1 ≤ a.robust.monitored) (whole_b : 1 ≤ b.robust.monitored) (whole_c : 1 ≤ c.robust.monitored) where
  as_robust : IsAsRobust a.robust b.robust → IsAsRobust b.robust c.robust → IsAsRobust a.robust c.robust
  as_robust first second =
      let low = fractions-le a.robust.alarmed a.robust.monitored b.robust.alarmed b.robust.monitored c.robust.alarmed c.robust.monitored whole_b (omega (arith, first)) (omega (arith, second)) in
      let high = fractions-le c.robust.alarmed c.robust.monitored b.robust.alarmed b.robust.monitored a.robust.alarmed a.robust.monitored whole_b (omega (arith, second)) (omega (arith, first)) in
      omega (arith, low, high)

  more_then : IsMoreRobust a.robust b.robust → c.robust.alarmed * b.robust.monitored ≤ b.robust.alarmed * c.robust.monitored → IsMoreRobust a.robust c.robust
  more_then = fractions-lt_le a.robust.alarmed a.robust.monitored b.robust.alarmed b.robust.monitored c.robust.alarmed c.robust.monitored whole_c

  then_more : b.robust.alarmed * a.robust.monitored ≤ a.robust.alarmed * b.robust.monitored → IsMoreRobust b.robust c.robust → IsMoreRobust a.robust c.robust
  then_more = fractions-le_lt a.robust.alarmed a.robust.monitored b.robust.alarmed b.robust.monitored c.robust.alarmed c.robust.monitored whole_a

  pub before-transitive : IsRankedBefore a b → IsRankedBefore b c → IsRankedBefore a c
  before-transitive first second =
      ⊎_elim
      (λ cheaper. inl (⊎_elim (λ also. omega (arith, cheaper, also)) (λ same. omega (arith, cheaper, same.0)) second))
      (λ here.
      ⊎_elim
      (λ cheaper. inl (omega (arith, here.0, cheaper)))
      (λ there. inr (here.0 ∙ there.0, at_one_cost here.1 there.1))
      second)
      first
    where
      at_one_cost : (IsMoreRobust a.robust b.robust ⊎ (IsAsRobust a.robust b.robust × (a.number < b.number))) → (IsMoreRobust b.robust c.robust ⊎ (IsAsRobust b.robust c.robust × (b.number < c.number)))
          → IsMoreRobust a.robust c.robust ⊎ (IsAsRobust a.robust c.robust × (a.number < c.number))
      at_one_cost left right =
          ⊎_elim
          (λ more. ⊎_elim (λ also. inl (more_then more (omega (arith, also)))) (λ same. inl (more_then more (omega (arith, same.0)))) right)
          (λ equal. ⊎_elim (λ more. inl (then_more (omega (arith, equal.0)) more)) (λ same. inr (as_robust equal.0 same.0, omega (arith, equal.1, same.1))) right)
          left
