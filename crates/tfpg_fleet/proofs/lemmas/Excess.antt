-- When there are too many hypotheses for a fleet, and when there are not.
use Rattle.std.proofs.Common.{◌≡◌, ℕ, ◌*◌, ◌≤◌, inl, inr, sym, ap, subst, ◌∙◌, arith}
use Rattle.std.specs.Prelude.{◌↔◌, Result, Err}
use Rattle.tfpg_base.specs.declared.terms.Terms.{Terms}
use Rattle.tfpg_graph.specs.Graph.{Tfpg}
use Rattle.tfpg_hyp.specs.Hypotheses.{HasHypotheses}
use Rattle.tfpg_hyp.specs.declared.limits.TheConstants.{MAX_HYPOTHESES}
use Rattle.tfpg_hyp.specs.declared.table.TableFault.{TableFault}
use Rattle.tfpg_hyp.specs.declared.table.TableFault.TheVariants.{TooMany}
use Rattle.tfpg_fleet.specs.declared.limits.TheConstants.{MAX_FLEET_HYPOTHESES}
use Rattle.tfpg_fleet.specs.TooMany.{IsExcess, IsTooMany}

-- a graph has one number of hypotheses
abbrev pub HasOneCount : Type 0
HasOneCount = (graph : Tfpg) (terms : Terms) (count other : ℕ) → HasHypotheses graph terms count → HasHypotheses graph terms other → count ≡ other

-- the fault of so many hypotheses
abbrev fault_of : (X : Type 0) → ℕ → Result X TableFault
fault_of X count = Err (TooMany count)

-- at most one number is too large
one_excess : (vehicles each count other : ℕ) → IsExcess vehicles each count → IsExcess vehicles each other → count ≡ other
one_excess vehicles each count other (inl one) (inl two) = one.1 ∙ sym two.1
one_excess vehicles each count other (inl one) (inr two) = absurd (omega (arith, one.0, two.0))
one_excess vehicles each count other (inr one) (inl two) = absurd (omega (arith, one.0, two.0))
one_excess vehicles each count other (inr one) (inr two) = one.2 ∙ sym two.2

-- no number is too large where both are within their limits
no_excess : (vehicles each count : ℕ) → each ≤ MAX_HYPOTHESES → each * vehicles ≤ MAX_FLEET_HYPOTHESES → IsExcess vehicles each count → ⊥
no_excess vehicles each count few fits (inl one) = omega (arith, one.0, few)
no_excess vehicles each count few fits (inr two) = omega (arith, two.1, fits)

module _ (one : HasOneCount) (graph : Tfpg) (terms : Terms) (each : ℕ) (each_is : HasHypotheses graph terms each) where
  module _ (shown vehicles : ℕ) (same : shown ≡ vehicles) where
    by_each : (count : ℕ) → IsTooMany graph terms vehicles count → IsExcess shown each count
    by_each count many =
        subst (λ n. IsExcess n each count) (sym same) (subst (λ n. IsExcess vehicles n count) (one graph terms many.each each many.each_is each_is) many.excess)

    -- a number that is too large is that of the fault
    pub too_many : {X : Type 0} (found : ℕ) → IsExcess shown each found → (count : ℕ) → (fault_of X found ≡ fault_of X count) ↔ IsTooMany graph terms vehicles count
    too_many {X} found is count = (to, from)
      where
        to : fault_of X found ≡ fault_of X count → IsTooMany graph terms vehicles count
        to failed = (
            let equal : found ≡ count = cc in
            record { each = each; each_is = each_is; excess = subst (λ n. IsExcess n each count) same (subst (IsExcess shown each) equal is) })

        from : IsTooMany graph terms vehicles count → fault_of X found ≡ fault_of X count
        from many = ap (fault_of X) (one_excess shown each found count is (by_each count many))

    -- where none is, there is no such fault
    pub not_too_many : {X : Type 0} (result : Result X TableFault) → (each ≤ MAX_HYPOTHESES) × (each * shown ≤ MAX_FLEET_HYPOTHESES) → ((count : ℕ) → result ≡ Err (TooMany count) → ⊥) → (count : ℕ)
        → (result ≡ Err (TooMany count)) ↔ IsTooMany graph terms vehicles count
    not_too_many result fits never count =
        (λ failed. absurd (never count failed), λ many. absurd (no_excess shown each count fits.0 fits.1 (by_each count many)))

  -- there are few for one vehicle
  pub few_each : each ≤ MAX_HYPOTHESES → (count : ℕ) → HasHypotheses graph terms count → count ≤ MAX_HYPOTHESES
  few_each few count has = omega (arith, few, one graph terms count each has each_is)
