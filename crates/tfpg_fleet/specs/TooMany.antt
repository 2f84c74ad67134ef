-- When there are too many hypotheses for a fleet.
use Rattle.std.specs.Prelude.{◌≡◌, ℕ, ◌*◌, ◌<◌, ◌≤◌, ◌⊎◌}
use Rattle.tfpg_base.specs.declared.terms.Terms.{Terms}
use Rattle.tfpg_graph.specs.Graph.{Tfpg}
use Rattle.tfpg_hyp.specs.Hypotheses.{HasHypotheses}
use Rattle.tfpg_hyp.specs.declared.limits.TheConstants.{MAX_HYPOTHESES}
use Rattle.tfpg_fleet.specs.declared.limits.TheConstants.{MAX_FLEET_HYPOTHESES}

-- This number is too large: it is that of the hypotheses of one vehicle, where they are more than a table may have; else it is that of
-- all vehicles together, where they are more than a fleet may have.
abbrev pub IsExcess : ℕ → ℕ → ℕ → Type 0
IsExcess vehicles each count =
    ((MAX_HYPOTHESES < each) × (count ≡ each))
    ⊎ ((each ≤ MAX_HYPOTHESES) × (MAX_FLEET_HYPOTHESES < each * vehicles) × (count ≡ each * vehicles))

-- There are too many hypotheses for so many vehicles, and this number says so.
pub record IsTooMany (graph : Tfpg) (terms : Terms) (vehicles count : ℕ) : Type 0 where
  pub each : ℕ
  pub each_is : HasHypotheses graph terms each
  pub excess : IsExcess vehicles each count
