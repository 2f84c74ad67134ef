-- What the systems of all searches have counted, in a new fleet and where one vehicle takes a line.
use Rattle.std.proofs.Common.{◌≡◌, ℕ, ◌+◌, ◌<◌, List, [], ◌∷◌, ◌++◌, length, set, get_or, ap, sym, arith}
use Rattle.std.proofs.lemmas.List.Sums.{sum_by-set, sum_by_push}
use Rattle.tfpg_engine.specs.EngineState.{calls_of_engine}
use Rattle.tfpg_fleet.specs.FleetState.{FleetState, VehicleState, calls_of_fleet}

-- One vehicle more, for which nothing was counted.
pub uncounted-push : (vehicles : List VehicleState) (vehicle : VehicleState) → calls_of_fleet (record { vehicles = vehicles }) ≡ 0 → calls_of_engine vehicle.engine ≡ 0
    → calls_of_fleet (record { vehicles = vehicles ++ vehicle ∷ [] }) ≡ 0
uncounted-push vehicles vehicle none new = omega (arith, sum_by_push (λ (one : VehicleState). calls_of_engine one.engine) vehicles vehicle, none, new)

-- The fleet counted what the vehicle counted.
pub fleet_calls : (fleet : FleetState) (vehicles : List VehicleState) (number : ℕ) (before after : VehicleState) (start finish : ℕ)
    → ◌≡◌ {A = FleetState} (record { vehicles = vehicles }) fleet → number < length vehicles → before ≡ get_or vehicles number before
    → calls_of_engine after.engine + start ≡ calls_of_engine before.engine + finish
    → calls_of_fleet (record { vehicles = set vehicles number after }) + start ≡ calls_of_fleet fleet + finish
fleet_calls fleet vehicles number before after start finish same within there counted =
    let changed = sum_by-set (λ (vehicle : VehicleState). calls_of_engine vehicle.engine) vehicles number after before within in
    let own : calls_of_engine (get_or vehicles number before).engine ≡ calls_of_engine before.engine = ap (λ (vehicle : VehicleState). calls_of_engine vehicle.engine) (sym there) in
    let seen : calls_of_fleet (record { vehicles = vehicles }) ≡ calls_of_fleet fleet = ap calls_of_fleet same in
    omega (arith, changed, own, seen, counted)
