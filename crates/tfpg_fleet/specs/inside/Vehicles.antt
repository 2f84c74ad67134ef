-- What a vehicle and a fleet keep between lines.
use Rattle.std.specs.Prelude.{◌≡◌, ◌≤◌, length, false}
use Rattle.tfpg_base.specs.declared.limits.TheConstants.{MAX_VEHICLES}
use Rattle.tfpg_fleet.specs.FleetState.{FleetState, VehicleState, has_ended}

-- The engine of a vehicle that has not ended runs.
abbrev pub IsVehicle : VehicleState → Type 0
IsVehicle vehicle = has_ended vehicle ≡ false → vehicle.engine.ended ≡ false

-- There are few vehicles.
abbrev pub IsFleet : FleetState → Type 0
IsFleet fleet = length fleet.vehicles ≤ MAX_VEHICLES
