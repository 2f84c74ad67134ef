-- A new vehicle for each name that has gone by.
use Rattle.std.proofs.Common.{◌≡◌, map, take, All}
use Rattle.tfpg_fleet.specs.FleetState.{IsNew, VehicleState, calls_of_fleet}
use Rattle.tfpg_fleet.proofs.fleet.new_vehicles.Given as goal

abbrev pub invariant-loop-name : goal.invariant-loop-name
invariant-loop-name l = record {
  names : map (λ (vehicle : VehicleState). vehicle.name) l.vehicles.items ≡ take l.name-index l.names;
  new : All (IsNew l.graph l.terms) l.vehicles.items;
  uncounted : calls_of_fleet (record { vehicles = l.vehicles.items }) ≡ 0;
}
