use Rattle.std.proofs.Common.{List, subst, sym, ap, ◌∙◌, map}
use Rattle.std.specs.Prelude.{All}
use Rattle.std.proofs.lemmas.List.Elements.{All-push}
use Rattle.tfpg_fleet.specs.FleetState.{IsNew, VehicleState, calls_of_fleet}
use Rattle.tfpg_fleet.proofs.lemmas.FleetCalls.{uncounted-push}
use Rattle.tfpg_fleet.proofs.lemmas.FleetTells.{names-push}
use Rattle.tfpg_fleet.proofs.fleet.new_vehicles.Goals as goal

pub loop-name-preserved : goal.loop-name-preserved
loop-name-preserved c = record {
  names =
      ap (map (λ (vehicle : VehicleState). vehicle.name)) c.in_ok-push.ensures.items
      ∙ names-push c.args.names.now c.loop-name.name-index c.name-item.result c.loop-name.vehicles.items c.in_ok-new.field-0 c.loop-name-test.true c.name-item.is c.in_ok-new.ensures.name c.loop-name.invariant.names;
  new =
      subst (All (IsNew c.args.graph.now c.args.terms)) (sym c.in_ok-push.ensures.items)
      (All-push (IsNew c.args.graph.now c.args.terms) c.loop-name.vehicles.items c.in_ok-new.field-0 c.loop-name.invariant.new c.in_ok-new.ensures.new);
  uncounted =
      ap (λ (vehicles : List VehicleState). calls_of_fleet (record { vehicles = vehicles })) c.in_ok-push.ensures.items
      ∙ uncounted-push c.loop-name.vehicles.items c.in_ok-new.field-0 c.loop-name.invariant.uncounted c.in_ok-new.ensures.uncounted;
}
