use Rattle.std.proofs.Common.{Some, None, ◌+◌, ◌-◌, length, refl, ap, sym, ◌∙◌, arith, take, drop, take_all, length-drop}
use Rattle.std.proofs.lemmas.Bool.{ltb-false}
use Rattle.tfpg_base.specs.declared.limits.TheConstants.{LONGEST_LINE}
use Rattle.tfpg_fleet.specs.Belonging.{vehicle_line}
use Rattle.tfpg_fleet.proofs.lemmas.Addressed.{belongs-named}
use Rattle.tfpg_fleet.proofs.belonging.addressee.Goals as goal

pub returns-in_err-vehicle-clause-belongs : goal.returns-in_err-vehicle-clause-belongs
returns-in_err-vehicle-clause-belongs c =
    rw c.from_residual-in_err-vehicle.ensures
    (belongs-named c.args.vehicles.now c.args.line.now (ltb-false LONGEST_LINE (length c.args.line.now) (sym c.is_too_long.ensures ∙ c.if-is_too_long.false)) c.in_ok-space.space (sym c.in_ok-space.ensures.space) (take c.in_ok-space.space c.args.line.now) None
    refl c.in_err-vehicle.ensures.named)

pub returns-clause-belongs : goal.returns-clause-belongs
returns-clause-belongs c =
    ap (λ rest. Some (vehicle_line c.in_ok-vehicle.vehicle rest))
    (take_all (length c.args.line.now - (c.in_ok-space.space + 1)) (drop (c.in_ok-space.space + 1) c.args.line.now) (omega (arith, length-drop (c.in_ok-space.space + 1) c.args.line.now)))
    ∙ belongs-named c.args.vehicles.now c.args.line.now (ltb-false LONGEST_LINE (length c.args.line.now) (sym c.is_too_long.ensures ∙ c.if-is_too_long.false)) c.in_ok-space.space (sym c.in_ok-space.ensures.space) (take c.in_ok-space.space c.args.line.now) (Some c.in_ok-vehicle.vehicle)
    refl c.in_ok-vehicle.ensures.named
