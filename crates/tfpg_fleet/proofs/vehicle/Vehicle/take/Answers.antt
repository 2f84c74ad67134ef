use Rattle.tfpg_fleet.proofs.lemmas.RefusedLines.{refuses}
use Rattle.tfpg_fleet.proofs.vehicle.Vehicle.take.Goals as goal

pub returns-clause-refused : goal.returns-clause-refused
returns-clause-refused g c =
    refuses c.args.text.now (record { name = c.self.inside.name; engine = c.self.inside.engine; next = c.self.inside.next }) c.args.self.now c.self.view_is c.self.invariant c.take.result c.take.ensures.value
    c.in_ok-line.line c.in_ok-line.ensures.value c.in_ok-told.told c.in_ok-told.ensures.refused
