use Rattle.tfpg_clause.proofs.meets.meets.Goals as goal

pub returns-in-Arrival : goal.returns-in-Arrival
returns-in-Arrival c = rw c.in-Arrival.is c.meets_each-in-Arrival.ensures
