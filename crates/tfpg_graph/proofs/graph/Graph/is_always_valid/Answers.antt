use Rattle.std.proofs.Common.{subst}
use Rattle.tfpg_graph.specs.Valid.{IsValid}
use Rattle.tfpg_graph.proofs.lemmas.zero_cycle.ZeroRanks.{HasZeroOrder-valid}
use Rattle.tfpg_graph.proofs.graph.Graph.is_always_valid.Goals as goal

pub returns-clause-order : goal.returns-clause-order
returns-clause-order c = HasZeroOrder-valid c.args.self.now (subst IsValid c.self.view_is c.self.invariant)
