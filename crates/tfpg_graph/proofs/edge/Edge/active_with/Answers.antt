use Rattle.std.specs.Prelude.{bit_and}
use Rattle.std.specs.Int.{bit_at}
use Rattle.std.proofs.lemmas.Nat.Bits.{bit_at-lt, bit_at_and}
use Rattle.tfpg_base.proofs.lemmas.lists.Sequences.{both_ones}
use Rattle.tfpg_graph.proofs.edge.Edge.active_with.Goals as goal

pub returns-clause-active : goal.returns-clause-active
returns-clause-active c mode =
    let own = c.args.self.now.modes in
    let others = c.args.other.now.modes in
    both_ones (bit_at own mode) (bit_at others mode) (bit_at (bit_and own others) mode) (bit_at-lt own mode) (bit_at-lt others mode) (bit_at_and own others mode)
