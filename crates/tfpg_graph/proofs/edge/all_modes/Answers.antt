use Rattle.std.proofs.Common.{ℕ, ◌-◌, ◌^◌, ◌∙◌, ap, arith}
use Rattle.std.proofs.lemmas.Nat.Bits.{ones_shr}
use Rattle.tfpg_graph.proofs.edge.all_modes.Goals as goal

pub returns : goal.returns
returns c = ones_shr 64 (64 - c.args.count) (omega arith) ∙ ap (λ (n : ℕ). 2 ^ n - 1) (omega arith)
