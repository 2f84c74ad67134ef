use Rattle.std.proofs.Common.{◌≡◌, ◌<◌, ◌^◌, sym, ◌∙◌, arith}
use Rattle.std.specs.Int.{bit_at}
use Rattle.std.proofs.lemmas.Bool.{le-ltb, ne_eqb}
use Rattle.std.proofs.lemmas.Nat.Bits.{bit_at_above}
use Rattle.tfpg_graph.proofs.edge.Edge.is_active_in.Goals as goal

pub returns-else-mode-lt-BITS : goal.returns-else-mode-lt-BITS
returns-else-mode-lt-BITS c =
    let modes = c.args.self.now.modes in
    let small : modes < 2 ^ 64 = omega arith in
    let none : bit_at modes c.args.mode ≡ 0 = bit_at_above modes 64 c.args.mode small c.if-mode-lt-BITS.false in
    le-ltb c.args.mode 64 c.if-mode-lt-BITS.false ∙ sym (ne_eqb (bit_at modes c.args.mode) 1 (λ one. omega (arith, one, none)))
