use Rattle.std.proofs.Common.{arith, refl}
use Rattle.tfpg_base.proofs.lemmas.NodeSets.{IsSubset-from_words, bits_kept_by_IsSubset}
use Rattle.tfpg_base.proofs.node_numbers.NodeNumbers.is_subset.Goals as goal

pub returns-then-self-number : goal.returns-then-self-number
returns-then-self-number c = (
  λ yes. cc,
  λ subset. absurd (c.if-self-number.true (bits_kept_by_IsSubset c.self.inside.words c.of.inside.words c.args.self c.args.of
      c.self.invariant c.of.invariant c.self.view_is c.of.view_is subset c.loop-number.number c.loop-number-test.true)),
)

pub returns : goal.returns
returns c = (
  λ yes. IsSubset-from_words c.self.inside.words c.of.inside.words c.args.self c.args.of
      c.self.invariant c.of.invariant c.self.view_is c.of.view_is
      (λ number within. c.loop-number.invariant number (omega (arith, within, c.loop-number-test.false))),
  λ subset. refl,
)
