use Rattle.std.proofs.Common.{arith}
use Rattle.tfpg_base.proofs.lemmas.NodeSets.{words_split, words_without_bits}
use Rattle.tfpg_base.proofs.node_numbers.NodeNumbers.split_first.Goals as goal

pub returns-then-word-ne0 : goal.returns-then-word-ne0
returns-then-word-ne0 c =
    words_split c.self.inside.words c.args.self c.self.invariant c.self.view_is c.loop-number.number c.split_lowest-index.result.0 c.split_lowest-index.result.1
    c.loop-number-test.true c.loop-number.invariant c.split_lowest-index.ensures.members

pub returns : goal.returns
returns c =
    words_without_bits c.self.inside.words c.args.self c.self.invariant c.self.view_is
    (λ k within. c.loop-number.invariant k (omega (arith, within, c.loop-number-test.false)))
