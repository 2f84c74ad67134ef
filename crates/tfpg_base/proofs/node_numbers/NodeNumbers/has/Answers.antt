use Rattle.std.proofs.Common.{arith}
use Rattle.std.proofs.lemmas.Bool.{ltb-true}
use Rattle.tfpg_base.specs.declared.limits.TheConstants.{MAX_NODE_NUMBERS}
use Rattle.tfpg_base.proofs.lemmas.NodeSets.{IsNodeSet-from_words, bit_says_node, beyond_no_node}
use Rattle.tfpg_base.proofs.node_numbers.NodeNumbers.has.Goals as goal

pub returns-then-node-lt-MAX_NODE_NUMBERS-clause-member : goal.returns-then-node-lt-MAX_NODE_NUMBERS-clause-member
returns-then-node-lt-MAX_NODE_NUMBERS-clause-member c =
    bit_says_node c.self.inside.words c.args.self c.self.invariant c.self.view_is c.args.node c.if-node-lt-MAX_NODE_NUMBERS.true

pub returns-then-node-lt-MAX_NODE_NUMBERS-clause-set : goal.returns-then-node-lt-MAX_NODE_NUMBERS-clause-set
returns-then-node-lt-MAX_NODE_NUMBERS-clause-set c = IsNodeSet-from_words c.self.inside.words c.args.self c.self.invariant c.self.view_is

pub returns-else-node-lt-MAX_NODE_NUMBERS-clause-member : goal.returns-else-node-lt-MAX_NODE_NUMBERS-clause-member
returns-else-node-lt-MAX_NODE_NUMBERS-clause-member c = (
  λ below. absurd (omega (arith, ltb-true c.args.node MAX_NODE_NUMBERS below, c.if-node-lt-MAX_NODE_NUMBERS.false)),
  λ member. absurd (beyond_no_node c.self.inside.words c.args.self c.self.invariant c.self.view_is c.args.node c.if-node-lt-MAX_NODE_NUMBERS.false member),
)

pub returns-else-node-lt-MAX_NODE_NUMBERS-clause-set : goal.returns-else-node-lt-MAX_NODE_NUMBERS-clause-set
returns-else-node-lt-MAX_NODE_NUMBERS-clause-set c = IsNodeSet-from_words c.self.inside.words c.args.self c.self.invariant c.self.view_is
