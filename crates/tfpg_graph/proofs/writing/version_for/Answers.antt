use Rattle.std.proofs.Common.{sym, ◌∙◌, arith}
use Rattle.tfpg_graph.proofs.lemmas.writing.WrittenVersion.{version_for-least, is_zero_before-more, version_for-before}
use Rattle.tfpg_graph.proofs.writing.version_for.Goals as goal

pub returns-then-not-has_zero_least : goal.returns-then-not-has_zero_least
returns-then-not-has_zero_least c =
    sym (version_for-least c.args.graph.now c.loop-node.node c.kind.result c.kind.ensures (sym c.has_zero_least.ensures ∙ c.if-not-has_zero_least.true))

pub loop-node-preserved : goal.loop-node-preserved
loop-node-preserved c =
    is_zero_before-more c.args.graph.now c.loop-node.node c.kind.result c.kind.ensures c.loop-node.invariant (sym c.has_zero_least.ensures ∙ c.if-not-has_zero_least.false)

pub returns : goal.returns
returns c = sym (version_for-before c.args.graph.now c.loop-node.node (omega (arith, c.requires, c.loop-node-test.false)) c.loop-node.invariant)
