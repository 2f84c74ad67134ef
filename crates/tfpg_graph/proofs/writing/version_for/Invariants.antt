use Rattle.std.proofs.Common.{◌≡◌, true}
use Rattle.tfpg_graph.proofs.lemmas.writing.WrittenVersion.{is_zero_before}
use Rattle.tfpg_graph.proofs.writing.version_for.Given as goal

-- the least lag of each node so far is 0
abbrev pub invariant-loop-node : goal.invariant-loop-node
invariant-loop-node l = is_zero_before l.graph l.node ≡ true
