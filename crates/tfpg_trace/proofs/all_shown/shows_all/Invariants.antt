use Rattle.tfpg_trace.proofs.lemmas.ShownByNode.{ShowNodesBefore}
use Rattle.tfpg_trace.proofs.all_shown.shows_all.Given as goal

abbrev pub invariant-loop-node : goal.invariant-loop-node
invariant-loop-node l = ShowNodesBefore l.graph l.log l.trace l.node
