use Rattle.std.proofs.Common.{true, length}
use Rattle.tfpg_graph.specs.Graph.{AreFailures, failure_word}
use Rattle.tfpg_report.proofs.lemmas.WrittenMembers.{IsPartWritten, words_left}
use Rattle.tfpg_report.proofs.set_line.append_failures.Given as goal

-- the words for the members that are left are still to be written
abbrev pub invariant-loop-parts : goal.invariant-loop-parts
invariant-loop-parts l = record {
  written : IsPartWritten l.fn.into.items (words_left (failure_word l.graph) true l.fn.set) l.into.items (words_left (failure_word l.graph) l.is_first l.left);
  within : AreFailures l.graph l.left;
}

abbrev pub decreases-loop-parts : goal.decreases-loop-parts
decreases-loop-parts l = length l.left
