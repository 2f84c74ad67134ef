use Rattle.std.proofs.Common.{◌<◌, length, All}
use Rattle.tfpg_graph.specs.Members.{doubt_word}
use Rattle.tfpg_report.proofs.lemmas.WrittenMembers.{IsPartWritten, words_left}
use Rattle.tfpg_report.proofs.set_line.append_doubts.Given as goal

-- the words for the members that are left are still to be written
abbrev pub invariant-loop-parts : goal.invariant-loop-parts
invariant-loop-parts l = record {
  written : IsPartWritten l.fn.into.items (words_left (doubt_word l.graph) l.fn.is_first l.fn.doubts) l.into.items (words_left (doubt_word l.graph) l.is_next_first l.left);
  within : All (λ node. node < length l.graph.nodes) l.left;
}

abbrev pub decreases-loop-parts : goal.decreases-loop-parts
decreases-loop-parts l = length l.left
