use Rattle.tfpg_graph.specs.Reach.{IsReach}
use Rattle.tfpg_hyp.proofs.lemmas.Tables.{AreReachedWith}
use Rattle.tfpg_hyp.proofs.reaches.reaches_of.Given as goal

abbrev pub invariant-loop-hypothesis : goal.invariant-loop-hypothesis
invariant-loop-hypothesis l = record {
  so_far : AreReachedWith l.graph l.hypotheses l.reaches.items l.hypothesis-index l.set l.reach;
  part : IsReach l.graph l.part l.known;
}
