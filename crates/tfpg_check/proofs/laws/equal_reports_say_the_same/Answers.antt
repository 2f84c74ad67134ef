use Rattle.tfpg_check.proofs.lemmas.EqualSayings.{say_the_same}
use Rattle.tfpg_check.proofs.laws.equal_reports_say_the_same.Goals as goal

pub returns : goal.returns
returns c = say_the_same (record {
  fitting = c.rounds_say_which_sets_fit.ensures;
  of_graph = c.a_round_is_of_its_graph.ensures;
  parts_first = c.subsets_stand_before_their_supersets.ensures.before;
})
