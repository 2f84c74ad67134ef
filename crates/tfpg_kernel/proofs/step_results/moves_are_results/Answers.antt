use Rattle.tfpg_kernel.proofs.lemmas.StepResults.{ResultLaws, refused, moved}
use Rattle.tfpg_kernel.proofs.step_results.moves_are_results.Goals as goal

pub returns : goal.returns
returns c =
    let laws : ResultLaws = record {
      only_one = c.a_partial_tree_has_one_present_leaf.ensures.only_one;
      finished = c.a_refutation_is_finished.ensures;
      last_of_refutation = c.the_last_step_of_a_tree_is_right.ensures.refutation;
      last_of_partial = c.the_last_step_of_a_tree_is_right.ensures.partial;
      refutation_stays = c.a_tree_stays.ensures.refutation;
      path_stays = c.a_tree_stays.ensures.path;
      path_moves = c.a_partial_tree_grows.ensures.moves;
      path_is = c.a_partial_tree_has_one_present_leaf.ensures.path;
      leaf_ends = c.a_partial_tree_grows.ensures.closed;
    } in
    record {
      refused = λ graph earlier log old steps step ordered goes_on represents. refused laws graph earlier log old steps ordered goes_on represents step;
      moved = λ graph earlier log old new steps step result ordered goes_on represents open_old kept. moved laws graph earlier log old steps ordered goes_on represents step new open_old kept result;
    }
