use Rattle.tfpg_engine.proofs.tree_laws.tree_laws.Goals as goal

pub returns : goal.returns
returns c =
    let fronts = c.the_front_of_a_tree_is_a_partial_tree.ensures in
    let leaves = c.a_partial_tree_has_one_present_leaf.ensures in
    let trees = c.a_tree_stays.ensures in
    record {
      first = c.a_log_goes_on_from_its_first_events.ensures;
      partial_front = fronts.partial;
      refutation_front = fronts.refutation;
      leaf_begins = c.a_partial_tree_grows.ensures.begins;
      leaf_there = leaves.there;
      one_leaf = leaves.only_one;
      leaf_stays = trees.leaf;
      partial_stays = trees.partial;
      refutation_stays = trees.refutation;
      finished = c.a_refutation_is_finished.ensures;
    }
