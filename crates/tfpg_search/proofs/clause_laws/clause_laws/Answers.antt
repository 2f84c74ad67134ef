use Rattle.tfpg_search.proofs.clause_laws.clause_laws.Goals as goal

pub returns : goal.returns
returns c =
    let clauses = c.a_clause_has_few_small_alternatives.ensures in
    let leaves = c.a_partial_tree_has_one_present_leaf.ensures in
    record {
      lower = c.bounds_hold_of_the_times_of_nodes.ensures.lower;
      upper = c.bounds_hold_of_the_times_of_nodes.ensures.upper;
      some = clauses.some;
      few = clauses.few;
      small = clauses.small;
      first = c.a_log_goes_on_from_its_first_events.ensures;
      clause_stays = c.what_is_allowed_stays_allowed.ensures.clause;
      fact_stays = c.what_is_allowed_stays_allowed.ensures.fact;
      stated_stays = c.a_tree_stays.ensures.stated;
      partial_front = c.the_front_of_a_tree_is_a_partial_tree.ensures.partial;
      path_begins = c.a_partial_tree_grows.ensures.begins;
      path_moves = c.a_partial_tree_grows.ensures.moves;
      leaf_ends = c.a_partial_tree_grows.ensures.closed;
      leaf_there = leaves.there;
      one_leaf = leaves.only_one;
      leaf_stays = c.a_tree_stays.ensures.leaf;
      path_stays = c.a_tree_stays.ensures.path;
      path_is = leaves.path;
      finished = c.a_refutation_is_finished.ensures;
    }
