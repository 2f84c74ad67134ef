use Rattle.tfpg_diagnose.proofs.lemmas.StaysRejected.{stays_rejected}
use Rattle.tfpg_diagnose.proofs.laws.a_rejected_set_stays_rejected.Goals as goal

pub returns-clause-rejected : goal.returns-clause-rejected
returns-clause-rejected c = λ graph terms lines blocks are earlier later in_order number first second has has_later rejected.
    (stays_rejected (record {
      finished = c.a_refutation_is_finished.ensures;
      partial_front = c.the_front_of_a_tree_is_a_partial_tree.ensures.partial;
      refutation_front = c.the_front_of_a_tree_is_a_partial_tree.ensures.refutation;
      stays = c.a_tree_stays.ensures.refutation;
    }) graph terms lines blocks are earlier later in_order number first second has has_later rejected).0

pub returns-clause-no_steps : goal.returns-clause-no_steps
returns-clause-no_steps c = λ graph terms lines blocks are earlier later in_order number first second has has_later rejected.
    (stays_rejected (record {
      finished = c.a_refutation_is_finished.ensures;
      partial_front = c.the_front_of_a_tree_is_a_partial_tree.ensures.partial;
      refutation_front = c.the_front_of_a_tree_is_a_partial_tree.ensures.refutation;
      stays = c.a_tree_stays.ensures.refutation;
    }) graph terms lines blocks are earlier later in_order number first second has has_later rejected).1
