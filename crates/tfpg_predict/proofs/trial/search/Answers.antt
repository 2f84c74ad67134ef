use Rattle.std.proofs.Common.{ℕ, List, sym, subst, ◌∙◌}
use Rattle.tfpg_graph.specs.Graph.{AreFailures}
use Rattle.tfpg_graph.specs.Reach.{IsReach}
use Rattle.tfpg_predict.specs.inside.Quests.{asked_by}
use Rattle.tfpg_predict.proofs.lemmas.AsProbed.{able_ignoring, ordered_ignoring, members, of_probed, some_event}
use Rattle.tfpg_predict.proofs.lemmas.Searching.{represents_none, tried_by}
use Rattle.tfpg_predict.proofs.trial.search.Goals as goal

pub reach-reach-requires : goal.reach-reach-requires
reach-reach-requires g c = record {
  members = subst (AreFailures c.args.probed.now.graph) (sym c.set-set.ensures) (members (asked_by c.args.quest.now) c.args.bound c.is_always_valid.ensures.valid
      (able_ignoring c.args.quest.now.graph.now c.args.quest.now.log.now c.args.quest.now.node c.args.quest.now.to c.args.quest.now.hypothesis.doubts c.requires.quest.probeable c.requires.quest.doubts)
      (ordered_ignoring c.args.quest.now.log.now c.args.quest.now.hypothesis.doubts c.is_always_ordered.ensures) c.requires.bound c.args.probed.now.graph c.args.probed.now.log c.requires.probed
      c.args.quest.now.hypothesis.set c.requires.quest.members);
}

pub new-requires-clause-members : goal.new-requires-clause-members
new-requires-clause-members g c =
    subst (AreFailures c.args.probed.now.graph) (sym c.set-set.ensures) (members (asked_by c.args.quest.now) c.args.bound c.is_always_valid.ensures.valid
    (able_ignoring c.args.quest.now.graph.now c.args.quest.now.log.now c.args.quest.now.node c.args.quest.now.to c.args.quest.now.hypothesis.doubts c.requires.quest.probeable c.requires.quest.doubts)
    (ordered_ignoring c.args.quest.now.log.now c.args.quest.now.hypothesis.doubts c.is_always_ordered.ensures) c.requires.bound c.args.probed.now.graph c.args.probed.now.log c.requires.probed
    c.args.quest.now.hypothesis.set c.requires.quest.members)

pub round-requires-clause-of : goal.round-requires-clause-of
round-requires-clause-of g c =
    of_probed (asked_by c.args.quest.now) c.args.bound c.is_always_valid.ensures.valid
    (able_ignoring c.args.quest.now.graph.now c.args.quest.now.log.now c.args.quest.now.node c.args.quest.now.to c.args.quest.now.hypothesis.doubts c.requires.quest.probeable c.requires.quest.doubts)
    (ordered_ignoring c.args.quest.now.log.now c.args.quest.now.hypothesis.doubts c.is_always_ordered.ensures) c.requires.bound c.args.probed.now.graph c.args.probed.now.log c.requires.probed

pub round-requires-clause-event : goal.round-requires-clause-event
round-requires-clause-event g c =
    some_event (asked_by c.args.quest.now) c.args.bound c.is_always_valid.ensures.valid
    (able_ignoring c.args.quest.now.graph.now c.args.quest.now.log.now c.args.quest.now.node c.args.quest.now.to c.args.quest.now.hypothesis.doubts c.requires.quest.probeable c.requires.quest.doubts)
    (ordered_ignoring c.args.quest.now.log.now c.args.quest.now.hypothesis.doubts c.is_always_ordered.ensures) c.requires.bound c.args.probed.now.graph c.args.probed.now.log c.requires.probed

pub round-requires-clause-represents : goal.round-requires-clause-represents
round-requires-clause-represents g c =
    represents_none c.args.probed.now.graph c.args.probed.now.log c.in_ok-search.search c.in_ok-search.ensures.seen c.in_ok-search.ensures.represents

pub returns : goal.returns
returns g c =
    tried_by (asked_by c.args.quest.now) c.args.bound c.is_always_valid.ensures.valid
    (able_ignoring c.args.quest.now.graph.now c.args.quest.now.log.now c.args.quest.now.node c.args.quest.now.to c.args.quest.now.hypothesis.doubts c.requires.quest.probeable c.requires.quest.doubts)
    (ordered_ignoring c.args.quest.now.log.now c.args.quest.now.hypothesis.doubts c.is_always_ordered.ensures) c.requires.bound c.args.probed.now.graph c.args.probed.now.log c.requires.probed
    c.is_always_valid-2.ensures.valid c.is_always_ordered-2.ensures c.args.quest.now.hypothesis.set c.reach-reach.result
    (subst (λ (set : List ℕ). IsReach c.args.probed.now.graph set c.reach-reach.result) c.set-set.ensures c.reach-reach.ensures)
    c.args.quest.now.budget c.in_ok-search.search c.round.new.self c.args.steps.now c.round.new.steps c.requires.steps c.in_ok-search.ensures.seen c.in_ok-search.ensures.reach
    (c.round.ensures.reach ∙ c.in_ok-search.ensures.reach) (c.round.ensures.set ∙ c.in_ok-search.ensures.set ∙ c.set-set.ensures) c.in_ok-search.ensures.represents
    c.in_ok-found.found c.in_ok-found.ensures.enough c.in_ok-found.ensures.searched
