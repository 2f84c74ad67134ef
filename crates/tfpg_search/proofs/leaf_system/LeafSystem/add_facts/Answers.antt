-- Node by node the bounds say all that facts say.
use Rattle.std.proofs.Common.{◌≡◌, ◌+◌, ◌<◌, length, sym, subst, ap, ◌∙◌, arith, below_more}
use Rattle.std.proofs.lemmas.Result.{err_from_is_err_and}
use Rattle.tfpg_clause.specs.Facts.{fact}
use Rattle.tfpg_diff.specs.Demands.{Demands}
use Rattle.tfpg_diff.specs.SystemState.{with_floor, with_ceiling}
use Rattle.tfpg_search.specs.inside.Closing.{Closes}
use Rattle.tfpg_search.specs.inside.Facts.{AreFactsIn}
use Rattle.tfpg_search.specs.inside.KeptReasons.{low_reason, high_reason}
use Rattle.tfpg_search.proofs.lemmas.work.BoundsGiven.{low_there, high_there}
use Rattle.tfpg_search.proofs.lemmas.facts.FactsAdded.{facts-tightened, facts-kept}
use Rattle.tfpg_search.proofs.leaf_system.LeafSystem.add_facts.Goals as goal
use Rattle.tfpg_clause.specs.Case.{case_of}

pub returns-in_err-raise_to-clause-adds : goal.returns-in_err-raise_to-clause-adds
returns-in_err-raise_to-clause-adds g c =
    let F = fact (case_of c.args.graph.now c.args.log.now c.args.reach.now) in
    let error = err_from_is_err_and c.from_residual.result c.from_residual.ensures.1 in
    let added = c.raise_to.ensures.adds in
    rw error.1
    (record {
      entered = added.entered ∙ c.loop-node.invariant.entered;
      nodes = added.nodes ∙ c.loop-node.invariant.nodes;
      reasons = added.reasons ∙ c.loop-node.invariant.reasons;
      stated = λ stated begun.
          let still = c.loop-node.invariant.stated stated begun in
          record {
            still = (added.stated F stated still c.low.ensures.stated).still;
            closes = subst (Closes stated) (sym error.2) (c.in_err-raise_to.ensures.adds.stated F stated still c.low.ensures.stated).closes;
          };
    })

pub returns-in_err-lower_to-clause-adds : goal.returns-in_err-lower_to-clause-adds
returns-in_err-lower_to-clause-adds g c =
    let F = fact (case_of c.args.graph.now c.args.log.now c.args.reach.now) in
    let error = err_from_is_err_and c.from_residual-in_err-lower_to.result c.from_residual-in_err-lower_to.ensures.1 in
    let raised = c.raise_to.ensures.adds in
    let added = c.lower_to.ensures.adds in
    rw error.1
    (record {
      entered = added.entered ∙ raised.entered ∙ c.loop-node.invariant.entered;
      nodes = added.nodes ∙ raised.nodes ∙ c.loop-node.invariant.nodes;
      reasons = added.reasons ∙ raised.reasons ∙ c.loop-node.invariant.reasons;
      stated = λ stated begun.
          let still = (raised.stated F stated (c.loop-node.invariant.stated stated begun) c.low.ensures.stated).still in
          record {
            still = (added.stated F stated still (c.high.ensures.stated c.args.reach.now)).still;
            closes = subst (Closes stated) (sym error.2) (c.in_err-lower_to.ensures.adds.stated F stated still (c.high.ensures.stated c.args.reach.now)).closes;
          };
    })

pub loop-node-preserved : goal.loop-node-preserved
loop-node-preserved g c =
    let F = fact (case_of c.args.graph.now c.args.log.now c.args.reach.now) in
    let v = c.loop-node.node in
    let within : v < length c.args.graph.now.nodes = (let count = c.node_count-node-end.ensures.count in let goes_on = c.loop-node-test.true in omega arith) in
    let before : Demands = c.loop-node.self.demands in
    let tag = length c.raise_to.new.self.demands.bounds + v in
    let is : c.lower_to.new.self.demands ≡ with_ceiling (with_floor before v c.low.result.time v) v c.high.result.time tag =
    c.in_ok-lower_to.ensures.ok ∙ ap (λ (d : Demands). with_ceiling d v c.high.result.time tag) c.in_ok-raise_to.ensures.ok in
    record {
      entered = c.lower_to.ensures.adds.entered ∙ c.raise_to.ensures.adds.entered ∙ c.loop-node.invariant.entered;
      picks = ap (λ (d : Demands). d.picks) is ∙ c.loop-node.invariant.picks;
      reasons = c.lower_to.ensures.adds.reasons ∙ c.raise_to.ensures.adds.reasons ∙ c.loop-node.invariant.reasons;
      nodes = c.lower_to.ensures.adds.nodes ∙ c.raise_to.ensures.adds.nodes ∙ c.loop-node.invariant.nodes;
      stated = λ stated begun.
          (c.lower_to.ensures.adds.stated F stated
          (c.raise_to.ensures.adds.stated F stated (c.loop-node.invariant.stated stated begun) c.low.ensures.stated).still
          (c.high.ensures.stated c.args.reach.now)).still;
      facts = below_more (AreFactsIn F c.lower_to.new.self.demands) v
          (λ u below. subst (λ (d : Demands). AreFactsIn F d u) (sym is)
          (facts-kept F before v u c.low.result.time c.high.result.time v tag (c.loop-node.invariant.facts u below)))
          (subst (λ (d : Demands). AreFactsIn F d v) (sym is)
          (facts-tightened F before v c.low.result.time c.high.result.time v tag c.low.ensures.greatest (c.high.ensures.least c.args.reach.now)));
      identity = c.lower_to.ensures.identity ∙ c.raise_to.ensures.identity ∙ c.loop-node.invariant.identity;
      counted = (let so_far = c.loop-node.invariant.counted in let one = c.raise_to.ensures.counted in let other = c.lower_to.ensures.counted in omega arith);
      counts = λ bounds given.
          let raised = (c.in_ok-raise_to.ensures.counts bounds (low_there (case_of c.args.graph.now c.args.log.now c.args.reach.now) bounds given v c.low.result.time within (low_reason c.loop-node.node c.low.result.time c.low.result.reason) c.low.ensures.stated c.low.ensures.greatest)).ok in
          let lowered = (c.in_ok-lower_to.ensures.counts bounds (high_there (case_of c.args.graph.now c.args.log.now c.args.reach.now) bounds given v c.high.result.time within (high_reason c.loop-node.node c.high.result.reason) (c.high.ensures.stated c.args.reach.now) (c.high.ensures.least c.args.reach.now))).ok in
          let so_far = c.loop-node.invariant.counts bounds given in
          omega arith;
    }

pub returns-clause-adds : goal.returns-clause-adds
returns-clause-adds g c = record {
  entered = c.loop-node.invariant.entered;
  nodes = c.loop-node.invariant.nodes;
  reasons = c.loop-node.invariant.reasons;
  stated = λ stated begun. record { still = c.loop-node.invariant.stated stated begun; closes = tt };
}

pub returns-clause-facts : goal.returns-clause-facts
returns-clause-facts g c node within =
    let count = c.node_count-node-end.ensures.count in
    let ended = c.loop-node-test.false in
    c.loop-node.invariant.facts node (omega arith)

pub returns-clause-counts : goal.returns-clause-counts
returns-clause-counts g c bounds given =
    let so_far = c.loop-node.invariant.counts bounds given in
    record { ok = so_far; any = omega arith }

pub returns-in_err-raise_to-clause-counts : goal.returns-in_err-raise_to-clause-counts
returns-in_err-raise_to-clause-counts g c bounds given =
    let within : c.loop-node.node < length c.args.graph.now.nodes = (let count = c.node_count-node-end.ensures.count in let goes_on = c.loop-node-test.true in omega arith) in
    let error = err_from_is_err_and c.from_residual.result c.from_residual.ensures.1 in
    let raised =
    (c.in_err-raise_to.ensures.counts bounds (low_there (case_of c.args.graph.now c.args.log.now c.args.reach.now) bounds given c.loop-node.node c.low.result.time within (low_reason c.loop-node.node c.low.result.time c.low.result.reason) c.low.ensures.stated c.low.ensures.greatest)).any in
    let so_far = c.loop-node.invariant.counts bounds given in
    rw error.1 (record { ok = tt; any = omega arith })

pub returns-in_err-lower_to-clause-counts : goal.returns-in_err-lower_to-clause-counts
returns-in_err-lower_to-clause-counts g c bounds given =
    let within : c.loop-node.node < length c.args.graph.now.nodes = (let count = c.node_count-node-end.ensures.count in let goes_on = c.loop-node-test.true in omega arith) in
    let error = err_from_is_err_and c.from_residual-in_err-lower_to.result c.from_residual-in_err-lower_to.ensures.1 in
    let raised =
    (c.in_ok-raise_to.ensures.counts bounds (low_there (case_of c.args.graph.now c.args.log.now c.args.reach.now) bounds given c.loop-node.node c.low.result.time within (low_reason c.loop-node.node c.low.result.time c.low.result.reason) c.low.ensures.stated c.low.ensures.greatest)).ok in
    let lowered =
    (c.in_err-lower_to.ensures.counts bounds (high_there (case_of c.args.graph.now c.args.log.now c.args.reach.now) bounds given c.loop-node.node c.high.result.time within (high_reason c.loop-node.node c.high.result.reason) (c.high.ensures.stated c.args.reach.now) (c.high.ensures.least c.args.reach.now))).any in
    let so_far = c.loop-node.invariant.counts bounds given in
    rw error.1 (record { ok = tt; any = omega arith })
