use Rattle.std.proofs.Common.{subst, ◌+◌, ◌∙◌, Bool, arith}
use Rattle.tfpg_evidence.specs.declared.reason.Reason.TheVariants.{Pick}
use Rattle.tfpg_search.specs.inside.Leaving.{PushesOne}
use Rattle.tfpg_search.proofs.lemmas.leaves.AlternativePushed.{loop_stated, loop_next, loop_closes, step_same, step_pushing, step_last, step_picks, step_within, all_pushed}
use Rattle.tfpg_search.proofs.search.Search.push_all.Goals as goal
use Rattle.tfpg_clause.specs.inside.MarkedTrees.{picked_on}

pub push_one-requires-clause-stated : goal.push_one-requires-clause-stated
push_one-requires-clause-stated g c =
    loop_stated c.args.graph.now c.args.log.now c.args.self.now c.loop-before.self c.loop-before.invariant.same c.loop-before.invariant.pushing

pub push_one-requires-clause-next : goal.push_one-requires-clause-next
push_one-requires-clause-next g c =
    loop_next c.args.self.now c.loop-before.self c.loop-before.invariant.same c.args.split c.loop-before.before c.loop-before.invariant.picks c.requires.next c.loop-before-test.true

pub returns-in-Ok-false-clause-pushing : goal.returns-in-Ok-false-clause-pushing
returns-in-Ok-false-clause-pushing g c =
    step_pushing c.args.graph.now c.args.log.now c.args.self.now c.loop-before.self c.loop-before.invariant.same c.loop-before.invariant.pushing c.push_one.new.self c.push_one.ensures.same
    c.push_one.ensures.pushing

pub returns-in-Ok-false-clause-ok : goal.returns-in-Ok-false-clause-ok
returns-in-Ok-false-clause-ok g c =
    step_last c.args.graph.now c.args.log.now c.args.self.now c.loop-before.self c.loop-before.invariant.same c.loop-before.invariant.pushing c.push_one.new.self c.push_one.ensures.same
    c.push_one.ensures.pushing c.args.split c.loop-before.before c.loop-before.invariant.picks c.loop-before.invariant.within
    (subst
    (λ (b : Bool). PushesOne (picked_on c.args.graph.now c.args.log.now c.loop-before.self.path c.args.split (c.loop-before.before + 1)) (Pick c.args.split (c.loop-before.before + 1))
    c.loop-before.self.leaf c.push_one.new.self.leaf b) c.in-Ok-false.field-0-test c.in-Ok-false.ensures.ok)

pub returns-in-Err-clause-pushing : goal.returns-in-Err-clause-pushing
returns-in-Err-clause-pushing g c =
    step_pushing c.args.graph.now c.args.log.now c.args.self.now c.loop-before.self c.loop-before.invariant.same c.loop-before.invariant.pushing c.push_one.new.self c.push_one.ensures.same
    c.push_one.ensures.pushing

pub returns-in-Err-clause-closes : goal.returns-in-Err-clause-closes
returns-in-Err-clause-closes g c =
    loop_closes c.args.graph.now c.args.log.now c.args.self.now c.loop-before.self c.loop-before.invariant.same c.loop-before.invariant.pushing c.in-Err.fault c.in-Err.ensures.closes

pub loop-before-preserved : goal.loop-before-preserved
loop-before-preserved g c =
    let one =
    subst
    (λ (b : Bool). PushesOne (picked_on c.args.graph.now c.args.log.now c.loop-before.self.path c.args.split (c.loop-before.before + 1)) (Pick c.args.split (c.loop-before.before + 1))
    c.loop-before.self.leaf c.push_one.new.self.leaf b) c.in-Ok-true.field-0-test c.in-Ok-true.ensures.ok in
    record {
      same =
          step_same c.args.graph.now c.args.log.now c.args.self.now c.loop-before.self c.loop-before.invariant.same c.loop-before.invariant.pushing c.push_one.new.self c.push_one.ensures.same
          c.push_one.ensures.pushing;
      pushing =
          step_pushing c.args.graph.now c.args.log.now c.args.self.now c.loop-before.self c.loop-before.invariant.same c.loop-before.invariant.pushing c.push_one.new.self c.push_one.ensures.same
          c.push_one.ensures.pushing;
      picks =
          step_picks c.args.graph.now c.args.log.now c.args.self.now c.loop-before.self c.loop-before.invariant.same c.loop-before.invariant.pushing c.push_one.new.self c.push_one.ensures.same
          c.push_one.ensures.pushing c.args.split c.loop-before.before c.loop-before.invariant.picks c.loop-before.invariant.within one;
      bounds = c.push_one.ensures.bounds ∙ c.loop-before.invariant.bounds;
      counts = (let one = c.push_one.ensures.counts in let so_far = c.loop-before.invariant.counts in omega arith);
      identity = c.push_one.ensures.identity ∙ c.loop-before.invariant.identity;
      counted = (let one = c.push_one.ensures.counted in let so_far = c.loop-before.invariant.counted in omega arith);
      within =
          step_within c.args.graph.now c.args.log.now c.args.self.now c.loop-before.self c.loop-before.invariant.same c.loop-before.invariant.pushing c.push_one.new.self c.push_one.ensures.same
          c.push_one.ensures.pushing c.args.split c.loop-before.before c.loop-before.invariant.picks c.loop-before.invariant.within one;
    }

pub returns-clause-ok : goal.returns-clause-ok
returns-clause-ok g c =
    all_pushed c.clause_laws.ensures c.args.graph.now c.args.log.now c.is_always_valid.ensures.valid c.args.self.now c.loop-before.self.leaf c.args.split c.loop-before.before c.loop-before-test.false
    c.loop-before.invariant.within c.loop-before.invariant.picks
