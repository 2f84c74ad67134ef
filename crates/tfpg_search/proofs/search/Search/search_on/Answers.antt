use Rattle.std.proofs.Common.{refl, ap, subst, Option, Some, None, length, ◌+◌, ◌-◌, arith}
use Rattle.std.proofs.Math.Arith.{lt_of_le-ne}
use Rattle.std.specs.Prelude.{Ok}
use Rattle.tfpg_search.specs.declared.search.Look.{Look}
use Rattle.tfpg_search.specs.inside.Moves.{Looking, Sees}
use Rattle.tfpg_search.proofs.lemmas.calls.FoundInTurn.{keeps_on, grows_still, found_on}
use Rattle.tfpg_search.specs.inside.Counted.{unset, due}
use Rattle.tfpg_search.specs.inside.Leaf.{Leaf}
use Rattle.tfpg_search.proofs.lemmas.work.CallsPaid.{given_at, given_kept, one_left, then_looked, step_pays, none_left}
use Rattle.tfpg_search.proofs.lemmas.steps.StepsAppended.{grows_on}
use Rattle.tfpg_search.specs.Searched.{call_of}
use Rattle.tfpg_search.proofs.search.Search.search_on.Goals as goal

pub returns-in-Err-clause-searches : goal.returns-in-Err-clause-searches
returns-in-Err-clause-searches g c =
    found_on c.args.graph.now c.args.log.now c.args.budget c.args.self.now c.loop-trace.self c.look.new.self c.args.steps.now c.loop-trace.steps c.look.new.steps c.loop-trace.spent c.in-Err.ensures.looking.0 _ c.loop-trace.invariant.keeps c.loop-trace.invariant.grows c.in-Err.ensures.looking.1 c.loop-trace.invariant.within tt

pub returns-in-Ok-None-clause-searches : goal.returns-in-Ok-None-clause-searches
returns-in-Ok-None-clause-searches g c =
    let looking =
    subst (λ (o : Option Look). Looking c.args.graph.now c.args.log.now (call_of c.loop-trace.self c.look.new.self c.loop-trace.steps c.look.new.steps) (Ok o)) c.in-Ok-None.field-0-is c.in-Ok-None.ensures.looking in
    found_on c.args.graph.now c.args.log.now c.args.budget c.args.self.now c.loop-trace.self c.look.new.self c.args.steps.now c.loop-trace.steps c.look.new.steps c.loop-trace.spent None _ c.loop-trace.invariant.keeps c.loop-trace.invariant.grows looking c.loop-trace.invariant.within refl

pub returns-in-Ok-Some-Shown-clause-searches : goal.returns-in-Ok-Some-Shown-clause-searches
returns-in-Ok-Some-Shown-clause-searches g c =
    let looking =
    subst (λ (o : Option Look). Looking c.args.graph.now c.args.log.now (call_of c.loop-trace.self c.look.new.self c.loop-trace.steps c.look.new.steps) (Ok o)) c.in-Ok-Some-Shown.field-0-is c.in-Ok-Some-Shown.ensures.looking in
    found_on c.args.graph.now c.args.log.now c.args.budget c.args.self.now c.loop-trace.self c.look.new.self c.args.steps.now c.loop-trace.steps c.look.new.steps c.loop-trace.spent (Some c.look.new.self.path) _ c.loop-trace.invariant.keeps c.loop-trace.invariant.grows looking.3 c.loop-trace.invariant.within (subst (Sees c.args.graph.now c.args.log.now c.look.new.self) c.in-Ok-Some-Shown.field-0-0-is looking.2, looking.0, looking.1, refl, looking.4)

pub returns-then-spent-budget-clause-searches : goal.returns-then-spent-budget-clause-searches
returns-then-spent-budget-clause-searches g c =
    let looking =
    subst (λ (o : Option Look). Looking c.args.graph.now c.args.log.now (call_of c.loop-trace.self c.look.new.self c.loop-trace.steps c.look.new.steps) (Ok o)) c.in-Ok-Some-Violated.field-0-is c.in-Ok-Some-Violated.ensures.looking in
    found_on c.args.graph.now c.args.log.now c.args.budget c.args.self.now c.loop-trace.self c.look.new.self c.args.steps.now c.loop-trace.steps c.look.new.steps c.loop-trace.spent (Some c.look.new.self.path) _ c.loop-trace.invariant.keeps c.loop-trace.invariant.grows looking.3 c.loop-trace.invariant.within (c.if-spent-budget.true, (c.in-Ok-Some-Violated.name, subst (Sees c.args.graph.now c.args.log.now c.look.new.self) c.in-Ok-Some-Violated.field-0-0-is looking.2), looking.0, looking.1, refl, looking.4)

pub returns-in-Err-split-clause-searches : goal.returns-in-Err-split-clause-searches
returns-in-Err-split-clause-searches g c =
    let looking =
    subst (λ (o : Option Look). Looking c.args.graph.now c.args.log.now (call_of c.loop-trace.self c.look.new.self c.loop-trace.steps c.look.new.steps) (Ok o)) c.in-Ok-Some-Violated.field-0-is c.in-Ok-Some-Violated.ensures.looking in
    found_on c.args.graph.now c.args.log.now c.args.budget c.args.self.now c.look.new.self c.split.new.self c.args.steps.now c.look.new.steps c.split.new.steps c.loop-trace.spent c.in-Err-split.ensures.splitting.0 _
    (keeps_on c.args.self.now c.loop-trace.self c.look.new.self c.loop-trace.invariant.keeps c.look.ensures.keeps) (grows_still c.args.graph.now c.args.log.now c.args.self.now c.loop-trace.self c.loop-trace.self c.look.new.self c.args.steps.now c.loop-trace.steps c.look.new.steps c.loop-trace.spent (Some c.look.new.self.path) c.loop-trace.invariant.keeps refl c.loop-trace.invariant.grows looking.3) c.in-Err-split.ensures.splitting.1 c.loop-trace.invariant.within tt

pub loop-trace-preserved : goal.loop-trace-preserved
loop-trace-preserved g c =
    let looking =
    subst (λ (o : Option Look). Looking c.args.graph.now c.args.log.now (call_of c.loop-trace.self c.look.new.self c.loop-trace.steps c.look.new.steps) (Ok o)) c.in-Ok-Some-Violated.field-0-is c.in-Ok-Some-Violated.ensures.looking in
    record {
      stands = c.in-Ok.ensures.splitting.0;
      facts = λ _. given_kept c.args.graph.now c.args.log.now c.look.new.self c.split.new.self c.split.ensures.keeps (ap (λ (leaf : Leaf). leaf.demands.bounds) c.split.ensures.leaf) looking.1.bounds;
      keeps = keeps_on c.args.self.now c.look.new.self c.split.new.self (keeps_on c.args.self.now c.loop-trace.self c.look.new.self c.loop-trace.invariant.keeps c.look.ensures.keeps) c.split.ensures.keeps;
      grows = grows_on c.args.graph.now c.args.log.now c.args.self.now c.look.new.self c.look.new.self c.split.new.self c.args.steps.now c.look.new.steps c.split.new.steps c.loop-trace.spent 1 (Some c.split.new.self.path) (keeps_on c.args.self.now c.loop-trace.self c.look.new.self c.loop-trace.invariant.keeps c.look.ensures.keeps) refl (grows_still c.args.graph.now c.args.log.now c.args.self.now c.loop-trace.self c.loop-trace.self c.look.new.self c.args.steps.now c.loop-trace.steps c.look.new.steps c.loop-trace.spent (Some c.look.new.self.path) c.loop-trace.invariant.keeps refl c.loop-trace.invariant.grows looking.3) c.in-Ok.ensures.splitting.1;
      counted = (let so_far = c.loop-trace.invariant.counted in let looked = c.look.ensures.counted in let same = ap (λ (leaf : Leaf). leaf.calls) c.split.ensures.leaf in omega arith);
      counts = λ bounds given.
          step_pays c.look.new.work (unset bounds c.look.new.self.leaf) (unset bounds c.split.new.self.leaf) (length c.split.new.self.path - length c.split.new.self.entered) (c.args.work.now + due bounds c.args.self.now)
          (length c.args.steps.now) (length c.look.new.steps) (length c.split.new.steps)
          (then_looked c.loop-trace.work c.look.new.work (due bounds c.loop-trace.self) (unset bounds c.look.new.self.leaf) (c.args.work.now + due bounds c.args.self.now)
          (length c.args.steps.now) (length c.loop-trace.steps) (length c.look.new.steps) (c.loop-trace.invariant.counts bounds given)
          (c.look.ensures.counts bounds (given_at c.args.graph.now c.args.log.now c.args.self.now c.loop-trace.self c.loop-trace.invariant.keeps.reach bounds given)))
          (ap (unset bounds) c.split.ensures.leaf) c.in-Ok.ensures.appended
          (one_left c.args.graph.now c.args.log.now c.split.new.self c.in-Ok.ensures.splitting.0);
      within = omega (arith, lt_of_le-ne c.loop-trace.invariant.within c.if-spent-budget.false);
    }

pub returns-in-Err-clause-counts : goal.returns-in-Err-clause-counts
returns-in-Err-clause-counts g c bounds given =
    then_looked c.loop-trace.work c.look.new.work (due bounds c.loop-trace.self) (unset bounds c.look.new.self.leaf) (c.args.work.now + due bounds c.args.self.now)
    (length c.args.steps.now) (length c.loop-trace.steps) (length c.look.new.steps) (c.loop-trace.invariant.counts bounds given)
    (c.look.ensures.counts bounds (given_at c.args.graph.now c.args.log.now c.args.self.now c.loop-trace.self c.loop-trace.invariant.keeps.reach bounds given))

pub returns-in-Ok-None-clause-counts : goal.returns-in-Ok-None-clause-counts
returns-in-Ok-None-clause-counts g c bounds given =
    then_looked c.loop-trace.work c.look.new.work (due bounds c.loop-trace.self) (unset bounds c.look.new.self.leaf) (c.args.work.now + due bounds c.args.self.now)
    (length c.args.steps.now) (length c.loop-trace.steps) (length c.look.new.steps) (c.loop-trace.invariant.counts bounds given)
    (c.look.ensures.counts bounds (given_at c.args.graph.now c.args.log.now c.args.self.now c.loop-trace.self c.loop-trace.invariant.keeps.reach bounds given))

pub returns-in-Ok-Some-Shown-clause-counts : goal.returns-in-Ok-Some-Shown-clause-counts
returns-in-Ok-Some-Shown-clause-counts g c bounds given =
    then_looked c.loop-trace.work c.look.new.work (due bounds c.loop-trace.self) (unset bounds c.look.new.self.leaf) (c.args.work.now + due bounds c.args.self.now)
    (length c.args.steps.now) (length c.loop-trace.steps) (length c.look.new.steps) (c.loop-trace.invariant.counts bounds given)
    (c.look.ensures.counts bounds (given_at c.args.graph.now c.args.log.now c.args.self.now c.loop-trace.self c.loop-trace.invariant.keeps.reach bounds given))

pub returns-then-spent-budget-clause-counts : goal.returns-then-spent-budget-clause-counts
returns-then-spent-budget-clause-counts g c bounds given =
    then_looked c.loop-trace.work c.look.new.work (due bounds c.loop-trace.self) (unset bounds c.look.new.self.leaf) (c.args.work.now + due bounds c.args.self.now)
    (length c.args.steps.now) (length c.loop-trace.steps) (length c.look.new.steps) (c.loop-trace.invariant.counts bounds given)
    (c.look.ensures.counts bounds (given_at c.args.graph.now c.args.log.now c.args.self.now c.loop-trace.self c.loop-trace.invariant.keeps.reach bounds given))

pub returns-in-Err-split-clause-counts : goal.returns-in-Err-split-clause-counts
returns-in-Err-split-clause-counts g c bounds given =
    none_left c.look.new.work (unset bounds c.look.new.self.leaf) (unset bounds c.split.new.self.leaf) (c.args.work.now + due bounds c.args.self.now) (length c.args.steps.now) (length c.look.new.steps) (length c.split.new.steps)
    (then_looked c.loop-trace.work c.look.new.work (due bounds c.loop-trace.self) (unset bounds c.look.new.self.leaf) (c.args.work.now + due bounds c.args.self.now)
    (length c.args.steps.now) (length c.loop-trace.steps) (length c.look.new.steps) (c.loop-trace.invariant.counts bounds given)
    (c.look.ensures.counts bounds (given_at c.args.graph.now c.args.log.now c.args.self.now c.loop-trace.self c.loop-trace.invariant.keeps.reach bounds given)))
    (ap (unset bounds) c.split.ensures.leaf) c.split.ensures.longer
