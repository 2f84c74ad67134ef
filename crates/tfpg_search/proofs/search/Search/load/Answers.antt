use Rattle.std.proofs.Common.{refl, subst, ◌∙◌, arith, Bool, Some, None, length, ◌+◌, ◌-◌}
use Rattle.std.specs.Prelude.{Ok}
use Rattle.tfpg_search.specs.inside.Moves.{Closing}
use Rattle.tfpg_search.proofs.lemmas.calls.FoundInTurn.{keeps_on}
use Rattle.tfpg_search.specs.inside.Counted.{unset, due}
use Rattle.tfpg_search.proofs.lemmas.work.CallsPaid.{unset_kept, given_at, given_kept, one_left, then_loaded, then_none, step_pays, none_left}
use Rattle.tfpg_search.proofs.lemmas.steps.StepsAppended.{grows_on}
use Rattle.tfpg_search.specs.Searched.{call_of}
use Rattle.tfpg_search.proofs.search.Search.load.Goals as goal

pub loop-self-preserved-in-Ok-true : goal.loop-self-preserved-in-Ok-true
loop-self-preserved-in-Ok-true g c =
    let closing =
    subst (λ (b : Bool). Closing c.args.graph.now c.args.log.now (call_of c.loop-self.self c.reuse.new.self c.loop-self.steps c.reuse.new.steps) (Ok b)) c.in-Ok-true.field-0-test c.in-Ok-true.ensures.closing in
    record {
      stands = closing.0;
      facts = λ has. given_kept c.args.graph.now c.args.log.now c.loop-self.self c.reuse.new.self c.reuse.ensures.keeps c.reuse.ensures.bounds (c.loop-self.invariant.facts has);
      keeps = keeps_on c.args.self.now c.loop-self.self c.reuse.new.self c.loop-self.invariant.keeps c.reuse.ensures.keeps;
      grows =
          grows_on c.args.graph.now c.args.log.now c.args.self.now c.loop-self.self c.loop-self.self c.reuse.new.self c.args.steps.now c.loop-self.steps c.reuse.new.steps 0 0 (Some c.reuse.new.self.path)
          c.loop-self.invariant.keeps refl c.loop-self.invariant.grows closing.1;
      counted = (let so_far = c.loop-self.invariant.counted in let same = c.reuse.ensures.counted in omega arith);
      counts = λ bounds given.
          step_pays c.loop-self.work (unset bounds c.loop-self.self.leaf) (unset bounds c.reuse.new.self.leaf) (length c.reuse.new.self.path - length c.reuse.new.self.entered) (c.args.work.now + due bounds c.args.self.now)
          (length c.args.steps.now) (length c.loop-self.steps) (length c.reuse.new.steps)
          (then_none c.loop-self.work (unset bounds c.loop-self.self.leaf) (length c.loop-self.self.path - length c.loop-self.self.entered) (c.args.work.now + due bounds c.args.self.now)
          (length c.args.steps.now) (length c.loop-self.steps) (c.loop-self.invariant.counts bounds given))
          (unset_kept bounds c.loop-self.self.leaf c.reuse.new.self.leaf c.reuse.ensures.bounds) c.in-Ok-true.ensures.appended
          (one_left c.args.graph.now c.args.log.now c.reuse.new.self closing.0);
    }

pub returns-in-Ok-false-clause-loading : goal.returns-in-Ok-false-clause-loading
returns-in-Ok-false-clause-loading g c =
    let closing =
    subst (λ (b : Bool). Closing c.args.graph.now c.args.log.now (call_of c.loop-self.self c.reuse.new.self c.loop-self.steps c.reuse.new.steps) (Ok b)) c.in-Ok-false.field-0-test c.in-Ok-false.ensures.closing in
    grows_on c.args.graph.now c.args.log.now c.args.self.now c.loop-self.self c.loop-self.self c.reuse.new.self c.args.steps.now c.loop-self.steps c.reuse.new.steps 0 0 None c.loop-self.invariant.keeps refl
    c.loop-self.invariant.grows closing

pub returns-in-Err-clause-loading : goal.returns-in-Err-clause-loading
returns-in-Err-clause-loading g c = (
  c.in-Err.ensures.closing.0,
  grows_on c.args.graph.now c.args.log.now c.args.self.now c.loop-self.self c.loop-self.self c.reuse.new.self c.args.steps.now c.loop-self.steps c.reuse.new.steps 0 0 c.in-Err.ensures.closing.0
      c.loop-self.invariant.keeps refl c.loop-self.invariant.grows c.in-Err.ensures.closing.1,
)

pub loop-self-preserved : goal.loop-self-preserved
loop-self-preserved g c =
    let keeps = keeps_on c.args.self.now c.loop-self.self c.add_all.new.self c.loop-self.invariant.keeps c.add_all.ensures.keeps in
    let closing =
    subst (λ (b : Bool). Closing c.args.graph.now c.args.log.now (call_of c.add_all.new.self c.close.new.self c.loop-self.steps c.close.new.steps) (Ok b)) c.in-Ok-true-close.field-0-test
    c.in-Ok-true-close.ensures.closing in
    record {
      stands = closing.0;
      facts = λ has.
          given_kept c.args.graph.now c.args.log.now c.loop-self.self c.close.new.self (keeps_on c.loop-self.self c.add_all.new.self c.close.new.self c.add_all.ensures.keeps c.close.ensures.keeps)
          (c.close.ensures.bounds ∙ c.add_all.ensures.bounds has) (c.loop-self.invariant.facts has);
      keeps = keeps_on c.args.self.now c.add_all.new.self c.close.new.self keeps c.close.ensures.keeps;
      grows =
          grows_on c.args.graph.now c.args.log.now c.args.self.now c.loop-self.self c.add_all.new.self c.close.new.self c.args.steps.now c.loop-self.steps c.close.new.steps 0 0
          (Some c.close.new.self.path) keeps c.add_all.ensures.path c.loop-self.invariant.grows closing.1;
      counted = (let so_far = c.loop-self.invariant.counted in let added = c.add_all.ensures.counted in let same = c.close.ensures.counted in omega arith);
      counts = λ bounds given.
          step_pays c.add_all.new.work (unset bounds c.add_all.new.self.leaf) (unset bounds c.close.new.self.leaf) (length c.close.new.self.path - length c.close.new.self.entered) (c.args.work.now + due bounds c.args.self.now)
          (length c.args.steps.now) (length c.loop-self.steps) (length c.close.new.steps)
          (then_loaded c.loop-self.work c.add_all.new.work (due bounds c.loop-self.self) (unset bounds c.add_all.new.self.leaf) (c.args.work.now + due bounds c.args.self.now) (length c.args.steps.now) (length c.loop-self.steps)
          (c.loop-self.invariant.counts bounds given)
          (c.add_all.ensures.counts bounds (given_at c.args.graph.now c.args.log.now c.args.self.now c.loop-self.self c.loop-self.invariant.keeps.reach bounds given)))
          (unset_kept bounds c.add_all.new.self.leaf c.close.new.self.leaf c.close.ensures.bounds) c.in-Ok-true-close.ensures.appended
          (one_left c.args.graph.now c.args.log.now c.close.new.self closing.0);
    }

pub returns-in-Ok-false-close-clause-loading : goal.returns-in-Ok-false-close-clause-loading
returns-in-Ok-false-close-clause-loading g c =
    let keeps = keeps_on c.args.self.now c.loop-self.self c.add_all.new.self c.loop-self.invariant.keeps c.add_all.ensures.keeps in
    let closing =
    subst (λ (b : Bool). Closing c.args.graph.now c.args.log.now (call_of c.add_all.new.self c.close.new.self c.loop-self.steps c.close.new.steps) (Ok b)) c.in-Ok-false-close.field-0-test
    c.in-Ok-false-close.ensures.closing in
    grows_on c.args.graph.now c.args.log.now c.args.self.now c.loop-self.self c.add_all.new.self c.close.new.self c.args.steps.now c.loop-self.steps c.close.new.steps 0 0 None keeps
    c.add_all.ensures.path c.loop-self.invariant.grows closing

pub returns-in-Err-close-clause-loading : goal.returns-in-Err-close-clause-loading
returns-in-Err-close-clause-loading g c =
    let keeps = keeps_on c.args.self.now c.loop-self.self c.add_all.new.self c.loop-self.invariant.keeps c.add_all.ensures.keeps in (
      c.in-Err-close.ensures.closing.0,
      grows_on c.args.graph.now c.args.log.now c.args.self.now c.loop-self.self c.add_all.new.self c.close.new.self c.args.steps.now c.loop-self.steps c.close.new.steps 0 0
          c.in-Err-close.ensures.closing.0 keeps c.add_all.ensures.path c.loop-self.invariant.grows c.in-Err-close.ensures.closing.1,
    )

pub returns-in-Ok-false-clause-counts : goal.returns-in-Ok-false-clause-counts
returns-in-Ok-false-clause-counts g c bounds given =
    none_left c.loop-self.work (unset bounds c.loop-self.self.leaf) (unset bounds c.reuse.new.self.leaf) (c.args.work.now + due bounds c.args.self.now) (length c.args.steps.now) (length c.loop-self.steps) (length c.reuse.new.steps)
    (then_none c.loop-self.work (unset bounds c.loop-self.self.leaf) (length c.loop-self.self.path - length c.loop-self.self.entered) (c.args.work.now + due bounds c.args.self.now)
    (length c.args.steps.now) (length c.loop-self.steps) (c.loop-self.invariant.counts bounds given))
    (unset_kept bounds c.loop-self.self.leaf c.reuse.new.self.leaf c.reuse.ensures.bounds) c.reuse.ensures.longer

pub returns-in-Err-clause-counts : goal.returns-in-Err-clause-counts
returns-in-Err-clause-counts g c bounds given =
    none_left c.loop-self.work (unset bounds c.loop-self.self.leaf) (unset bounds c.reuse.new.self.leaf) (c.args.work.now + due bounds c.args.self.now) (length c.args.steps.now) (length c.loop-self.steps) (length c.reuse.new.steps)
    (then_none c.loop-self.work (unset bounds c.loop-self.self.leaf) (length c.loop-self.self.path - length c.loop-self.self.entered) (c.args.work.now + due bounds c.args.self.now)
    (length c.args.steps.now) (length c.loop-self.steps) (c.loop-self.invariant.counts bounds given))
    (unset_kept bounds c.loop-self.self.leaf c.reuse.new.self.leaf c.reuse.ensures.bounds) c.reuse.ensures.longer

pub returns-in-Ok-false-close-clause-counts : goal.returns-in-Ok-false-close-clause-counts
returns-in-Ok-false-close-clause-counts g c bounds given =
    none_left c.add_all.new.work (unset bounds c.add_all.new.self.leaf) (unset bounds c.close.new.self.leaf) (c.args.work.now + due bounds c.args.self.now) (length c.args.steps.now) (length c.loop-self.steps) (length c.close.new.steps)
    (then_loaded c.loop-self.work c.add_all.new.work (due bounds c.loop-self.self) (unset bounds c.add_all.new.self.leaf) (c.args.work.now + due bounds c.args.self.now) (length c.args.steps.now) (length c.loop-self.steps)
    (c.loop-self.invariant.counts bounds given)
    (c.add_all.ensures.counts bounds (given_at c.args.graph.now c.args.log.now c.args.self.now c.loop-self.self c.loop-self.invariant.keeps.reach bounds given)))
    (unset_kept bounds c.add_all.new.self.leaf c.close.new.self.leaf c.close.ensures.bounds) c.close.ensures.longer

pub returns-in-Err-close-clause-counts : goal.returns-in-Err-close-clause-counts
returns-in-Err-close-clause-counts g c bounds given =
    none_left c.add_all.new.work (unset bounds c.add_all.new.self.leaf) (unset bounds c.close.new.self.leaf) (c.args.work.now + due bounds c.args.self.now) (length c.args.steps.now) (length c.loop-self.steps) (length c.close.new.steps)
    (then_loaded c.loop-self.work c.add_all.new.work (due bounds c.loop-self.self) (unset bounds c.add_all.new.self.leaf) (c.args.work.now + due bounds c.args.self.now) (length c.args.steps.now) (length c.loop-self.steps)
    (c.loop-self.invariant.counts bounds given)
    (c.add_all.ensures.counts bounds (given_at c.args.graph.now c.args.log.now c.args.self.now c.loop-self.self c.loop-self.invariant.keeps.reach bounds given)))
    (unset_kept bounds c.add_all.new.self.leaf c.close.new.self.leaf c.close.ensures.bounds) c.close.ensures.longer

pub returns-in-Ok-clause-counts : goal.returns-in-Ok-clause-counts
returns-in-Ok-clause-counts g c bounds given =
    then_loaded c.loop-self.work c.add_all.new.work (due bounds c.loop-self.self) (unset bounds c.add_all.new.self.leaf) (c.args.work.now + due bounds c.args.self.now) (length c.args.steps.now) (length c.loop-self.steps)
    (c.loop-self.invariant.counts bounds given)
    (c.add_all.ensures.counts bounds (given_at c.args.graph.now c.args.log.now c.args.self.now c.loop-self.self c.loop-self.invariant.keeps.reach bounds given))

pub returns-in-Err-NoMemory-clause-counts : goal.returns-in-Err-NoMemory-clause-counts
returns-in-Err-NoMemory-clause-counts g c bounds given =
    then_loaded c.loop-self.work c.add_all.new.work (due bounds c.loop-self.self) (unset bounds c.add_all.new.self.leaf) (c.args.work.now + due bounds c.args.self.now) (length c.args.steps.now) (length c.loop-self.steps)
    (c.loop-self.invariant.counts bounds given)
    (c.add_all.ensures.counts bounds (given_at c.args.graph.now c.args.log.now c.args.self.now c.loop-self.self c.loop-self.invariant.keeps.reach bounds given))
