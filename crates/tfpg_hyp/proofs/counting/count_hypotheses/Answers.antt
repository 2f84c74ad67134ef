use Rattle.std.proofs.Common.{◌≡◌, ◌+◌, ◌*◌, ◌^◌, ◌≤◌, get_or, min, refl, arith, ◌∙◌, ap, subst}
use Rattle.tfpg_hyp.specs.inside.Choices.{counted_below}
use Rattle.tfpg_hyp.proofs.lemmas.Counted.{counted-least}
use Rattle.tfpg_hyp.proofs.lemmas.CountedSoFar.{HasCounts, HasCounts-start, HasCounts-failure, HasCounts-monitor, HasCounts-small, total-next}
use Rattle.tfpg_hyp.proofs.counting.count_hypotheses.Goals as goal

pub loop-monitor-init : goal.loop-monitor-init
loop-monitor-init c = HasCounts-start c.args.doubt _ refl

pub add_item-requires-clause-small : goal.add_item-requires-clause-small
add_item-requires-clause-small c =
    HasCounts-small c.loop-monitor._monitor c.args.doubt 0 c.loop-monitor.of_size (omega (arith, c.loop-monitor-test.true, c.requires.few_monitors)) c.requires.few_doubts (omega arith) c.loop-monitor.invariant

pub loop-monitor-preserved : goal.loop-monitor-preserved
loop-monitor-preserved c =
    HasCounts-monitor c.loop-monitor._monitor c.args.doubt c.loop-monitor.of_size c.add_item.new.of_size c.loop-monitor.invariant c.add_item.auto.of_size (omega (arith, c.requires.few_doubts))
    c.add_item.ensures.counted c.add_item.ensures.larger

pub add_item-requires-in-loop-failure-clause-small : goal.add_item-requires-in-loop-failure-clause-small
add_item-requires-in-loop-failure-clause-small c =
    HasCounts-small c.args.monitors c.args.doubt c.loop-failure._failure c.loop-failure.of_size c.requires.few_monitors c.requires.few_doubts (omega (arith, c.loop-failure-test.true, c.requires.few_failures)) c.loop-failure.invariant

pub loop-failure-preserved : goal.loop-failure-preserved
loop-failure-preserved c =
    HasCounts-failure c.args.monitors c.args.doubt c.loop-failure._failure c.loop-failure.of_size c.add_item-in-loop-failure.new.of_size c.loop-failure.invariant
    c.add_item-in-loop-failure.auto.of_size c.add_item-in-loop-failure.ensures.counted

-- the size is one of those that were counted
within : (c : goal.In-loop-size) → c.loop-size.size ≤ 68
within c = omega (arith, c.loop-size-test.true, c.min-sizes.ensures, c.requires.few_failures, c.requires.few_doubts)

-- its number is one of the sum
next_total : (c : goal.In-loop-size) → c.loop-size.size ≤ 68
    → (c.loop-size.total + get_or c.loop-failure.of_size c.loop-size.size 0 ≡ counted_below c.args.monitors c.args.doubt c.args.failures (c.loop-size.size + 1))
    × (c.loop-size.total + get_or c.loop-failure.of_size c.loop-size.size 0 ≤ (c.loop-size.size + 1) * 2 ^ 100)
next_total c small =
    let all : c.loop-failure._failure ≡ c.args.failures = omega (arith, c.loop-failure-test.false, c.loop-failure.auto._failure-end) in
    total-next c.args.monitors c.args.doubt c.args.failures c.loop-failure.of_size c.loop-size.size c.loop-size.total c.requires.few_monitors c.requires.few_doubts c.requires.few_failures
    (subst (λ n. HasCounts c.args.monitors c.args.doubt n c.loop-failure.of_size) all c.loop-failure.invariant) small c.loop-size.invariant

pub overflow_add-total : goal.overflow_add-total
overflow_add-total c = let next = next_total c (within c) in omega (arith, next.1, within c)

pub loop-size-preserved : goal.loop-size-preserved
loop-size-preserved c = next_total c (within c)

pub returns : goal.returns
returns c =
    let last : c.loop-size.size ≡ min c.args.k (c.args.failures + c.args.doubt) + 1 = omega (arith, c.loop-size-test.false, c.loop-size.auto.size-end, c.min-sizes.ensures) in
    c.loop-size.invariant.0 ∙ ap (counted_below c.args.monitors c.args.doubt c.args.failures) last ∙ counted-least c.args.monitors c.args.doubt c.args.failures c.args.k
