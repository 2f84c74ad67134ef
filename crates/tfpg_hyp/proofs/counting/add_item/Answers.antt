use Rattle.std.proofs.Common.{◌-◌, ◌<◌, ◌^◌, get_or, refl, arith, subst}
use Rattle.tfpg_hyp.proofs.lemmas.CountedSoFar.{IsCountedFrom, IsCountedFrom-start, IsCountedFrom-next, IsCountedFrom-end}
use Rattle.tfpg_hyp.proofs.counting.add_item.Goals as goal

pub loop-size-init : goal.loop-size-init
loop-size-init c = (IsCountedFrom-start c.args.of_size.now c.args.greatest, omega arith)

pub loop-size-preserved : goal.loop-size-preserved
loop-size-preserved c = (
  IsCountedFrom-next c.args.of_size.now c.loop-size.of_size c.args.greatest c.loop-size.size _
      (omega (arith, c.loop-size.auto.of_size, c.requires.within, c.loop-size.invariant.1)) c.loop-size-test.true c.loop-size.invariant.1 refl c.loop-size.invariant.0,
  omega (arith, c.loop-size.invariant.1),
)

pub overflow_add-of_size : goal.overflow_add-of_size
overflow_add-of_size c =
    let size = c.loop-size.size in
    let here : get_or c.args.of_size.now size 0 < 2 ^ 127 = c.requires.small size 0 (omega (arith, c.requires.within, c.loop-size.invariant.1)) in
    let before : get_or c.args.of_size.now (size - 1) 0 < 2 ^ 127 = c.requires.small (size - 1) 0 (omega (arith, c.requires.within, c.loop-size.invariant.1)) in
    omega (arith, here, before, c.loop-size.invariant.0.below size (omega arith), c.loop-size.invariant.0.below (size - 1) (omega arith))

pub returns : goal.returns
returns c = record {
  counted = λ size within. IsCountedFrom-end c.args.of_size.now c.loop-size.of_size c.args.greatest size (subst (IsCountedFrom c.args.of_size.now c.loop-size.of_size c.args.greatest) (omega (arith, c.loop-size-test.false)) c.loop-size.invariant.0) within;
  larger = λ size above. c.loop-size.invariant.0.larger size above;
}
