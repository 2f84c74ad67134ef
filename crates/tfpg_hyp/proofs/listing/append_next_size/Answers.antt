use Rattle.std.proofs.Common.{rules, ◌≡◌, get_or, arith}
use Rattle.tfpg_hyp.specs.inside.Larger.{larger}
use Rattle.tfpg_hyp.proofs.lemmas.Larger.{size-turn}
use Rattle.tfpg_hyp.proofs.listing.append_next_size.Goals as goal

pub loop-number-preserved : goal.loop-number-preserved
loop-number-preserved c =
    let at : c.index-hypothesis.result.now ≡ get_or c.loop-number.list.items c.loop-number.number c.index-hypothesis.result.now = search rules in
    size-turn (larger c.args.monitors.now c.args.doubt c.args.count 0) c.args.list.now.items c.loop-number.list.items c.append_larger.new.list.items c.args.first c.loop-number.number c.index-hypothesis.result.now c.index-hypothesis.result.now
    c.loop-number.auto.number (omega (arith, c.len-end.ensures, c.loop-number-test.true)) c.loop-number.invariant at c.in_ok-append_larger.ensures
