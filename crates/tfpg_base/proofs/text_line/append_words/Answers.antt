use Rattle.std.proofs.Common.{map, arith}
use Rattle.std.proofs.lemmas.List.{length-map}
use Rattle.tfpg_base.proofs.lemmas.Appended.{Appends-err_after}
use Rattle.tfpg_base.proofs.lemmas.LinesByWord.{line_goes_on, line_ends}
use Rattle.tfpg_base.proofs.text_line.append_words.Goals as goal

pub returns-in_err-append_part : goal.returns-in_err-append_part
returns-in_err-append_part c = Appends-err_after _ _ _ _ _ _ c.from_residual.ensures.0 c.loop-index.invariant c.in_err-append_part.ensures

pub loop-index-preserved : goal.loop-index-preserved
loop-index-preserved c =
    line_goes_on (λ w. w.now) c.args.words.now c.loop-index.index _ _ _ _ c.loop-index-test.true c.loop-index.invariant c.in_ok-append_part.ensures

pub returns : goal.returns
returns c = line_ends (map (λ w. w.now) c.args.words.now) c.loop-index.index _ _ (omega (arith, length-map c.args.words.now (λ w. w.now), c.loop-index-test.false)) c.loop-index.invariant
