use Rattle.std.proofs.Common.{◌+◌, ◌^◌, ◌<◌, ◌∙◌, arith, ap, sym, length, get_or, count_ones}
use Rattle.std.specs.List.{sum_by}
use Rattle.std.proofs.lemmas.List.Elements.{All-get_or}
use Rattle.std.proofs.lemmas.List.Sums.{sum_by_more}
use Rattle.std.proofs.lemmas.Nat.{ones-le}
use Rattle.std.proofs.lemmas.List.{take_all}
use Rattle.tfpg_base.proofs.lemmas.NodeSets.{IsNodeSet-from_words, ones_say_count}
use Rattle.tfpg_base.proofs.node_numbers.NodeNumbers.len.Goals as goal

pub loop-word-preserved : goal.loop-word-preserved
loop-word-preserved c =
    let words = c.self.inside.words in
    let within : c.loop-word.word-index < length words = omega (arith, c.loop-word-test.true, c.self.invariant.count) in
    let small = All-get_or (λ w. w < 2 ^ 64) words c.loop-word.word-index 0 within c.self.invariant.small in
    record {
      count = ap (λ before. before + count_ones (get_or words c.loop-word.word-index 0)) c.loop-word.invariant.count
          ∙ sym (sum_by_more count_ones words c.loop-word.word-index 0 within);
      few = omega (arith, c.loop-word.invariant.few, ones-le 64 _ small);
    }

pub returns-clause-count : goal.returns-clause-count
returns-clause-count c =
    let words = c.self.inside.words in
    c.loop-word.invariant.count
    ∙ ap (λ first. sum_by count_ones first) (take_all c.loop-word.word-index words (omega (arith, c.loop-word-test.false, c.self.invariant.count)))
    ∙ ones_say_count words c.args.self c.self.invariant c.self.view_is

pub returns-clause-set : goal.returns-clause-set
returns-clause-set c = IsNodeSet-from_words c.self.inside.words c.args.self c.self.invariant c.self.view_is
