use Rattle.std.proofs.Common.{◌<◌, ◌∙◌, sym, subst, ap, map, length, length-set, ◌==◌, ◌++◌, ◌∷◌, [], arith, rules, tests}
use Rattle.std.proofs.lemmas.List.{take_more_set, length_push}
use Rattle.std.proofs.lemmas.Iterator.Consumers.{YieldsList-turn, YieldsList-end}
use Rattle.std.proofs.lemmas.Iterator.Splits.{YieldsList-from_slice_split}
use Rattle.tfpg_base.specs.Words.{words_of}
use Rattle.tfpg_base.proofs.words.Words.of.Goals as goal

pub returns-then-count-eq-MAX_WORDS : goal.returns-then-count-eq-MAX_WORDS
returns-then-count-eq-MAX_WORDS c =
    let all = YieldsList-from_slice_split _ (λ byte. byte == 32) c.args.line.now (search rules) (search rules) (search rules) (λ x b q k. search (rules, tests)) in
    let turn = YieldsList-turn all c.loop-word.yielded _ c.loop-word.yielded_by _ _ c.in-Some.word c.in-Some.is c.next.ensures.steps in
    subst (λ count. count < length (words_of c.args.line.now)) (sym c.loop-word.invariant.counted ∙ c.if-count-eq-MAX_WORDS.true) turn.0

pub loop-word-preserved : goal.loop-word-preserved
loop-word-preserved c = record {
  few = omega arith;
  counted = omega (arith, length_push c.loop-word.yielded c.in-Some.word);
  room = length-set c.loop-word.items c.loop-word.count c.in-Some.word ∙ c.loop-word.invariant.room;
  kept = take_more_set c.loop-word.items c.loop-word.count c.in-Some.word (omega arith) ∙ ap (λ kept. kept ++ c.in-Some.word ∷ []) c.loop-word.invariant.kept;
}

pub returns : goal.returns
returns c =
    let all = YieldsList-from_slice_split _ (λ byte. byte == 32) c.args.line.now (search rules) (search rules) (search rules) (λ x b q k. search (rules, tests)) in
    let end = YieldsList-end all c.loop-word.yielded _ c.loop-word.yielded_by _ _ c.in-None.is c.next.ensures.steps in
    ap (map (λ word. word.now)) c.loop-word.invariant.kept ∙ end.0
