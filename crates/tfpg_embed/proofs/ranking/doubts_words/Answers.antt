use Rattle.std.proofs.Common.{◌<◌, ◌/◌, All, arith, length, refl, set, subst, ◌∙◌}
use Rattle.std.proofs.lemmas.List.{length-set}
use Rattle.std.proofs.lemmas.List.Elements.{All-head, All-tail}
use Rattle.tfpg_base.specs.declared.limits.TheConstants.{MAX_NODE_NUMBERS}
use Rattle.tfpg_embed.specs.Ranking.{HasNodeBit}
use Rattle.tfpg_embed.proofs.lemmas.Masks.{AreTaken-all, AreTaken-more, AreTaken-none, no_node_bit, set_node_is, zeros}
use Rattle.tfpg_embed.proofs.ranking.doubts_words.Goals as goal

pub loop-parts-init : goal.loop-parts-init
loop-parts-init c = record { count = refl; taken = AreTaken-none c.args.doubts (HasNodeBit zeros) no_node_bit; small = c.requires }

pub bounds-words-number : goal.bounds-words-number
bounds-words-number c =
    let first = All-head (λ node. node < MAX_NODE_NUMBERS) c.in-Some.parts.0 c.in-Some.parts.1 (subst (All (λ node. node < MAX_NODE_NUMBERS)) c.in-Some.ensures c.loop-parts.invariant.small) in
    omega (arith, first, c.loop-parts.invariant.count)

pub bounds-words-number-in-Some : goal.bounds-words-number-in-Some
bounds-words-number-in-Some c =
    let first = All-head (λ node. node < MAX_NODE_NUMBERS) c.in-Some.parts.0 c.in-Some.parts.1 (subst (All (λ node. node < MAX_NODE_NUMBERS)) c.in-Some.ensures c.loop-parts.invariant.small) in
    omega (arith, first, c.loop-parts.invariant.count)

pub loop-parts-preserved : goal.loop-parts-preserved
loop-parts-preserved c =
    let first = All-head (λ node. node < MAX_NODE_NUMBERS) c.in-Some.parts.0 c.in-Some.parts.1 (subst (All (λ node. node < MAX_NODE_NUMBERS)) c.in-Some.ensures c.loop-parts.invariant.small) in
    let within : c.in-Some.parts.0 / 64 < length c.loop-parts.words = omega (arith, first, c.loop-parts.invariant.count) in
    record {
      count = length-set c.loop-parts.words (c.in-Some.parts.0 / 64) c.with_bit.result ∙ c.loop-parts.invariant.count;
      taken = AreTaken-more c.args.doubts c.loop-parts.left c.in-Some.parts.0 c.in-Some.parts.1 (HasNodeBit c.loop-parts.words) (HasNodeBit (set c.loop-parts.words (c.in-Some.parts.0 / 64) c.with_bit.result))
          c.in-Some.ensures c.loop-parts.invariant.taken (λ n. set_node_is c.loop-parts.words c.in-Some.parts.0 c.with_bit.result n within c.with_bit.ensures);
      small = All-tail (λ node. node < MAX_NODE_NUMBERS) c.in-Some.parts.0 c.in-Some.parts.1 (subst (All (λ node. node < MAX_NODE_NUMBERS)) c.in-Some.ensures c.loop-parts.invariant.small);
    }

pub returns : goal.returns
returns c = record {
  count = c.loop-parts.invariant.count;
  each = λ node small. AreTaken-all c.args.doubts c.loop-parts.left (HasNodeBit c.loop-parts.words) c.in_default.ensures c.loop-parts.invariant.taken node;
}
