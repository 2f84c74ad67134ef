use Rattle.std.proofs.Common.{◌≡◌, ◌<◌, All, arith, subst}
use Rattle.std.specs.Int.{bit_at}
use Rattle.std.proofs.lemmas.List.Elements.{All-head, All-tail}
use Rattle.std.proofs.lemmas.Nat.Bits.{bit_at-zero}
use Rattle.tfpg_base.specs.declared.limits.TheConstants.{MAX_MEMBERS}
use Rattle.tfpg_embed.proofs.lemmas.Masks.{AreTaken-all, AreTaken-more, AreTaken-none, mask_of_all}
use Rattle.tfpg_embed.proofs.ranking.failures_word.Goals as goal

pub loop-parts-init : goal.loop-parts-init
loop-parts-init c = record { taken = AreTaken-none c.args.set (λ n. bit_at 0 n ≡ 1) (λ n one. omega (arith, one, bit_at-zero n)); small = c.requires }

pub with_bit-word-requires : goal.with_bit-word-requires
with_bit-word-requires c =
    All-head (λ position. position < MAX_MEMBERS) c.in-Some.parts.0 c.in-Some.parts.1 (subst (All (λ position. position < MAX_MEMBERS)) c.in-Some.ensures c.loop-parts.invariant.small)

pub loop-parts-preserved : goal.loop-parts-preserved
loop-parts-preserved c = record {
  taken = AreTaken-more c.args.set c.loop-parts.left c.in-Some.parts.0 c.in-Some.parts.1 (λ n. bit_at c.loop-parts.word n ≡ 1) (λ n. bit_at c.with_bit-word.result n ≡ 1)
      c.in-Some.ensures c.loop-parts.invariant.taken c.with_bit-word.ensures;
  small = All-tail (λ position. position < MAX_MEMBERS) c.in-Some.parts.0 c.in-Some.parts.1 (subst (All (λ position. position < MAX_MEMBERS)) c.in-Some.ensures c.loop-parts.invariant.small);
}

pub returns : goal.returns
returns c = mask_of_all c.args.set c.loop-parts.word c.requires (AreTaken-all c.args.set c.loop-parts.left (λ n. bit_at c.loop-parts.word n ≡ 1) c.in_default.ensures c.loop-parts.invariant.taken)
