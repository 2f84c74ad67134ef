use Rattle.std.proofs.Common.{◌≡◌, ◌<◌, All, length}
use Rattle.std.specs.Int.{bit_at}
use Rattle.tfpg_base.specs.declared.limits.TheConstants.{MAX_MEMBERS}
use Rattle.tfpg_embed.proofs.lemmas.Masks.{AreTaken}
use Rattle.tfpg_embed.proofs.ranking.failures_word.Given as goal

-- each position has its bit or is left
abbrev pub invariant-loop-parts : goal.invariant-loop-parts
invariant-loop-parts l = record {
  taken : AreTaken l.fn.set l.left (λ n. bit_at l.word n ≡ 1);
  small : All (λ position. position < MAX_MEMBERS) l.left;
}

abbrev pub decreases-loop-parts : goal.decreases-loop-parts
decreases-loop-parts l = length l.left
