use Rattle.std.proofs.Common.{◌≡◌, ◌<◌, All, length}
use Rattle.tfpg_base.specs.declared.limits.TheConstants.{MAX_NODE_NUMBERS}
use Rattle.tfpg_embed.specs.Ranking.{HasNodeBit}
use Rattle.tfpg_embed.proofs.lemmas.Masks.{AreTaken}
use Rattle.tfpg_embed.proofs.ranking.doubts_words.Given as goal

-- there are eight words, and each node has its bit or is left
abbrev pub invariant-loop-parts : goal.invariant-loop-parts
invariant-loop-parts l = record {
  count : length l.words ≡ 8;
  taken : AreTaken l.fn.doubts l.left (HasNodeBit l.words);
  small : All (λ node. node < MAX_NODE_NUMBERS) l.left;
}

abbrev pub decreases-loop-parts : goal.decreases-loop-parts
decreases-loop-parts l = length l.left
