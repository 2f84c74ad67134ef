use Rattle.tfpg_embed.proofs.lemmas.Masks.{set_bit_is}
use Rattle.tfpg_embed.proofs.ranking.with_bit.Goals as goal

pub returns : goal.returns
returns c other = set_bit_is c.args.word c.args.index other c.requires
