-- By the bits one by one.
use Rattle.tfpg_base.proofs.lemmas.Sets.{IsSet-members_of, bits_of-members_of}
use Rattle.tfpg_base.proofs.laws.bits_keep_a_set.Goals as goal

pub returns : goal.returns
returns c = record { set = IsSet-members_of; bits = bits_of-members_of }
