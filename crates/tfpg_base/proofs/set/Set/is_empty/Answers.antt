use Rattle.std.proofs.Common.{lit<}
use Rattle.tfpg_base.proofs.lemmas.Sets.{members_of-zero, bits_say_equal}
use Rattle.tfpg_base.proofs.set.Set.is_empty.Goals as goal

pub returns : goal.returns
returns c =
    bits_say_equal c.self.inside.bits 0 c.args.self _ c.self.view_is members_of-zero c.self.invariant (lit< tt)
