use Rattle.tfpg_base.proofs.lemmas.Sets.{bits_say_subset}
use Rattle.tfpg_base.proofs.set.Set.is_subset.Goals as goal

pub returns : goal.returns
returns c =
    bits_say_subset c.self.inside.bits c.of.inside.bits c.args.self c.args.of c.self.view_is c.of.view_is c.self.invariant
