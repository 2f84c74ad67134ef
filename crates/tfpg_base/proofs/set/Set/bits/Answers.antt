use Rattle.std.proofs.Common.{sym, ap, ◌∙◌}
use Rattle.tfpg_base.specs.SetBits.{bits_of}
use Rattle.tfpg_base.proofs.lemmas.Sets.{IsSet-from_bits, bits_of-members_of}
use Rattle.tfpg_base.proofs.set.Set.bits.Goals as goal

pub returns-clause-worth : goal.returns-clause-worth
returns-clause-worth c = sym (bits_of-members_of c.self.inside.bits c.self.invariant) ∙ ap bits_of c.self.view_is

pub returns-clause-set : goal.returns-clause-set
returns-clause-set c = IsSet-from_bits c.self.inside.bits c.args.self c.self.view_is
