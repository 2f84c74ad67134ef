use Rattle.std.proofs.Common.{◌∙◌, sym, ap, length}
use Rattle.tfpg_base.proofs.lemmas.Sets.{IsSet-from_bits, length-members_of}
use Rattle.tfpg_base.proofs.set.Set.len.Goals as goal

pub returns-clause-count : goal.returns-clause-count
returns-clause-count c = sym (length-members_of c.self.inside.bits c.self.invariant) ∙ ap length c.self.view_is

pub returns-clause-set : goal.returns-clause-set
returns-clause-set c = IsSet-from_bits c.self.inside.bits c.args.self c.self.view_is
