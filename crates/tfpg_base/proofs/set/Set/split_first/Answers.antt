use Rattle.std.proofs.Common.{ap, sym, ◌∙◌}
use Rattle.tfpg_base.specs.SetBits.{members_of}
use Rattle.tfpg_base.proofs.lemmas.Sets.{members_of-zero}
use Rattle.tfpg_base.proofs.set.Set.split_first.Goals as goal

pub returns-then-self-eq0 : goal.returns-then-self-eq0
returns-then-self-eq0 c = sym c.self.view_is ∙ ap members_of c.if-self-eq0.true ∙ members_of-zero
