use Rattle.std.proofs.Common.{◌≡◌, ◌⊎◌, ◌↔◌, sym, subst}
use Rattle.std.specs.List.{Contains}
use Rattle.tfpg_base.proofs.lemmas.Sets.{members-with_member}
use Rattle.tfpg_base.proofs.lemmas.NodeSets.{AreWords-with_bit, IsNodeSet-with_bit, with_bit_keeps_node}
use Rattle.tfpg_base.proofs.node_numbers.NodeNumbers.with.Goals as goal

pub invariant_of-result : goal.invariant_of-result
invariant_of-result c = AreWords-with_bit c.self.inside.words c.args.node c.requires c.self.invariant

pub returns-clause-list : goal.returns-clause-list
returns-clause-list c = with_bit_keeps_node c.self.inside.words c.args.self c.self.invariant c.self.view_is c.args.node c.requires

pub returns-clause-members : goal.returns-clause-members
returns-clause-members c =
    λ other. subst (λ nodes. Contains nodes other ↔ ((c.args.node ≡ other) ⊎ Contains c.args.self other))
    (sym (with_bit_keeps_node c.self.inside.words c.args.self c.self.invariant c.self.view_is c.args.node c.requires))
    (members-with_member c.args.node c.args.self other)

pub returns-clause-set : goal.returns-clause-set
returns-clause-set c = IsNodeSet-with_bit c.self.inside.words c.args.self c.self.invariant c.self.view_is c.args.node c.requires
