use Rattle.std.proofs.Common.{◌≡◌, ◌⊎◌, ◌↔◌, ◌∙◌, ap, sym, subst, lit<}
use Rattle.std.proofs.lemmas.Nat.{or_lt, mod_below}
use Rattle.std.specs.List.{Contains}
use Rattle.tfpg_base.specs.Set.{with_member}
use Rattle.tfpg_base.proofs.lemmas.Sets.{IsSet-members_of, members_of-set, members-with_member}
use Rattle.tfpg_base.proofs.set.Set.with.Goals as goal

pub invariant_of-result : goal.invariant_of-result
invariant_of-result c = or_lt 64 c.self.inside.bits _ c.self.invariant (mod_below _ _ (lit< tt))

pub returns-clause-list : goal.returns-clause-list
returns-clause-list c = members_of-set c.self.inside.bits c.args.place c.requires ∙ ap (with_member c.args.place) c.self.view_is

pub returns-clause-members : goal.returns-clause-members
returns-clause-members c =
    λ other. subst (λ members. Contains members other ↔ ((c.args.place ≡ other) ⊎ Contains c.args.self other))
    (sym (members_of-set c.self.inside.bits c.args.place c.requires ∙ ap (with_member c.args.place) c.self.view_is)) (members-with_member c.args.place c.args.self other)

pub returns-clause-set : goal.returns-clause-set
returns-clause-set c = IsSet-members_of _
