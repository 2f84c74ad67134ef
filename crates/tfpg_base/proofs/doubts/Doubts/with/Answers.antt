use Rattle.std.proofs.Common.{◌≡◌, ◌⊎◌, ◌↔◌, subst}
use Rattle.std.specs.List.{Contains}
use Rattle.tfpg_base.proofs.doubts.Doubts.with.Goals as goal

pub returns-clause-members : goal.returns-clause-members
returns-clause-members c =
    λ other. subst (λ nodes. Contains c.with.result other ↔ ((c.args.node ≡ other) ⊎ Contains nodes other))
    c.self.view_is (c.with.ensures.members other)
