use Rattle.std.proofs.Common.{sym, subst, inl, inr}
use Rattle.std.specs.Prelude.{All, IsTrue, IsSomeAnd, ◌↔◌}
use Rattle.std.proofs.lemmas.Bool.{both_ways}
use Rattle.tfpg_base.specs.Constraint.{Meets}
use Rattle.tfpg_clause.specs.inside.FirstSpan.{IsExcused}
use Rattle.tfpg_clause.proofs.must_violated.is_excused_by.Goals as goal

pub returns-else-meets : goal.returns-else-meets
returns-else-meets c =
    let times = c.args.times.now in
    subst (λ due. IsTrue c.meets-else-meets.result ↔ IsSomeAnd due (IsExcused times c.args.hi)) c.in-Some.ensures.value (
      λ yes. inr (subst (All (Meets times)) c.follows_in_time.ensures (c.meets-else-meets.ensures.0 yes)),
      λ excuse. elim excuse [
        | inl late ↦
            absurd
            (both_ways c.meets.result c.if-meets.false (c.meets.ensures.1 (subst (All (Meets times)) (sym c.starts_late.ensures) late)))
        | inr soon ↦ c.meets-else-meets.ensures.1 (subst (All (Meets times)) (sym c.follows_in_time.ensures) soon)
      ],
    )

pub returns-then-meets : goal.returns-then-meets
returns-then-meets c =
    let times = c.args.times.now in
    subst (λ due. IsTrue c.meets.result ↔ IsSomeAnd due (IsExcused times c.args.hi)) c.in-Some.ensures.value (
      λ yes. inl (subst (All (Meets times)) c.starts_late.ensures (c.meets.ensures.0 yes)),
      λ excuse. c.if-meets.true,
    )
