use Rattle.std.proofs.Common.{arith}
use Rattle.std.proofs.lemmas.Bool.{ltb-true}
use Rattle.tfpg_base.specs.declared.limits.TheConstants.{MAX_MEMBERS}
use Rattle.tfpg_base.proofs.lemmas.Sets.{IsSet-from_bits, bit_says_member, beyond_no_member}
use Rattle.tfpg_base.proofs.set.Set.has.Goals as goal

pub returns-then-place-lt-MAX_MEMBERS-clause-member : goal.returns-then-place-lt-MAX_MEMBERS-clause-member
returns-then-place-lt-MAX_MEMBERS-clause-member c =
    bit_says_member c.self.inside.bits c.args.place c.args.self c.self.view_is c.if-place-lt-MAX_MEMBERS.true

pub returns-then-place-lt-MAX_MEMBERS-clause-set : goal.returns-then-place-lt-MAX_MEMBERS-clause-set
returns-then-place-lt-MAX_MEMBERS-clause-set c = IsSet-from_bits c.self.inside.bits c.args.self c.self.view_is

pub returns-else-place-lt-MAX_MEMBERS-clause-member : goal.returns-else-place-lt-MAX_MEMBERS-clause-member
returns-else-place-lt-MAX_MEMBERS-clause-member c = (
  λ below. absurd (omega (arith, ltb-true c.args.place MAX_MEMBERS below, c.if-place-lt-MAX_MEMBERS.false)),
  λ member. absurd (beyond_no_member c.self.inside.bits c.args.place c.args.self c.self.view_is c.if-place-lt-MAX_MEMBERS.false member),
)

pub returns-else-place-lt-MAX_MEMBERS-clause-set : goal.returns-else-place-lt-MAX_MEMBERS-clause-set
returns-else-place-lt-MAX_MEMBERS-clause-set c = IsSet-from_bits c.self.inside.bits c.args.self c.self.view_is
