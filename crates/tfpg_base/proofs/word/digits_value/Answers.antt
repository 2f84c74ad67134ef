use Rattle.std.proofs.Common.{◌≡◌, arith, take_all, ap, ◌∙◌}
use Rattle.std.specs.Str.Parse.{digits_value}
use Rattle.std.proofs.lemmas.Int.Digits.{digits_value_more}
use Rattle.std.proofs.lemmas.Str.Parse.{digit_at}
use Rattle.tfpg_base.proofs.lemmas.lists.Digits.{digits_value-front}
use Rattle.tfpg_base.proofs.lemmas.Numbers.{AllDigits-from_number}
use Rattle.tfpg_base.proofs.word.digits_value.Goals as goal

pub with_digit-requires : goal.with_digit-requires
with_digit-requires c =
    digit_at c.args.digits.now c.loop-digit.digit-index (AllDigits-from_number c.args.digits.now c.requires) (omega arith)

pub returns-in_err-value : goal.returns-in_err-value
returns-in_err-value c =
    let front = digits_value-front c.args.digits.now c.loop-digit.digit-index (omega arith) in
    rw c.from_residual.ensures (λ small. c.in_err-value.ensures (omega (arith, front, c.loop-digit.invariant, small)))

pub loop-digit-preserved : goal.loop-digit-preserved
loop-digit-preserved c =
    let more = digits_value_more 10 c.args.digits.now c.loop-digit.digit-index (omega arith) in
    (omega (arith, c.in_ok-value.ensures), omega (arith, more, c.loop-digit.invariant, c.in_ok-value.ensures))

pub returns : goal.returns
returns c =
    let all = take_all c.loop-digit.digit-index c.args.digits.now (omega arith) in
    let whole : c.loop-digit.value ≡ digits_value 10 c.args.digits.now = c.loop-digit.invariant.1 ∙ ap (digits_value 10) all in
    (omega (arith, whole), whole)
