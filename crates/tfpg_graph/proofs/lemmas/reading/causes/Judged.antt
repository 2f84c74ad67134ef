-- The tests of a line, group by group, come to what the definition of causes says of all of them.
use Rattle.std.proofs.Common.{◌≡◌, Option, Some, None, Result, Ok, Err, ap, subst}
use Rattle.std.specs.Option.{option_map}
use Rattle.tfpg_graph.specs.declared.cause.GraphCause.{GraphCause}
use Rattle.tfpg_graph.specs.inside.reading.Turns.{cause_or_value, ReadAs}

module _ {X : Type 0} (first : Option GraphCause) (value : Option X) (result : Result X GraphCause) where
  -- what was read with a cause
  pub ReadAs-err : (cause : GraphCause) → result ≡ Err cause → ReadAs first value result → first ≡ Some cause
  ReadAs-err cause is read = subst (ReadAs first value) is read

  -- what was read with a value
  pub ReadAs-ok : (x : X) → result ≡ Ok x → ReadAs first value result → (first ≡ None) × (value ≡ Some x)
  ReadAs-ok x is read = subst (ReadAs first value) is read

-- what has a cause is refused for it
pub cause_or_value-caused : {X : Type 0} (first : Option GraphCause) (value : Option X) (cause : GraphCause) → first ≡ Some cause → cause_or_value first value ≡ Err cause
cause_or_value-caused first value cause is = ap (λ f. cause_or_value f value) is

-- what has none and has a value is taken
pub cause_or_value-valued : {X Y : Type 0} (f : X → Y) (first : Option GraphCause) (value : Option X) (x : X) → first ≡ None → value ≡ Some x → cause_or_value first (option_map f value) ≡ Ok (f x)
cause_or_value-valued f first value x none some = λ i. cause_or_value (none i) (option_map f (some i))
