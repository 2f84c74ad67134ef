-- How long a name is at most, and the text of a time.
use Rattle.std.proofs.Common.{ℕ, ◌≤◌, List, [], ◌∷◌, length, IsTrue, arith}
use Rattle.std.specs.Prelude.{decimal}
use Rattle.std.specs.List.{list_all}
use Rattle.std.proofs.lemmas.Bool.{and_parts, ltb-true, false≢true}
use Rattle.std.proofs.lemmas.Fmt.{length-decimal-le}
use Rattle.tfpg_base.specs.declared.limits.TheConstants.{LONGEST_NAME, MAX_TIME}
use Rattle.tfpg_base.specs.Words.{is_letter, is_name, is_name_byte}

-- a name is not longer than the longest
pub name_short : (name : List ℕ) → IsTrue (is_name name) → length name ≤ LONGEST_NAME
name_short [] named = absurd (false≢true named)
name_short (first ∷ others) named =
    let parts = and_parts (is_letter first) _ named in
    let fits = ltb-true (length others) LONGEST_NAME (and_parts (list_all is_name_byte others) _ parts.1).1 in
    omega (arith, fits)

-- a number that is no greater than a time may be has at most 13 digits
pub number_short : (number : ℕ) → number ≤ MAX_TIME → length (decimal number) ≤ 13
number_short number small = length-decimal-le 13 number (omega arith) (omega arith) (omega arith)
