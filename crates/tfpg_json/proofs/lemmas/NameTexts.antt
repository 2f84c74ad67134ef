-- A name is text: each of its bytes is ASCII.
use Rattle.std.proofs.Common.{◌≡◌, ℕ, zero, suc, ◌<◌, true, List, [], ◌∷◌, IsTrue, slice_index, refl, arith}
use Rattle.std.specs.List.{list_all}
use Rattle.std.specs.Str.{IsAscii, IsUtf8}
use Rattle.std.specs.Prelude.{Result, Ok, Err, IsOk, MatchResult}
use Rattle.std.proofs.lemmas.Bool.{and_parts, and_from, or_left, false≢true}
use Rattle.std.proofs.lemmas.Bool.Decides.{nat_tests}
use Rattle.std.proofs.lemmas.Str.{IsUtf8-from_ascii}
use Rattle.tfpg_base.specs.Words.{is_letter, is_name_byte, is_name}

-- a byte that may stand in a name is ASCII
name_byte_small : (byte : ℕ) → is_name_byte byte ≡ true → byte < 128
name_byte_small byte is = grind (arith, nat_tests)

-- the bytes of a name may stand in one
pub each_name_byte : (name : List ℕ) → is_name name ≡ true → list_all is_name_byte name ≡ true
each_name_byte [] named = absurd (false≢true named)
each_name_byte (first ∷ others) named =
    let parts = and_parts (is_letter first) _ named in
    and_from (is_name_byte first) (list_all is_name_byte others) (or_left (is_letter first) _ parts.0) (and_parts (list_all is_name_byte others) _ parts.1).0

pub each_small : (bytes : List ℕ) → list_all is_name_byte bytes ≡ true → (i : ℕ) → slice_index bytes i < 128
each_small [] each i = omega arith
each_small (byte ∷ bytes) each zero = name_byte_small byte (and_parts (is_name_byte byte) _ each).0
each_small (byte ∷ bytes) each (suc i) = each_small bytes (and_parts (is_name_byte byte) _ each).1 i

-- a name is ASCII
pub IsAscii-name : (name : List ℕ) → IsTrue (is_name name) → IsAscii name
IsAscii-name name named = each_small name (each_name_byte name named)

-- so it is UTF-8
pub IsUtf8-name : (name : List ℕ) → IsTrue (is_name name) → IsUtf8 name
IsUtf8-name name named = IsUtf8-from_ascii name (IsAscii-name name named)

-- a result is Ok where it is an error of something else alone
pub IsOk-unless : {T E : Type 0} (result : Result T E) (P : T → Type 0) (Q : E → Type 0) (U : Type 0) → MatchResult result P (λ e. (U → ⊥) × Q e) → U → IsOk result
IsOk-unless (Ok x) P Q U match holds = refl
IsOk-unless (Err e) P Q U match holds = absurd (match.0 holds)
