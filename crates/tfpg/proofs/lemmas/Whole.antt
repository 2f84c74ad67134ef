-- Reading to the end, where what is left is known.
use Rattle.std.proofs.Common.{◌≡◌, ◌<◌, ℕ, List, ◌++◌, Option, Some, None, IfSome, length, sym, ap, ◌∙◌, append_assoc, arith}
use Rattle.std.proofs.lemmas.List.{length-append}
use Rattle.std.specs.Io.KnownBytes.{Consumes}

-- where what was read passes the room, what is known passes it too
pub more_is_known : (before now after : Option (List ℕ)) (given part front : List ℕ) → Consumes before now given → Consumes now after part
    → (more : List ℕ) × (0 < length more) × (given ++ part ≡ front ++ more)
    → IfSome before (λ known. (more : List ℕ) × (0 < length more) × (known ≡ front ++ more))
more_is_known None now after given part front p q passed = tt
more_is_known (Some known) None after given part front p q passed = absurd p
more_is_known (Some known) (Some left) None given part front p q passed = absurd q
more_is_known (Some known) (Some left) (Some rest) given part front p q passed = (
  passed.0 ++ rest,
  longer,
  p ∙ ap (λ (l : List ℕ). given ++ l) q ∙ sym (append_assoc given part rest) ∙ ap (λ (l : List ℕ). l ++ rest) passed.2 ∙ append_assoc front passed.0 rest,
) where
  longer : 0 < length (passed.0 ++ rest)
  longer = omega (arith, length-append passed.0 rest, passed.1)
