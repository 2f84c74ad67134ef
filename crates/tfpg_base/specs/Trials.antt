-- Searches by trial: which numbers up to a limit pass a test.
use Rattle.std.specs.Prelude.{ℕ, zero, suc, Bool, Option, Some, None, if◌then◌else◌}
use Rattle.std.specs.Option.{option_or}

-- the least number up to a limit that passes
abbrev pub least : (ℕ → Bool) → ℕ → Option ℕ
least passes zero = if passes 0 then Some 0 else None
least passes (suc limit) = option_or (least passes limit) (if passes (suc limit) then Some (suc limit) else None)

-- the greatest number up to a limit that passes
abbrev pub greatest : (ℕ → Bool) → ℕ → Option ℕ
greatest passes zero = if passes 0 then Some 0 else None
greatest passes (suc limit) = if passes (suc limit) then Some (suc limit) else greatest passes limit
