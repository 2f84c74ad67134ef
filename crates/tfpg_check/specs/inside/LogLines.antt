-- Where the first of some lines ends.
use Rattle.std.specs.Prelude.{◌≡◌, ℕ, ◌<◌, ◌≤◌, List, length, take, get_or}
use Rattle.tfpg_base.specs.Lines.{HasNoLineEnd}

-- The first line of the bytes has this length: it ends at the first line end, or with the bytes.
pub record IsLineEnd (bytes : List ℕ) (end : ℕ) : Type 0 where
  pub within : end ≤ length bytes
  pub clean : HasNoLineEnd (take end bytes)
  pub ends : end < length bytes → get_or bytes end 0 ≡ 10
