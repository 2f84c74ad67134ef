-- The text of a line of words.
use Rattle.std.specs.Prelude.{ℕ, List, ◌∷◌, Bool, true, false}
use Rattle.tfpg_base.specs.Words.{line_of}
use Rattle.tfpg_base.specs.Lines.{with_line_end}

-- words with a space between each two, and a line end
abbrev pub text_line : List (List ℕ) → List ℕ
text_line words = with_line_end (line_of words)

-- a part, with the separator before it unless it is the first
abbrev pub separated : ℕ → Bool → List ℕ → List ℕ
separated separator true part = part
separated separator false part = separator ∷ part
