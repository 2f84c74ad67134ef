-- Words that go on a list of words with commas between.
use Rattle.std.specs.Prelude.{ℕ, List, [], ◌∷◌, ◌++◌, Bool, false}
use Rattle.tfpg_base.specs.TextLine.{separated}

-- the words, with a comma before each, unless it is the first of the whole list
abbrev pub further_words : Bool → List (List ℕ) → List ℕ
further_words is_first [] = []
further_words is_first (word ∷ words) = separated 44 is_first word ++ further_words false words
