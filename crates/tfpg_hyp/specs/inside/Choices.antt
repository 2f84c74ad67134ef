-- How the hypotheses are listed and counted, size by size.
use Rattle.std.specs.Prelude.{ℕ, zero, suc, ◌+◌, List, [], ◌∷◌, ◌++◌, map, nat_le, if◌then◌else◌}
use Rattle.tfpg_base.specs.Hypothesis.{Hypothesis, believing}

-- ---- lists

-- the sets of this size of a list of monitors, in order: first those with the first one
abbrev pub doubted : ℕ → List ℕ → List (List ℕ)
doubted zero monitors = [] ∷ []
doubted (suc size) [] = []
doubted (suc size) (node ∷ others) = map (λ nodes. node ∷ nodes) (doubted size others) ++ doubted (suc size) others

-- the hypothesis of these doubts alone
abbrev pub doubting : List ℕ → Hypothesis
doubting nodes = record { set = []; doubts = nodes }

-- the hypothesis with one failure mode more, before the others
abbrev pub with_first : ℕ → Hypothesis → Hypothesis
with_first position hypothesis = record { set = position ∷ hypothesis.set; doubts = hypothesis.doubts }

-- The hypotheses of one size, in order: their failure modes are so many positions from the least on, and of the monitors they
-- doubt at most so many. First come those with the least position.
abbrev pub chosen : List ℕ → ℕ → ℕ → ℕ → ℕ → List Hypothesis
chosen monitors doubt zero size least = if nat_le size doubt then map doubting (doubted size monitors) else []
chosen monitors doubt (suc count) zero least = believing [] ∷ []
chosen monitors doubt (suc count) (suc size) least =
    map (with_first least) (chosen monitors doubt count size (least + 1)) ++ chosen monitors doubt count (suc size) (least + 1)

-- the hypotheses below this size, in order
abbrev pub chosen_below : List ℕ → ℕ → ℕ → ℕ → List Hypothesis
chosen_below monitors doubt count zero = []
chosen_below monitors doubt count (suc size) = chosen_below monitors doubt count size ++ chosen monitors doubt count size 0

-- ---- numbers

-- how many sets of this size of so many monitors there are: each has the first one, or has it not
abbrev pub choices : ℕ → ℕ → ℕ
choices zero monitors = 1
choices (suc size) zero = 0
choices (suc size) (suc monitors) = choices size monitors + choices (suc size) monitors

-- how many hypotheses of this size there are
abbrev pub counted : ℕ → ℕ → ℕ → ℕ → ℕ
counted monitors doubt zero size = if nat_le size doubt then choices size monitors else 0
counted monitors doubt (suc count) zero = 1
counted monitors doubt (suc count) (suc size) = counted monitors doubt count size + counted monitors doubt count (suc size)

-- how many hypotheses below this size there are
abbrev pub counted_below : ℕ → ℕ → ℕ → ℕ → ℕ
counted_below monitors doubt count zero = 0
counted_below monitors doubt count (suc size) = counted_below monitors doubt count size + counted monitors doubt count size

-- the numbers of each size where there is one item more: a set of this size has it, or has it not
abbrev pub with_one_more : (ℕ → ℕ) → ℕ → ℕ
with_one_more of_size zero = of_size 0
with_one_more of_size (suc size) = of_size size + of_size (suc size)
