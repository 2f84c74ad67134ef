-- What a hypothesis becomes with one member more that comes after its own.
use Rattle.std.specs.Prelude.{ℕ, ◌+◌, ◌-◌, List, [], ◌∷◌, ◌++◌, length, map, filter, nat_le, nat_lt, if◌then◌else◌}
use Rattle.std.specs.List.{range_with_len}
use Rattle.tfpg_base.specs.Hypothesis.{Hypothesis}

-- the first number after these rising ones; without any, the least one
abbrev pub next_after : ℕ → List ℕ → ℕ
next_after least [] = least
next_after least (first ∷ others) = next_after (first + 1) others

-- the numbers from one on, below another
abbrev pub between : ℕ → ℕ → List ℕ
between least end = range_with_len least (end - least)

-- with one failure mode more
abbrev pub with_position : Hypothesis → ℕ → Hypothesis
with_position hypothesis position = record { set = hypothesis.set ++ position ∷ []; doubts = hypothesis.doubts }

-- with the doubt in one monitor more
abbrev pub with_doubt : Hypothesis → ℕ → Hypothesis
with_doubt hypothesis node = record { set = hypothesis.set; doubts = hypothesis.doubts ++ node ∷ [] }

-- these, where nothing is doubted
abbrev pub unless_doubting : List ℕ → List ℕ → List ℕ
unless_doubting [] numbers = numbers
unless_doubting (first ∷ others) numbers = []

-- the positions that may follow: those after its own, from the least on, below an end, where it doubts no monitor
abbrev pub positions_after : ℕ → ℕ → Hypothesis → List ℕ
positions_after end least hypothesis = unless_doubting hypothesis.doubts (between (next_after least hypothesis.set) end)

-- the monitors from this number on
abbrev pub from_node : ℕ → List ℕ → List ℕ
from_node least monitors = filter (λ node. nat_le least node) monitors

-- the monitors that may follow: those after its own, where it may doubt one more
abbrev pub monitors_after : List ℕ → ℕ → Hypothesis → List ℕ
monitors_after monitors doubt hypothesis =
    if nat_lt (length hypothesis.doubts) doubt then from_node (next_after 0 hypothesis.doubts) monitors else []

-- the hypotheses with one member more, after its own, in order
abbrev pub larger : List ℕ → ℕ → ℕ → ℕ → Hypothesis → List Hypothesis
larger monitors doubt end least hypothesis =
    map (with_position hypothesis) (positions_after end least hypothesis) ++ map (with_doubt hypothesis) (monitors_after monitors doubt hypothesis)
