-- The members of a hypothesis, as words.
use Rattle.std.specs.Prelude.{ℕ, List, ◌++◌, map, codes}
use Rattle.tfpg_base.specs.Hypothesis.{Hypothesis}
use Rattle.tfpg_graph.specs.Graph.{Tfpg, name_word, failure_word}

-- the word for a monitor that is not believed: an exclamation mark, and its node's name
abbrev pub doubt_word : Tfpg → ℕ → List ℕ
doubt_word graph node = codes "!" ++ name_word graph node

-- the words for the members of a hypothesis: the names of its failure modes in the order of their positions, and then the
-- words for the monitors that it does not believe, in the order of their nodes
abbrev pub member_words : Tfpg → Hypothesis → List (List ℕ)
member_words graph hypothesis = map (failure_word graph) hypothesis.set ++ map (doubt_word graph) hypothesis.doubts
