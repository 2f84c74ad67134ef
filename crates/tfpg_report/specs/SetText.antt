-- The text of a set: how a hypothesis is written, in reports and in maps.
use Rattle.std.specs.Prelude.{ℕ, List, [], ◌∷◌, All, IsTrue, codes}
use Rattle.tfpg_base.specs.Hypothesis.{Hypothesis}
use Rattle.tfpg_base.specs.Set.{Rises}
use Rattle.tfpg_base.specs.Words.{joined_by_commas}
use Rattle.tfpg_graph.specs.Graph.{Tfpg, IsSetOf, is_monitored}
use Rattle.tfpg_graph.specs.Members.{member_words}

-- A hypothesis is of a graph where its set is a set of failure modes of the graph, and its doubts are monitored nodes of
-- the graph, in rising order.
pub record IsHypothesisOf (graph : Tfpg) (hypothesis : Hypothesis) : Type 0 where
  pub set : IsSetOf graph hypothesis.set
  pub rising : Rises hypothesis.doubts
  pub monitored : All (λ node. IsTrue (is_monitored graph node)) hypothesis.doubts

-- a hyphen where there are no words, else the words with commas between
abbrev pub hyphen_or_joined : List (List ℕ) → List ℕ
hyphen_or_joined [] = codes "-"
hyphen_or_joined (word ∷ words) = joined_by_commas (word ∷ words)

-- the text of a set: a hyphen for the hypothesis without a member, else the words for its members with commas between
abbrev pub set_word : Tfpg → Hypothesis → List ℕ
set_word graph hypothesis = hyphen_or_joined (member_words graph hypothesis)
