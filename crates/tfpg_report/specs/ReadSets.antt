-- What is read of the text of a set.
use Rattle.std.specs.Prelude.{◌≡◌, ℕ, List, Option, Some, None}
use Rattle.tfpg_base.specs.Hypothesis.{Hypothesis}
use Rattle.tfpg_graph.specs.Graph.{Tfpg}
use Rattle.tfpg_report.specs.SetText.{IsHypothesisOf, set_word}

-- The hypothesis is of the graph, and the word is its text. If there is none, the word is the text of no hypothesis of the
-- graph.
abbrev pub IsHypothesisIn : Tfpg → List ℕ → Option Hypothesis → Type 0
IsHypothesisIn graph word (Some hypothesis) = IsHypothesisOf graph hypothesis × (word ≡ set_word graph hypothesis)
IsHypothesisIn graph word None =
    (hypothesis : Hypothesis) → IsHypothesisOf graph hypothesis → word ≡ set_word graph hypothesis → ⊥
