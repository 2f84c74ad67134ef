-- Hypotheses: what may have failed.
use Rattle.std.specs.Prelude.{◌≢◌, ℕ, List, []}
use Rattle.tfpg_base.specs.Set.{IsSubset}

-- a hypothesis: failure modes, by their positions, and monitors that it doubts, by their nodes
pub record Hypothesis : Type 0 where
  pub set : List ℕ
  pub doubts : List ℕ

-- the hypothesis of these failure modes that believes each monitor
abbrev pub believing : List ℕ → Hypothesis
believing set = record { set = set; doubts = [] }

-- The one hypothesis is a proper part of the other: its set and its doubts are subsets of the other's, and it is not the other.
pub record IsProperPart (part whole : Hypothesis) : Type 0 where
  pub set : IsSubset part.set whole.set
  pub doubts : IsSubset part.doubts whole.doubts
  pub proper : part ≢ whole
