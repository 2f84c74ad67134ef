-- How many hypotheses there are, and what a table of them keeps.
use Rattle.std.specs.Prelude.{◌≡◌, ℕ, List, length, Some, slice_get}
use Rattle.tfpg_base.specs.declared.terms.Terms.{Terms}
use Rattle.tfpg_base.specs.Hypothesis.{Hypothesis}
use Rattle.tfpg_graph.specs.Graph.{Tfpg}
use Rattle.tfpg_hyp.specs.Table.{IsTable}
use Rattle.tfpg_hyp.specs.Views.{IsReachOf}

-- There are this many hypotheses: all of them in order are a list of this length.
pub record HasHypotheses (graph : Tfpg) (terms : Terms) (count : ℕ) : Type 0 where
  pub hypotheses : List Hypothesis
  pub table : IsTable graph terms hypotheses
  pub counted : length hypotheses ≡ count

-- a table: the hypothesis of each number, and what it reaches
pub record Hypotheses : Type 0 where
  pub hypotheses : List Hypothesis
  pub reaches : List (List ℕ)

-- These are what the hypotheses reach, in their order.
pub record AreReaches (graph : Tfpg) (hypotheses : List Hypothesis) (reaches : List (List ℕ)) : Type 0 where
  pub complete : length reaches ≡ length hypotheses
  pub exact : (number : ℕ) (hypothesis : Hypothesis) (reach : List ℕ)
      → slice_get hypotheses number ≡ Some hypothesis → slice_get reaches number ≡ Some reach
      → IsReachOf graph hypothesis reach

-- the table of all hypotheses, with what each reaches
pub record IsTableOf (graph : Tfpg) (terms : Terms) (table : Hypotheses) : Type 0 where
  pub hypotheses : IsTable graph terms table.hypotheses
  pub reached : AreReaches graph table.hypotheses table.reaches

-- a row of a table: a hypothesis, its number, and what it reaches
pub record Row : Type 0 where
  pub number : ℕ
  pub hypothesis : Hypothesis
  pub reach : List ℕ

-- The row stands in the table.
pub record IsRowOf (table : Hypotheses) (row : Row) : Type 0 where
  pub hypothesis : slice_get table.hypotheses row.number ≡ Some row.hypothesis
  pub reach : slice_get table.reaches row.number ≡ Some row.reach
