-- What the laws on latest solutions say, each by its name.
use Rattle.std.specs.Prelude.{◌≡◌, ◌↔◌, ℕ, List}
use Rattle.tfpg_log.specs.Log.{IsLogOf, now_of}
use Rattle.tfpg_evidence.specs.declared.clause_name.ClauseName.{ClauseName}
use Rattle.tfpg_clause.specs.Case.{Case}
use Rattle.tfpg_clause.specs.Clauses.{Violates}
use Rattle.tfpg_clause.specs.Order.{horizon_of}
use Rattle.tfpg_clause.specs.Trees.{Judged, Chosen, TreePlace, IsPresentLeaf}
use Rattle.tfpg_search.specs.Live.{IsUnsettled}
use Rattle.tfpg_search.specs.Solutions.{SolvesAt, IsLatestAt}

-- Where some times solve what holds at the leaf of a path, some of them are the latest.
abbrev pub SolvedLeavesHaveALatestSolution : Type 0
SolvedLeavesHaveALatestSolution =
    (case : Case) (path : List Chosen) (times : List ℕ) → IsLogOf case.graph case.log → SolvesAt case path times
    → (latest : List ℕ) × IsLatestAt case path latest

-- No two are the latest.
abbrev pub LatestSolutionsAreAlone : Type 0
LatestSolutionsAreAlone =
    (case : Case) (path : List Chosen) (one other : List ℕ) → IsLatestAt case path one → IsLatestAt case path other
    → one ≡ other

-- The latest solution at the present leaf of these steps violates some allowed clause with the horizon now.
pub record LatestSolutionViolates (case : Case) (steps : List Judged) : Type 0 where
  pub place : TreePlace
  pub leaf : IsPresentLeaf case steps place
  pub times : List ℕ
  pub latest : IsLatestAt case place.path times
  pub name : ClauseName
  pub at_now : horizon_of name ≡ now_of case.log
  pub violated : Violates case.graph case.log times name

-- A tree is unsettled exactly there.
abbrev pub TreesAreUnsettledWhereTheLatestSolutionViolates : Type 0
TreesAreUnsettledWhereTheLatestSolutionViolates =
    (case : Case) (steps : List Judged) → IsUnsettled case steps ↔ LatestSolutionViolates case steps
