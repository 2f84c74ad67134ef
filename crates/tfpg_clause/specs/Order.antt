-- The order of the clauses of one horizon, and the first that times violate.
use Rattle.std.specs.Prelude.{◌≡◌, ◌⊎◌, ℕ, ◌<◌, List, Some}
use Rattle.tfpg_base.specs.declared.constraint.Constraint.{Constraint}
use Rattle.tfpg_graph.specs.Graph.{Tfpg}
use Rattle.tfpg_log.specs.Log.{Logbook, now_of}
use Rattle.tfpg_evidence.specs.declared.clause_name.ClauseName.{ClauseName}
use Rattle.tfpg_evidence.specs.declared.clause_name.ClauseName.TheVariants.{OrMay, AndMay, OrMust, AndMust}
use Rattle.tfpg_clause.specs.Clauses.{alternatives, MeetsClause, Violates}

-- the index of the name's kind in the order of kinds
abbrev pub kind_index_of : ClauseName → ℕ
kind_index_of (OrMay node span horizon) = 0
kind_index_of (AndMay edge span horizon) = 1
kind_index_of (OrMust edge span horizon) = 2
kind_index_of (AndMust node span horizon) = 3

-- the number of the node or the edge that a name has
abbrev pub subject_of : ClauseName → ℕ
subject_of (OrMay node span horizon) = node
subject_of (AndMay edge span horizon) = edge
subject_of (OrMust edge span horizon) = edge
subject_of (AndMust node span horizon) = node

-- the number of its span
abbrev pub span_of : ClauseName → ℕ
span_of (OrMay node span horizon) = span
span_of (AndMay edge span horizon) = span
span_of (OrMust edge span horizon) = span
span_of (AndMust node span horizon) = span

-- its horizon
abbrev pub horizon_of : ClauseName → ℕ
horizon_of (OrMay node span horizon) = horizon
horizon_of (AndMay edge span horizon) = horizon
horizon_of (OrMust edge span horizon) = horizon
horizon_of (AndMust node span horizon) = horizon

-- Of two clauses of one horizon the one comes before the other: by its kind, then by its node or edge, then by its
-- span.
abbrev pub ComesBefore : ClauseName → ClauseName → Type 0
ComesBefore one other =
    (kind_index_of one < kind_index_of other)
    ⊎ ((kind_index_of one ≡ kind_index_of other)
    × ((subject_of one < subject_of other) ⊎ ((subject_of one ≡ subject_of other) × (span_of one < span_of other))))

-- The times meet the clause of the name, where it is allowed.
abbrev pub MeetsNamed : Tfpg → Logbook → List ℕ → ClauseName → Type 0
MeetsNamed graph log times name =
    (clause : List (List Constraint)) → alternatives graph log name ≡ Some clause → MeetsClause times clause

-- Of the clauses with the horizon now it is the first that the times violate.
pub record IsFirstViolated (graph : Tfpg) (log : Logbook) (times : List ℕ) (name : ClauseName) : Type 0 where
  pub at_now : horizon_of name ≡ now_of log
  pub violated : Violates graph log times name
  pub first : (other : ClauseName) → horizon_of other ≡ now_of log → ComesBefore other name →
      MeetsNamed graph log times other

-- The times meet each allowed clause with the horizon now.
abbrev pub MeetAllNow : Tfpg → Logbook → List ℕ → Type 0
MeetAllNow graph log times = (name : ClauseName) → horizon_of name ≡ now_of log → MeetsNamed graph log times name
