-- The first span in which times violate a clause of one kind and one node or edge, and the first such clause of a kind.
use Rattle.std.specs.Prelude.{◌≡◌, ℕ, ◌<◌, ◌≤◌, ◌⊎◌, List, ◌++◌, length, All, Option, Some, MatchOption, option_map, option_and_then}
use Rattle.tfpg_base.specs.declared.constraint.Constraint.{Constraint}
use Rattle.tfpg_graph.specs.Graph.{Tfpg}
use Rattle.tfpg_log.specs.Log.{Logbook, now_of}
use Rattle.tfpg_log.specs.declared.span.Span.{Span}
use Rattle.tfpg_log.specs.declared.span.Window.{Window}
use Rattle.tfpg_log.specs.Spans.{span_at}
use Rattle.tfpg_evidence.specs.declared.clause_name.ClauseName.{ClauseName}
use Rattle.tfpg_evidence.specs.declared.clause_name.ClauseName.TheVariants.{OrMay, AndMay, OrMust, AndMust}
use Rattle.tfpg_clause.specs.declared.clause_kind.ClauseKind.{ClauseKind}
use Rattle.tfpg_clause.specs.declared.clause_kind.ClauseKind.TheVariants as kind
use Rattle.tfpg_base.specs.Constraint.{Meets}
use Rattle.tfpg_clause.specs.Clauses.{Due}
use Rattle.tfpg_clause.specs.Clauses.{alternatives, outside_span, must_in, starts_late, follows_in_time, MeetsClause}
use Rattle.tfpg_clause.specs.inside.Alternatives.{arrivals_over}

-- the name of the clause of a kind, of a node or an edge, and of a span up to a horizon
abbrev pub named : ClauseKind → ℕ → ℕ → ℕ → ClauseName
named kind.OrMay subject span horizon = OrMay subject span horizon
named kind.AndMay subject span horizon = AndMay subject span horizon
named kind.OrMust subject span horizon = OrMust subject span horizon
named kind.AndMust subject span horizon = AndMust subject span horizon

-- how many nodes or edges may have a clause of the kind
abbrev pub subject_count : Tfpg → ClauseKind → ℕ
subject_count graph kind.OrMay = length graph.nodes
subject_count graph kind.AndMay = length graph.edges
subject_count graph kind.OrMust = length graph.edges
subject_count graph kind.AndMust = length graph.nodes

-- The times meet the clause, where there is one.
abbrev pub MeetsIfAny : List ℕ → Option (List (List Constraint)) → Type 0
MeetsIfAny times clause = (all : List (List Constraint)) → clause ≡ Some all → MeetsClause times all

-- There is a clause, and the times do not meet it.
pub record IsViolated (times : List ℕ) (clause : Option (List (List Constraint))) : Type 0 where
  pub all : List (List Constraint)
  pub there : clause ≡ Some all
  pub not_met : MeetsClause times all → ⊥

-- Of the clauses by span, that in this one is the first that the times violate.
pub record IsFirstSpan (times : List ℕ) (clauses : ℕ → Option (List (List Constraint))) (span : ℕ) : Type 0 where
  pub violated : IsViolated times (clauses span)
  pub before : (other : ℕ) → other < span → MeetsIfAny times (clauses other)

-- The times meet the clause in each span.
abbrev pub MeetsEach : List ℕ → (ℕ → Option (List (List Constraint))) → Type 0
MeetsEach times clauses = (span : ℕ) → MeetsIfAny times (clauses span)

-- The result is the first span whose clause they violate, and none where they meet each.
abbrev pub FindsFirst : List ℕ → (ℕ → Option (List (List Constraint))) → Option ℕ → Type 0
FindsFirst times clauses result = MatchOption result (MeetsEach times clauses) (IsFirstSpan times clauses)

-- The result is none where they violate the clause in a span, and else a span up to which they meet the clauses from
-- that one on.
abbrev pub MeetsUpTo : List ℕ → (ℕ → Option (List (List Constraint))) → ℕ → Option ℕ → Type 0
MeetsUpTo times clauses span result =
    MatchOption result (IsViolated times (clauses span))
    (λ last. (span ≤ last) × ((other : ℕ) → span ≤ other → other ≤ last → MeetsIfAny times (clauses other)))

-- The result is a span before which the times meet the clauses, and none where they meet each.
abbrev pub MeetsBefore : List ℕ → (ℕ → Option (List (List Constraint))) → Option ℕ → Type 0
MeetsBefore times clauses result =
    MatchOption result (MeetsEach times clauses) (λ number. (other : ℕ) → other < number → MeetsIfAny times (clauses other))

-- the clauses of a kind and of a node or an edge by their spans, with the horizon now
abbrev pub clauses_of : Tfpg → Logbook → ClauseKind → ℕ → ℕ → Option (List (List Constraint))
clauses_of graph log kind subject span = alternatives graph log (named kind subject span (now_of log))

-- The name is the first clause of the kind with the horizon now that they violate.
pub record IsFirstOfKind (graph : Tfpg) (log : Logbook) (times : List ℕ) (kind : ClauseKind)
    (name : ClauseName) : Type 0 where
  pub subject : ℕ
  pub span : ℕ
  pub is : name ≡ named kind subject span (now_of log)
  pub first : IsFirstSpan times (clauses_of graph log kind subject) span
  pub before : (other : ℕ) → other < subject → MeetsEach times (clauses_of graph log kind other)

-- They meet each clause of the kind with the horizon now.
abbrev pub MeetsKind : Tfpg → Logbook → List ℕ → ClauseKind → Type 0
MeetsKind graph log times kind = (subject : ℕ) → MeetsEach times (clauses_of graph log kind subject)

-- the may clause of a node by the numbers of edges
abbrev pub may_over : Tfpg → Logbook → ℕ → List ℕ → ℕ → ℕ → Option (List (List Constraint))
may_over graph log node edges horizon number =
    option_map (λ (span : Span). outside_span node span ++ arrivals_over graph log number horizon span edges)
    (span_at log number horizon)

-- the must clause of a node in a window, by what is due
abbrev pub must_over : ℕ → ℕ → Window → Option (List Due) → Option (List (List Constraint))
must_over node number window dues = option_and_then (λ all. must_in node number window all) dues

-- The source starts too late, or the target follows in time.
abbrev pub IsExcused : List ℕ → ℕ → Due → Type 0
IsExcused times hi due = All (Meets times) (starts_late hi due) ⊎ All (Meets times) (follows_in_time due)
