-- Times that are excused from what is due over edges, by where the window ends.
use Rattle.std.specs.Prelude.{ℕ, ◌<◌, ◌≤◌, List, Contains, Option, IfSome, MatchOption}
use Rattle.tfpg_graph.specs.Graph.{Tfpg}
use Rattle.tfpg_log.specs.Log.{Logbook}
use Rattle.tfpg_clause.specs.Clauses.{Due}
use Rattle.tfpg_clause.specs.inside.Alternatives.{due_by_number}
use Rattle.tfpg_clause.specs.inside.FirstSpan.{IsExcused}

-- Whatever is due over the edge, in a window that ends here and has room for it, is excused.
abbrev pub IsExcusedOver : Tfpg → List ℕ → ℕ → ℕ → Type 0
IsExcusedOver graph times edge hi =
    (log : Logbook) (number horizon : ℕ) → IfSome (due_by_number graph log number horizon edge) (λ (due : Due). due.by ≤ hi → IsExcused times hi due)

-- It is so over one of these edges.
abbrev pub IsExcusedBySome : Tfpg → List ℕ → List ℕ → ℕ → Type 0
IsExcusedBySome graph times edges hi = (edge : ℕ) × Contains edges edge × IsExcusedOver graph times edge hi

-- The ends of windows are excused before the result, and all of them where there is none.
abbrev pub AreExcusedBefore : (ℕ → Type 0) → Option ℕ → Type 0
AreExcusedBefore IsExcusedAt result =
    MatchOption result ((hi : ℕ) → IsExcusedAt hi) (λ instant. (hi : ℕ) → hi < instant → IsExcusedAt hi)
