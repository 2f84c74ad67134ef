-- The parts of clauses by the numbers of edges, as the code goes through them.
use Rattle.std.specs.Prelude.{ℕ, List, [], ◌∷◌, map, filter_map, nat_le, Option, option_and_then, slice_get, Bool}
use Rattle.std.specs.Bool.{then_some}
use Rattle.std.specs.List.{list_all}
use Rattle.tfpg_base.specs.Choice.{each_of}
use Rattle.tfpg_base.specs.declared.constraint.Constraint.{Constraint}
use Rattle.tfpg_graph.specs.declared.edge.Edge.{Edge}
use Rattle.tfpg_graph.specs.declared.kind.Kind.{Kind}
use Rattle.tfpg_graph.specs.Graph.{Tfpg, is_kind_at}
use Rattle.tfpg_log.specs.Log.{Logbook}
use Rattle.tfpg_log.specs.declared.span.Span.{Span}
use Rattle.tfpg_clause.specs.Clauses.{Due, arrival, due_over, latest_of}
use Rattle.tfpg_clause.specs.declared.due.EdgeDue.{EdgeDue}
use Rattle.tfpg_clause.specs.declared.alternative.Alternative.{Alternative}
use Rattle.tfpg_clause.specs.declared.alternative.Alternative.TheVariants.{One, Arrival}

-- the constraints of an alternative
abbrev pub constraints_in : Alternative → List Constraint
constraints_in (One constraint) = constraint ∷ []
constraints_in (Arrival constraints) = constraints

-- the alternative of an edge, by its number
abbrev pub arrival_over : Tfpg → Logbook → ℕ → ℕ → Span → ℕ → Option (List Constraint)
arrival_over graph log number horizon span edge =
    option_and_then (arrival log number horizon span) (slice_get graph.edges edge)

-- the alternatives of these edges
abbrev pub arrivals_over : Tfpg → Logbook → ℕ → ℕ → Span → List ℕ → List (List Constraint)
arrivals_over graph log number horizon span edges = filter_map (arrival_over graph log number horizon span) edges

-- what the code finds due over an edge, as the definitions have it
abbrev pub due_seen : EdgeDue → Due
due_seen due = record { source = due.source; target = due.target; tmax = due.tmax; by = due.by }

-- what is due over an edge, by its number
abbrev pub due_by_number : Tfpg → Logbook → ℕ → ℕ → ℕ → Option Due
due_by_number graph log number horizon edge = option_and_then (due_over log number horizon) (slice_get graph.edges edge)

-- what is due over these edges, where something is over each
abbrev pub dues_over : Tfpg → Logbook → ℕ → ℕ → List ℕ → Option (List Due)
dues_over graph log number horizon edges = each_of (map (due_by_number graph log number horizon) edges)

-- the latest time at which something is due, where a window that ends here has room for all
abbrev pub latest_within : ℕ → Option (List Due) → Option ℕ
latest_within hi dues =
    option_and_then (λ ds. then_some (list_all (λ (due : Due). nat_le due.by hi) ds) (latest_of ds)) dues

-- the target of an edge, where there is the edge and the target is of this kind
abbrev pub target_of_kind : (Kind → Bool) → Tfpg → Option Edge → Option ℕ
target_of_kind test graph edge = option_and_then (λ e. then_some (is_kind_at test graph e.target) e.target) edge
