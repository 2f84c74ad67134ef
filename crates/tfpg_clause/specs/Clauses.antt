-- Clauses: every trace that explains the log meets an alternative of each.
use Rattle.std.specs.Prelude.{◌≡◌, ℕ, length, ◌+◌, ◌*◌, ◌-◌, ◌≤◌, max, pos, ◌-ℤ◌, List, [], ◌∷◌, ◌++◌, map, filter_map, fold, Bool, ◌&&◌, nat_le, ◌==◌, if◌then◌else◌, All, Contains, Option, Some, None, option_map, option_and_then, slice_get}
use Rattle.std.specs.Bool.{then_some}
use Rattle.std.specs.List.{list_all}
use Rattle.tfpg_base.specs.Choice.{each_of, item_at}
use Rattle.tfpg_base.specs.declared.constraint.Constraint.{Constraint}
use Rattle.tfpg_graph.specs.declared.edge.Edge.{Edge}
use Rattle.tfpg_graph.specs.Graph.{Tfpg, is_kind_at, is_or, is_and, edges_into}
use Rattle.tfpg_log.specs.Log.{Logbook}
use Rattle.tfpg_log.specs.declared.span.Span.{Span}
use Rattle.tfpg_log.specs.declared.span.Window.{Window}
use Rattle.tfpg_log.specs.Spans.{span_at, window_of, joint_of}
use Rattle.tfpg_evidence.specs.declared.clause_name.ClauseName.{ClauseName}
use Rattle.tfpg_evidence.specs.declared.clause_name.ClauseName.TheVariants.{OrMay, AndMay, OrMust, AndMust}
use Rattle.tfpg_clause.specs.declared.limits.TheConstants.{MAX_CONSTRAINTS}
use Rattle.tfpg_base.specs.Bounds.{at_most, at_least, at_most_after, at_least_after}
use Rattle.tfpg_base.specs.Constraint.{Meets}

-- The node becomes active before the span; or after it.
abbrev pub outside_span : ℕ → Span → List (List Constraint)
outside_span node span = (at_most node (pos span.lo -ℤ pos 1) ∷ []) ∷ (at_least node (span.hi + 1) ∷ []) ∷ []

-- The failure arrives by the edge within the span, where it can: it has been on its way since some instant of the
-- edge's window, for the least delay or longer.
abbrev pub arrival : Logbook → ℕ → ℕ → Span → Edge → Option (List Constraint)
arrival log number horizon span edge =
    option_and_then (λ window. then_some (nat_le (window.lo + edge.tmin) span.hi)
    (at_least_after edge.target edge.source edge.tmin
    ∷ at_least edge.target (max span.lo (window.lo + edge.tmin))
    ∷ at_most edge.target (pos span.hi) ∷ []))
    (window_of log edge number horizon)

-- A failure on its way over an edge with a finite greatest delay: the nodes that the edge leaves and enters, the delay, and
-- by when the failure arrives if it has been on its way since the beginning of the edge's window.
pub record Due : Type 0 where
  pub source : ℕ
  pub target : ℕ
  pub tmax : ℕ
  pub by : ℕ

-- what is due over an edge, where its greatest delay is finite and it is active in the span
abbrev pub due_over : Logbook → ℕ → ℕ → Edge → Option Due
due_over log number horizon edge =
    option_and_then
    (λ tmax.
    option_map (λ window. record { source = edge.source; target = edge.target; tmax = tmax; by = window.lo + tmax })
    (window_of log edge number horizon))
    edge.tmax

-- what is due over all these edges, where something is over each
abbrev pub dues_of : Logbook → ℕ → ℕ → List Edge → Option (List Due)
dues_of log number horizon edges = each_of (map (due_over log number horizon) edges)

-- The source becomes active too late for the failure to be due within a window that ends here.
abbrev pub starts_late : ℕ → Due → List Constraint
starts_late hi due = at_least due.source (hi - due.tmax + 1) ∷ []

-- The target becomes active at most the greatest delay after the source.
abbrev pub follows_in_time : Due → List Constraint
follows_in_time due = at_most_after due.target due.source due.tmax ∷ []

-- the latest of the times
abbrev pub latest_of : List Due → ℕ
latest_of dues = fold (λ time due. max time due.by) 0 dues

-- The alternatives of a must, in a window that ends at hi: some source starts late; or the target follows some source
-- in time; or it is active by the time by which the failure arrives if it has been on its way since the window's
-- beginning.
abbrev pub must_alternatives : ℕ → ℕ → List Due → List (List Constraint)
must_alternatives target hi dues =
    map (starts_late hi) dues ++ map follows_in_time dues ++ (at_most target (pos (latest_of dues)) ∷ []) ∷ []

-- The clause that a node becomes active in a span only where the failure arrives by one of these edges, where the test
-- holds.
abbrev pub may_by : Logbook → Bool → ℕ → List Edge → ℕ → ℕ → Option (List (List Constraint))
may_by log holds target edges number horizon =
    option_and_then
    (λ span. then_some holds (outside_span target span ++ filter_map (arrival log number horizon span) edges))
    (span_at log number horizon)

-- The clause that a node is active once the failure is due by all these edges, in a window that begins with the span
-- and has room for each greatest delay.
abbrev pub must_in : ℕ → ℕ → Window → List Due → Option (List (List Constraint))
must_in target number window dues =
    then_some ((window.first == number) && list_all (λ due. nat_le due.by window.hi) dues)
    (must_alternatives target window.hi dues)

-- The same, where the test holds, there is the window, and something is due over each edge.
abbrev pub must_by : Bool → ℕ → ℕ → Option Window → Option (List Due) → Option (List (List Constraint))
must_by holds target number window dues =
    if holds then option_and_then (λ all. option_and_then (λ w. must_in target number w all) window) dues else None

-- The alternatives of a clause in order, each a list of constraints, where the name is allowed at the log. An OR node
-- becomes active in a span only where the failure arrives by some edge, and an AND node only where it arrives by each. An
-- OR node is active once the failure is due by an edge, and an AND node once it is due by all.
abbrev pub alternatives : Tfpg → Logbook → ClauseName → Option (List (List Constraint))
alternatives graph log (OrMay node number horizon) =
    may_by log (is_kind_at is_or graph node) node (edges_into graph node) number horizon
alternatives graph log (AndMay edge number horizon) =
    option_and_then (λ e. may_by log (is_kind_at is_and graph e.target) e.target (e ∷ []) number horizon)
    (slice_get graph.edges edge)
alternatives graph log (OrMust edge number horizon) =
    option_and_then
    (λ e.
    must_by (is_kind_at is_or graph e.target) e.target number (window_of log e number horizon)
    (dues_of log number horizon (e ∷ [])))
    (slice_get graph.edges edge)
alternatives graph log (AndMust node number horizon) =
    must_by (is_kind_at is_and graph node) node number (joint_of graph log node number horizon)
    (dues_of log number horizon (edges_into graph node))

-- how many alternatives a clause has, where the name is allowed at the log
abbrev pub count_of : Tfpg → Logbook → ClauseName → Option ℕ
count_of graph log name = option_map length (alternatives graph log name)

-- the number below which the alternatives of each allowed clause stay, where at most so many edges enter any node
abbrev pub alternatives_limit : ℕ → ℕ
alternatives_limit maximum = 2 * maximum + 3

-- the constraint with this number in the alternative with the first number, both numbered from 1
abbrev pub constraint_at : List (List Constraint) → ℕ → ℕ → Option Constraint
constraint_at clause alternative number =
    option_and_then (λ constraints. item_at constraints number) (item_at clause alternative)

-- The times meet a clause: they meet each constraint of some alternative.
abbrev pub MeetsClause : List ℕ → List (List Constraint) → Type 0
MeetsClause times clause = (alternative : List Constraint) × Contains clause alternative × All (Meets times) alternative

-- The constraint is between the numbers of so many nodes and 0.
pub record IsOver (nodes : ℕ) (constraint : Constraint) : Type 0 where
  pub left : constraint.left ≤ nodes
  pub right : constraint.right ≤ nodes

-- The alternative has at most three constraints, each on so many nodes.
pub record IsSmall (nodes : ℕ) (alternative : List Constraint) : Type 0 where
  pub few : length alternative ≤ MAX_CONSTRAINTS
  pub over : All (IsOver nodes) alternative

-- The name is allowed at the log, and the times violate its clause: they do not meet it.
pub record Violates (graph : Tfpg) (log : Logbook) (times : List ℕ) (name : ClauseName) : Type 0 where
  pub clause : List (List Constraint)
  pub allowed : alternatives graph log name ≡ Some clause
  pub not_met : MeetsClause times clause → ⊥
