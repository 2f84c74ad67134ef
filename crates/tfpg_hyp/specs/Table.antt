-- The table of hypotheses: failure modes and doubted monitors, so many together or fewer.
use Rattle.std.specs.Prelude.{◌≡◌, ℕ, ◌+◌, ◌<◌, ◌≤◌, ◌⊎◌, ◌↔◌, List, [], ◌∷◌, ◌++◌, length, map, count_by, is_some, nat_lt, IsTrue, All, AllPairs, Contains}
use Rattle.tfpg_base.specs.declared.terms.Terms.{Terms}
use Rattle.tfpg_base.specs.Choice.{numbers_from}
use Rattle.tfpg_base.specs.Hypothesis.{Hypothesis}
use Rattle.tfpg_base.specs.Set.{Rises}
use Rattle.tfpg_graph.specs.Graph.{Tfpg, IsSetOf, failures, is_monitored, lag_of}

-- the monitored nodes of a graph, in order
abbrev pub monitors : Tfpg → List ℕ
monitors graph = numbers_from 0 (λ node. is_some (lag_of node.kind)) graph.nodes

-- a set of monitors of the graph, as the rising list of their nodes
pub record IsMonitorSetOf (graph : Tfpg) (nodes : List ℕ) : Type 0 where
  pub rising : Rises nodes
  pub monitored : All (λ node. IsTrue (is_monitored graph node)) nodes

-- a hypothesis on these terms: at most `k` members, which are failure modes and monitors of the graph, and at most `doubt`
-- of them monitors
pub record IsHypothesis (graph : Tfpg) (terms : Terms) (hypothesis : Hypothesis) : Type 0 where
  pub of_graph : IsSetOf graph hypothesis.set
  pub doubts_of_graph : IsMonitorSetOf graph hypothesis.doubts
  pub size : length hypothesis.set + length hypothesis.doubts ≤ terms.k
  pub few_doubts : length hypothesis.doubts ≤ terms.doubt

-- The number of a monitored node as a member. Failure modes have their positions as numbers, and monitored nodes the numbers
-- that follow, in order.
abbrev pub monitor_number : Tfpg → ℕ → ℕ
monitor_number graph node = length (failures graph) + count_by (λ other. nat_lt other node) (monitors graph)

-- the members of a hypothesis, by their rising numbers
abbrev pub member_numbers : Tfpg → Hypothesis → List ℕ
member_numbers graph hypothesis = hypothesis.set ++ map (monitor_number graph) hypothesis.doubts

-- the one list comes before the other at the first place where they differ
abbrev pub ComesFirst : List ℕ → List ℕ → Type 0
ComesFirst [] [] = ⊥
ComesFirst [] (b ∷ bs) = Unit {0}
ComesFirst (a ∷ as_) [] = ⊥
ComesFirst (a ∷ as_) (b ∷ bs) = (a < b) ⊎ ((a ≡ b) × ComesFirst as_ bs)

-- Shorter lists of members come first, and those of one length by their numbers.
abbrev pub IsListedBefore : List ℕ → List ℕ → Type 0
IsListedBefore a b = (length a < length b) ⊎ ((length a ≡ length b) × ComesFirst a b)

-- The one hypothesis stands before the other.
abbrev pub StandsBefore : Tfpg → Hypothesis → Hypothesis → Type 0
StandsBefore graph a b = IsListedBefore (member_numbers graph a) (member_numbers graph b)

-- These are all hypotheses, in order. The number of one is its index.
pub record IsTable (graph : Tfpg) (terms : Terms) (hypotheses : List Hypothesis) : Type 0 where
  pub exact : (hypothesis : Hypothesis) → Contains hypotheses hypothesis ↔ IsHypothesis graph terms hypothesis
  pub in_order : AllPairs (StandsBefore graph) hypotheses
