-- Flights over the edges into one node, and what is pending of them. No public contract cites this.
use Rattle.std.specs.Prelude.{◌≡◌, ◌⊎◌, ℕ, suc, ◌+◌, ◌<◌, ◌≤◌, max, List, length, Bool, true, false, if◌then◌else◌, IsTrue, Option, Some, None, unwrap_or, slice_get, slice_index_or}
use Rattle.tfpg_graph.specs.Graph.{is_active_in}
use Rattle.tfpg_log.specs.declared.span.Span.{Span}
use Rattle.tfpg_log.specs.Log.{Logbook, is_active_at}
use Rattle.tfpg_sim.specs.declared.flight.Flight.{Flight}
use Rattle.tfpg_sim.specs.Simulation.{IsFirst}

-- the edge of the flight is active at the instant
abbrev pub HasActiveEdge : Logbook → Flight → ℕ → Type 0
HasActiveEdge log flight instant = IsTrue (is_active_at log flight.edge instant)

-- The flight has landed by an instant: it has had its delay since its start, and its edge was active all the while.
pub record Lands (log : Logbook) (instant : ℕ) (flight : Flight) : Type 0 where
  pub since : flight.start + flight.delay ≤ instant
  pub active_since : (x : ℕ) → instant ≤ x + flight.delay → x ≤ instant → HasActiveEdge log flight x

-- some flight has landed, or each
abbrev pub LandsBy : Bool → Logbook → List Flight → ℕ → Type 0
LandsBy false log flights instant =
    (index : ℕ) × (flight : Flight) × (slice_get flights index ≡ Some flight) × Lands log instant flight
LandsBy true log flights instant =
    (index : ℕ) (flight : Flight) → slice_get flights index ≡ Some flight → Lands log instant flight

-- the time is there, and not after the instant
abbrev pub IsReached : Option ℕ → ℕ → Type 0
IsReached None instant = ⊥
IsReached (Some time) instant = time ≤ instant

-- one of two is reached
abbrev pub ReachedByEither : Option ℕ → Option ℕ → ℕ → Type 0
ReachedByEither one other instant = IsReached one instant ⊎ IsReached other instant

-- some time is reached, or each
abbrev pub ReachedBy : Bool → List (Option ℕ) → ℕ → Type 0
ReachedBy false times instant =
    (index : ℕ) × (index < length times) × IsReached (slice_index_or times index None) instant
ReachedBy true times instant = (index : ℕ) → index < length times → IsReached (slice_index_or times index None) instant

-- the first instant between two at which something holds, where there is one
abbrev pub IsFirstIn : (ℕ → Type 0) → ℕ → ℕ → Option ℕ → Type 0
IsFirstIn Holds lo hi first = IsFirst (λ instant. (lo ≤ instant) × Holds instant) hi first

-- When the flight lands if its edge stays active, by what was pending before the span.
abbrev pub pending_in : Span → Flight → Option ℕ → Option ℕ
pending_in span flight pending =
    if is_active_in flight.edge span.mode then Some (unwrap_or pending (max span.lo flight.start + flight.delay))
    else None

-- The edge was active from the one instant on to before the other, and not before.
pub record HasActiveEdgeFrom (log : Logbook) (flight : Flight) (upto from : ℕ) : Type 0 where
  pub before : from < upto
  pub throughout : (x : ℕ) → from ≤ x → x < upto → HasActiveEdge log flight x
  pub alone : (x : ℕ) → suc x ≡ from → HasActiveEdge log flight x → ⊥

-- What is pending before an instant: nothing where the edge was not active just before it, and else the time at which
-- the flight lands if it stays so.
abbrev pub IsPending : Logbook → ℕ → Flight → Option ℕ → Type 0
IsPending log upto flight None = (x : ℕ) → suc x ≡ upto → HasActiveEdge log flight x → ⊥
IsPending log upto flight (Some arrival) =
    (from : ℕ) × HasActiveEdgeFrom log flight upto from × (arrival ≡ max from flight.start + flight.delay)

-- what is pending of each flight
abbrev pub ArePending : Logbook → ℕ → List Flight → List (Option ℕ) → Type 0
ArePending log upto flights pendings =
    (index : ℕ) (flight : Flight) → slice_get flights index ≡ Some flight
    → IsPending log upto flight (slice_index_or pendings index None)
