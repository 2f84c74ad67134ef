-- The last event that says that a node is not active.
use Rattle.std.specs.Prelude.{◌≡◌, ℕ, ◌<◌, Option, Some, None}
use Rattle.tfpg_graph.specs.Graph.{Tfpg}
use Rattle.tfpg_log.specs.Log.{Logbook, quiet_at}

-- The event of this number says that the node is not active up to an instant, and no later event says so.
pub record IsLastSilence (graph : Tfpg) (log : Logbook) (node number : ℕ) : Type 0 where
  pub time : ℕ
  pub silent : quiet_at graph log number node ≡ Some time
  pub last : (later : ℕ) → number < later → quiet_at graph log later node ≡ None

-- the number of the last event that says that the node is not active; there is none where no event says so
abbrev pub IsLastQuiet : Tfpg → Logbook → ℕ → Option ℕ → Type 0
IsLastQuiet graph log node None = (number : ℕ) → quiet_at graph log number node ≡ None
IsLastQuiet graph log node (Some number) = IsLastSilence graph log node number
