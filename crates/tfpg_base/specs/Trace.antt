-- Traces: which node became active when, as a list of activations by rising nodes.
use Rattle.std.specs.Prelude.{◌≡◌, ◌≢◌, ℕ, ◌<◌, List, [], ◌∷◌, AllPairs, Option, Some, None, nat_lt, ◌==◌, if◌then◌else◌}
use Rattle.tfpg_base.specs.declared.activation.Activation.{Activation}

-- No node stands twice, and they stand in order.
abbrev pub IsRisingByNode : List Activation → Type 0
IsRisingByNode trace = AllPairs (λ earlier later. earlier.node < later.node) trace

-- the time that a trace gives a node
abbrev pub time_of : List Activation → ℕ → Option ℕ
time_of [] node = None
time_of (first ∷ others) node = if first.node == node then Some first.time else time_of others node

-- the trace with this time for this node
abbrev pub with_time : ℕ → ℕ → List Activation → List Activation
with_time node time [] = record { node = node; time = time } ∷ []
with_time node time (first ∷ others) =
    if nat_lt node first.node then record { node = node; time = time } ∷ first ∷ others
    else (if node == first.node then record { node = node; time = time } ∷ others else first ∷ with_time node time others)

-- Node by node: this one has that time, and each other has the time that it had.
pub record TimesAfter (old new : List Activation) (node time : ℕ) : Type 0 where
  pub here : time_of new node ≡ Some time
  pub elsewhere : (other : ℕ) → node ≢ other → time_of new other ≡ time_of old other
