-- Numbers, one for each node, as a trace: a node whose number is too great is never active.
use Rattle.std.specs.Prelude.{◌≡◌, ℕ, ◌+◌, ◌<◌, ◌≤◌, List, [], ◌∷◌, length, All, nat_le, if◌then◌else◌, Some, None, slice_index}
use Rattle.tfpg_base.specs.declared.activation.Activation.{Activation}
use Rattle.tfpg_base.specs.declared.limits.TheConstants.{NEVER}
use Rattle.tfpg_base.specs.Trace.{time_of}
use Rattle.tfpg_graph.specs.Graph.{Tfpg}

-- the trace of the numbers of the nodes from this one on, cut at an instant
abbrev pub cut_from : ℕ → ℕ → List ℕ → List Activation
cut_from node instant [] = []
cut_from node instant (number ∷ numbers) =
    if nat_le number instant then record { node = node; time = number } ∷ cut_from (node + 1) instant numbers
    else cut_from (node + 1) instant numbers

-- The numbers cut at an instant: the trace that gives a node its number, where that is at most the instant.
abbrev pub cut : ℕ → List ℕ → List Activation
cut instant numbers = cut_from 0 instant numbers

-- One number for each node, each a time or the number for never.
pub record AreNumbers (graph : Tfpg) (numbers : List ℕ) : Type 0 where
  pub one_each : length numbers ≡ length graph.nodes
  pub in_range : All (λ number. number ≤ NEVER) numbers

-- These are numbers of a trace whose times are at most an instant: an active node has its time, and any other node a
-- number that is later than the instant.
pub record AreNumbersOf (graph : Tfpg) (instant : ℕ) (trace : List Activation) (numbers : List ℕ) : Type 0 where
  pub are_numbers : AreNumbers graph numbers
  pub active : (node time : ℕ) → time_of trace node ≡ Some time → slice_index numbers node ≡ time
  pub inactive : (node : ℕ) → node < length graph.nodes → time_of trace node ≡ None → instant < slice_index numbers node
