-- What a simulation draws: the delay of each edge, and how late each alarm comes.
use Rattle.std.specs.Prelude.{ℕ, ◌+◌, ◌-◌, ◌*◌, ◌%◌, ◌^◌, List, fold, Option, Some, None, option_map}
use Rattle.std.specs.List.{scan}
use Rattle.rand_pcg.specs.Lcg.{Lcg, started, increment_of}
use Rattle.rand_pcg.specs.Pcg.{multiplier_64, pcg32}
use Rattle.tfpg_graph.specs.declared.edge.Edge.{Edge}
use Rattle.tfpg_graph.specs.declared.kind.Lag.{Lag}
use Rattle.tfpg_graph.specs.Graph.{Tfpg, Node, lag_of}
use Rattle.tfpg_sim.specs.declared.draws.Lateness.{Lateness}
use Rattle.tfpg_sim.specs.declared.limits.TheConstants.{DELAY_STREAM, OPEN_DELAYS}

-- the generator of a number and a stream: that of `Lcg64Xsh32`
abbrev pub generator : ℕ → ℕ → Lcg
generator number stream = started 64 multiplier_64 number (increment_of 64 stream)

-- what a draw gives: two words, the high half first
unfoldable pub drawn : Lcg → ℕ
drawn state = (pcg32 state).0 * 2 ^ 32 + (pcg32 (pcg32 state).1).0

-- the generator after a draw
unfoldable pub after_draw : Lcg → Lcg
after_draw state = (pcg32 (pcg32 state).1).1

-- how many delays an edge may draw from its least one on
abbrev pub delay_count : ℕ → Option ℕ → ℕ
delay_count tmin None = OPEN_DELAYS
delay_count tmin (Some tmax) = tmax - tmin + 1

-- the delay of an edge by what is drawn for it
abbrev pub delay_of : Edge → ℕ → ℕ
delay_of edge value = edge.tmin + value % delay_count edge.tmin edge.tmax

-- a monitored node takes a draw
abbrev pub after_lag : Lcg → Option Lag → Lcg
after_lag state None = state
after_lag state (Some lag) = after_draw state

-- the lateness of an alarm by its lag and what is drawn for it: from the least lag up to the greatest
abbrev pub lateness_of : Lag → ℕ → Lateness
lateness_of lag value = record { least = lag.least; drawn = lag.least + value % (lag.most - lag.least + 1) }

-- the lateness that a node draws, where it is monitored
abbrev pub lateness_drawn : Lcg → Option Lag → Option Lateness
lateness_drawn state lag = option_map (λ own. lateness_of own (drawn state)) lag

-- the latenesses of these nodes, from this generator on
abbrev pub latenesses_from : Lcg → List Node → List (Option Lateness)
latenesses_from state nodes =
    scan (λ before node. after_lag before (lag_of node.kind)) (λ before node. lateness_drawn before (lag_of node.kind))
    state nodes

-- the delay of each edge, by one draw after the other
abbrev pub delays : Tfpg → ℕ → List ℕ
delays graph number =
    scan (λ before edge. after_draw before) (λ before edge. delay_of edge (drawn before)) (generator number DELAY_STREAM) graph.edges

-- the lateness of each node that is monitored, drawn after the delays
abbrev pub latenesses : Tfpg → ℕ → List (Option Lateness)
latenesses graph number =
    latenesses_from (fold (λ before edge. after_draw before) (generator number DELAY_STREAM) graph.edges) graph.nodes
