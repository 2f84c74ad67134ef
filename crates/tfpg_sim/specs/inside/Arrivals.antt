-- The flight over an edge, and what arrivals depend on. No public contract cites this.
use Rattle.std.specs.Prelude.{◌≡◌, ◌≤◌, ◌^◌, ℕ, All, List, length, Option, option_map, option_and_then, slice_get, slice_index}
use Rattle.tfpg_base.specs.declared.activation.Activation.{Activation}
use Rattle.tfpg_base.specs.Trace.{time_of}
use Rattle.tfpg_graph.specs.Graph.{Tfpg}
use Rattle.tfpg_log.specs.declared.span.Span.{Span}
use Rattle.tfpg_sim.specs.declared.delayed.Delayed.{Delayed}
use Rattle.tfpg_sim.specs.declared.flight.Flight.{Flight}

-- the flight over the edge of this number, where its source is active
abbrev pub flight_over : Tfpg → List ℕ → List Activation → ℕ → Option Flight
flight_over graph delays trace number =
    option_and_then (λ edge. option_map (λ start.
    record { edge = edge; start = start; delay = slice_index delays number }) (time_of trace edge.source))
    (slice_get graph.edges number)

-- a time that no simulation reaches
abbrev pub far : ℕ
far = 2 ^ 42

-- no node becomes active after it
abbrev pub AreNearTimes : List Activation → Type 0
AreNearTimes trace = All (λ activation. activation.time ≤ far) trace

-- no delay is longer
abbrev pub AreNearDelays : List ℕ → Type 0
AreNearDelays delays = All (λ delay. delay ≤ far) delays

-- no span begins after it
abbrev pub AreNearSpans : List Span → Type 0
AreNearSpans spans = All (λ span. span.lo ≤ far) spans

-- no flight starts after it or takes longer
abbrev pub AreNearFlights : List Flight → Type 0
AreNearFlights flights = All (λ flight. (flight.start ≤ far) × (flight.delay ≤ far)) flights

-- Each edge has a delay, no delay is too large, and no span begins too late.
pub record IsDelayed (delayed : Delayed) : Type 0 where
  pub each : length delayed.delays.now ≡ length delayed.graph.now.edges
  pub spans : AreNearSpans delayed.spans.now
  pub delays : AreNearDelays delayed.delays.now
