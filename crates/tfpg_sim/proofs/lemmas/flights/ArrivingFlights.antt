-- The failure arrives at a discrepancy exactly where the flights over its edges have landed.
use Rattle.std.proofs.Common.{◌≡◌, ℕ, ◌⊎◌, ⊎_elim, ◌<◌, ◌≤◌, true, false, List, length, get_or, filter_map, Option, Some, None, option_map, option_and_then, slice_get, slice_index, refl, sym, ap, ◌∙◌, subst, arith}
use Rattle.std.proofs.lemmas.List.{get_or_past}
use Rattle.std.proofs.lemmas.Option.{slice_get-get_or, slice_get_within, get_or_from_slice_get}
use Rattle.std.proofs.lemmas.List.Elements.{All-contains}
use Rattle.tfpg_base.proofs.lemmas.lists.Elements.{All-from_members}
use Rattle.tfpg_base.specs.declared.activation.Activation.{Activation}
use Rattle.tfpg_base.specs.Trace.{time_of}
use Rattle.tfpg_base.proofs.lemmas.lists.Choices.{option_and_then-some, option_map-some}
use Rattle.tfpg_base.proofs.lemmas.lists.Passing.{slice_get-filter_map, slice_get-filter_map_only, each_from_length-filter_map, not_each_from_length-filter_map}
use Rattle.tfpg_graph.specs.declared.edge.Edge.{Edge}
use Rattle.tfpg_graph.specs.declared.kind.Kind.TheVariants.{Or, And}
use Rattle.tfpg_graph.specs.declared.kind.Lag.{Lag}
use Rattle.tfpg_graph.specs.Graph.{Tfpg, kind_at, is_or, is_and, incoming}
use Rattle.tfpg_graph.proofs.lemmas.NodeAt.{not_so, kind_test}
use Rattle.tfpg_log.specs.Log.{Logbook}
use Rattle.tfpg_sim.specs.declared.flight.Flight.{Flight}
use Rattle.tfpg_sim.specs.inside.Flights.{Lands, LandsBy}
use Rattle.tfpg_sim.specs.inside.Arrivals.{flight_over, AreNearTimes, AreNearDelays, AreNearFlights, far}
use Rattle.tfpg_sim.specs.Simulation.{Carries, Arrives, IsFirst}
use Rattle.tfpg_base.proofs.lemmas.TraceTimes.{time_holds}

-- the first instant at which the one holds is that of the other
pub IsFirst-same : (Holds Other : ℕ → Type 0) (limit : ℕ) (first : Option ℕ) → ((x : ℕ) → Holds x → Other x) → ((x : ℕ) → Other x → Holds x)
    → IsFirst Holds limit first → IsFirst Other limit first
IsFirst-same Holds Other limit None to from is = λ x upto other. is x upto (from x other)
IsFirst-same Holds Other limit (Some first) to from is = (is.0, to first is.1, λ x less other. is.2 x less (from x other))

-- the flights have small numbers
pub flights_small : (graph : Tfpg) (delays : List ℕ) (trace : List Activation) (numbers : List ℕ)
    → AreNearDelays delays → AreNearTimes trace
    → AreNearFlights (filter_map (flight_over graph delays trace) numbers)
flights_small graph delays trace numbers small times = λ k d within.
    let at = slice_get-get_or (filter_map (flight_over graph delays trace) numbers) k d within in
    let item = slice_get-filter_map_only (flight_over graph delays trace) numbers k _ at in
    let edge = option_and_then-some (λ (e : Edge). option_map (λ start. record { edge = e; start = start; delay = slice_index delays item.0 }) (time_of trace e.source)) (slice_get graph.edges item.0) _ item.2 in
    let start = option_map-some (λ start. record { edge = edge.0; start = start; delay = slice_index delays item.0 }) (time_of trace edge.0.source) _ edge.2 in
    subst (λ (flight : Flight). (flight.start ≤ far) × (flight.delay ≤ far)) start.2
    (time_holds (λ activation. activation.time ≤ far) trace edge.0.source start.0 times start.1, delay_small item.0)
  where
    delay_small : (number : ℕ) → slice_index delays number ≤ far
    delay_small number = ⊎_elim (λ within. small number 0 within) (λ past. let none : get_or delays number 0 ≡ 0 = get_or_past delays number 0 past in omega arith)
        (let cases : (number < length delays) ⊎ (length delays ≤ number) = grind arith in cases)

module _ (graph : Tfpg) (log : Logbook) (delays : List ℕ) (trace : List Activation) (each : length delays ≡ length graph.edges) where
  -- an edge that carries the failure has a flight that has landed
  pub carried : (x number : ℕ) → Carries graph log delays trace x number
      → (flight : Flight) × (flight_over graph delays trace number ≡ Some flight) × Lands log x flight
  carried x number carries =
      let delay = get_or_from_slice_get delays number carries.delay 0 carries.drawn in (
        record { edge = carries.edge; start = carries.age.start; delay = slice_index delays number },
        ap (λ o. option_and_then (λ (edge : Edge). option_map (λ start. record { edge = edge; start = start; delay = slice_index delays number }) (time_of trace edge.source)) o) carries.is
            ∙ ap (λ o. option_map (λ start. record { edge = carries.edge; start = start; delay = slice_index delays number }) o) carries.age.source,
        record {
          since = let since = carries.age.since in omega arith;
          active_since = λ y after upto. carries.age.active_since y (omega arith) upto;
        },
      )

  -- and the other way round
  pub landed : (x number : ℕ) (flight : Flight) → flight_over graph delays trace number ≡ Some flight → Lands log x flight → Carries graph log delays trace x number
  landed x number flight is lands =
      let edge = option_and_then-some (λ (e : Edge). option_map (λ start. record { edge = e; start = start; delay = slice_index delays number }) (time_of trace e.source)) (slice_get graph.edges number) flight is in
      let start = option_map-some (λ start. record { edge = edge.0; start = start; delay = slice_index delays number }) (time_of trace edge.0.source) flight edge.2 in
      let within : number < length delays = let inside = slice_get_within graph.edges number edge.0 edge.1 in omega arith in
      let same : record { edge = edge.0; start = start.0; delay = slice_index delays number } ≡ flight = start.2 in
      let here = subst (Lands log x) (sym same) lands in
      record {
        edge = edge.0;
        is = edge.1;
        delay = slice_index delays number;
        drawn = slice_get-get_or delays number 0 within;
        age = record { start = start.0; source = start.1; since = here.since; active_since = here.active_since };
      }

  module _ (node : ℕ) where
    -- the flights over the edges into the node
    abbrev pub flights : List Flight
    flights = filter_map (flight_over graph delays trace) (incoming graph node)

    pub or_arrival : (lag : Option Lag) (limit : ℕ) (first : Option ℕ) → kind_at graph node ≡ Some (Or lag)
        → IsFirst (LandsBy false log flights) limit first → IsFirst (Arrives graph log delays trace node) limit first
    or_arrival lag limit first kind = IsFirst-same (LandsBy false log flights) (Arrives graph log delays trace node) limit first
        (λ x some. record {
          or_node = λ _. let item = slice_get-filter_map_only (flight_over graph delays trace) (incoming graph node) some.0 some.1 some.2 in
              (item.0, item.1, landed x item.0 some.1 item.2 some.3);
          and_node = λ other. absurd (not_so graph node is_and (Or lag) kind refl other);
        })
        (λ x arrives. let some = arrives.or_node (kind_test graph node is_or (Or lag) kind) in
        let flight = carried x some.0 some.2 in
        let index = slice_get-filter_map (flight_over graph delays trace) (incoming graph node) some.0 flight.0 some.1 flight.1 in
        (index.0, flight.0, index.1, flight.2))

    pub and_arrival : (lag : Option Lag) (limit : ℕ) (first : Option ℕ) → kind_at graph node ≡ Some (And lag)
        → length (incoming graph node) ≤ length flights
        → IsFirst (LandsBy true log flights) limit first → IsFirst (Arrives graph log delays trace node) limit first
    and_arrival lag limit first kind many = IsFirst-same (LandsBy true log flights) (Arrives graph log delays trace node) limit first
        (λ x all. record {
          or_node = λ other. absurd (not_so graph node is_or (And lag) kind refl other);
          and_node = λ _. All-from_members (Carries graph log delays trace x) (incoming graph node) (λ number member.
              let valued = each_from_length-filter_map (flight_over graph delays trace) (incoming graph node) many number member in
              let index = slice_get-filter_map (flight_over graph delays trace) (incoming graph node) number valued.0 member valued.1 in
              landed x number valued.0 valued.1 (all index.0 valued.0 index.1));
        })
        (λ x arrives index flight at. let item = slice_get-filter_map_only (flight_over graph delays trace) (incoming graph node) index flight at in
        let own = carried x item.0 (All-contains (Carries graph log delays trace x) (incoming graph node) item.0 (arrives.and_node (kind_test graph node is_and (And lag) kind)) item.1) in
        subst (Lands log x) (let same : own.0 ≡ flight = (let somes : Some own.0 ≡ Some flight = sym own.1 ∙ item.2 in cc) in same) own.2)

    -- an AND node one of whose sources is not active
    pub no_arrival : (lag : Option Lag) (limit : ℕ) → kind_at graph node ≡ Some (And lag) → length flights < length (incoming graph node)
        → IsFirst (Arrives graph log delays trace node) limit None
    no_arrival lag limit kind few = λ x upto arrives.
        not_each_from_length-filter_map (flight_over graph delays trace) (incoming graph node) few (λ number member.
        let own = carried x number (All-contains (Carries graph log delays trace x) (incoming graph node) number (arrives.and_node (kind_test graph node is_and (And lag) kind)) member) in
        (own.0, own.1))
