-- A simulation is the only one of its graph, script and number.
--
-- Two traces give a node the same time, by the time, and at one time by the rank of the node: where the failure arrives in
-- the one, it came from nodes that are active earlier, or at the same time with a lesser rank. These have the same times in
-- the other, so it arrives there too.
use Rattle.std.proofs.Common.{◌≡◌, ◌==◌, ℕ, ◌<◌, ◌≤◌, ◌⊎◌, ⊎_elim, inl, inr, Bool, true, false, not, List, length, Option, Some, None, refl, sym, ap, ◌∙◌, subst, arith}
use Rattle.std.specs.Prelude.{IsTrue, Contains}
use Rattle.std.specs.List.{flat_map}
use Rattle.std.proofs.lemmas.Bool.{cases_lt, cases_order}
use Rattle.std.proofs.lemmas.List.Elements.{All-contains}
use Rattle.std.proofs.lemmas.Option.{same_Some}
use Rattle.tfpg_base.specs.declared.activation.Activation.{Activation}
use Rattle.tfpg_base.specs.Lines.{lines_of}
use Rattle.tfpg_base.specs.Trace.{time_of}
use Rattle.tfpg_base.proofs.lemmas.SameTraces.{same_trace}
use Rattle.tfpg_base.proofs.lemmas.TraceTimes.{time_holds}
use Rattle.tfpg_base.proofs.lemmas.lists.Elements.{All-from_members}
use Rattle.tfpg_base.proofs.lemmas.lists.Numbered.{item_among}
use Rattle.tfpg_base.proofs.lemmas.lists.Sequences.{by_number_and_rank}
use Rattle.tfpg_graph.specs.declared.edge.Edge.{Edge}
use Rattle.tfpg_graph.specs.Graph.{Tfpg, is_kind_at, is_failure, is_discrepancy, incoming, edges_into}
use Rattle.tfpg_graph.specs.Valid.{IsValid}
use Rattle.tfpg_graph.specs.ZeroCycle.{HasZeroOrder}
use Rattle.tfpg_graph.proofs.lemmas.zero_cycle.ZeroRanks.{HasZeroOrder-valid}
use Rattle.tfpg_log.specs.EventLines.{event_line}
use Rattle.tfpg_log.specs.Log.{Logbook}
use Rattle.tfpg_log.proofs.lemmas.causes.WalkBack.{rises_into}
use Rattle.tfpg_sim.specs.declared.entry.Entry.{Entry}
use Rattle.tfpg_sim.specs.declared.simulated.Simulated.{Simulated}
use Rattle.tfpg_sim.specs.Draws.{delays, latenesses}
use Rattle.tfpg_sim.specs.Script.{time_so_far}
use Rattle.tfpg_sim.specs.Simulated.{IsSimulationOf}
use Rattle.tfpg_sim.specs.SimulatedLog.{set_of, log_events}
use Rattle.tfpg_sim.specs.Simulation.{Carries, Arrives, IsFirst, IsSimulated, script_log}
use Rattle.tfpg_sim.proofs.lemmas.simulations.KeptRules.{delay_at}
use Rattle.tfpg_sim.proofs.lemmas.scripts.SpelledScripts.{one_script}

module _ (graph : Tfpg) (number : ℕ) (valid : IsValid graph) (order : HasZeroOrder graph) (entries : List Entry) where
  -- the log of the script
  abbrev log : Logbook
  log = script_log entries

  -- it is a trace of the script by the delays of the number
  abbrev IsOne : List Activation → Type 0
  IsOne trace = IsSimulated graph entries (delays graph number) trace

  -- from the instant the node could have it from such a source: active earlier, or then with a lesser rank
  abbrev ComesBefore : ℕ → ℕ → ℕ → ℕ → Type 0
  ComesBefore node instant source start = (start < instant) ⊎ ((start ≡ instant) × (order.rank source < order.rank node))

  -- the failure arrives at the instant
  abbrev ArrivesAt : List Activation → ℕ → ℕ → Type 0
  ArrivesAt trace node instant = Arrives graph log (delays graph number) trace node instant

  module _ (one other : List Activation) (node instant : ℕ)
      (there : (source start : ℕ) → ComesBefore node instant source start → time_of one source ≡ Some start → time_of other source ≡ Some start) where
    -- an edge into the node carries the failure in the other trace too
    carries : (n : ℕ) → Contains (incoming graph node) n → Carries graph log (delays graph number) one instant n
        → Carries graph log (delays graph number) other instant n
    carries n into carried =
        let member = item_among (λ (e : Edge). e.target == node) graph.edges n into in
        let drawn = delay_at graph number n member.0 valid member.2 in
        let same : carried.edge ≡ member.0 = same_Some carried.edge member.0 (sym carried.is ∙ member.2) in
        let delay : carried.delay ≡ drawn.0 = same_Some carried.delay drawn.0 (sym carried.drawn ∙ drawn.1) in
        let edge_into : Contains (edges_into graph node) carried.edge = subst (Contains (edges_into graph node)) (sym same) member.1 in
        let least : carried.edge.tmin ≤ carried.delay = omega (arith, ap (λ (e : Edge). e.tmin) same, delay, drawn.2) in
        let since = carried.age.since in
        let before : ComesBefore node instant carried.edge.source carried.age.start =
        ⊎_elim (λ earlier. inl earlier)
        (λ late. inr (omega (arith, since, late), rises_into graph order node carried.edge edge_into (omega (arith, least, since, late))))
        (cases_lt carried.age.start instant) in
        record {
          edge = carried.edge;
          is = carried.is;
          delay = carried.delay;
          drawn = carried.drawn;
          age = record {
            start = carried.age.start;
            source = there carried.edge.source carried.age.start before carried.age.source;
            since = carried.age.since;
            active_since = carried.age.active_since;
          };
        }

    -- the failure arrives there too
    arrives : ArrivesAt one node instant → ArrivesAt other node instant
    arrives own = record {
      or_node = λ is. let some = own.or_node is in (some.0, some.1, carries some.0 some.1 some.2);
      and_node = λ is.
          All-from_members (Carries graph log (delays graph number) other instant) (incoming graph node)
          (λ n member. carries n member
          (All-contains (Carries graph log (delays graph number) one instant) (incoming graph node) n (own.and_node is) member));
    }

    -- the node has the same time there
    moved : IsOne one → IsOne other
        → ((earlier : ℕ) → earlier < instant → time_of other node ≡ Some earlier → time_of one node ≡ Some earlier)
        → time_of one node ≡ Some instant → time_of other node ≡ Some instant
    moved is too back at = by (is_kind_at is_failure graph node) refl
      where
        arrived : (found : Option ℕ) → time_of other node ≡ found
            → IsFirst (ArrivesAt other node) (time_so_far entries) found
            → IsFirst (ArrivesAt one node) (time_so_far entries) (Some instant) → time_of other node ≡ Some instant
        arrived None none first own = absurd (first instant own.0 (arrives own.1))
        arrived (Some time) some first own = elim (cases_order time instant) [
          | inl same ↦ some ∙ ap Some same
          | inr (inl earlier) ↦ (let two : time ≡ instant = same_Some time instant (sym (back time earlier some) ∙ at) in absurd (omega (arith, two, earlier)))
          | inr (inr later) ↦ absurd (first.2 instant later (arrives own.1))
        ]

        by : (failure : Bool) → is_kind_at is_failure graph node ≡ failure → time_of other node ≡ Some instant
        by true failure = too.failure_modes node failure ∙ sym (is.failure_modes node failure) ∙ at
        by false failure =
            let discrepancy : IsTrue (is_discrepancy graph node) = ap not failure in
            let within : node < length graph.nodes =
            time_holds (λ activation. activation.node < length graph.nodes) one node instant is.trace_of.1 at in
            arrived (time_of other node) refl (too.discrepancies node within discrepancy)
            (subst (IsFirst (ArrivesAt one node) (time_so_far entries)) at (is.discrepancies node within discrepancy))

  module _ (one other : List Activation) (is : IsOne one) (too : IsOne other) where
    -- the one trace gives the node this time exactly where the other does
    abbrev IsSameAt : ℕ → ℕ → Type 0
    IsSameAt node instant =
        (time_of one node ≡ Some instant → time_of other node ≡ Some instant)
        × (time_of other node ≡ Some instant → time_of one node ≡ Some instant)

    same_at : (node instant : ℕ) → IsSameAt node instant
    same_at =
        by_number_and_rank order.rank IsSameAt (λ node instant before lesser. (
          moved one other node instant
              (λ source start when at. ⊎_elim (λ earlier. (before source start earlier).0 at)
              (λ same. subst (λ t. time_of one source ≡ Some t → time_of other source ≡ Some t) (sym same.0) (lesser source same.1).0 at) when)
              is too (λ earlier lt at. (before node earlier lt).1 at),
          moved other one node instant
              (λ source start when at. ⊎_elim (λ earlier. (before source start earlier).1 at)
              (λ same. subst (λ t. time_of other source ≡ Some t → time_of one source ≡ Some t) (sym same.0) (lesser source same.1).1 at) when)
              too is (λ earlier lt at. (before node earlier lt).0 at),
        ))

    -- they give each node the same time
    same_times : (node : ℕ) → time_of one node ≡ time_of other node
    same_times node = by (time_of one node) refl (time_of other node) refl
      where
        by : (found : Option ℕ) → time_of one node ≡ found → (more : Option ℕ) → time_of other node ≡ more
            → time_of one node ≡ time_of other node
        by (Some time) some more at = some ∙ sym ((same_at node time).0 some)
        by None none None absent = none ∙ sym absent
        by None none (Some time) some = let two : None ≡ Some time = sym none ∙ (same_at node time).1 some in absurd cc

    -- There is one trace.
    one_trace : one ≡ other
    one_trace = same_trace one other is.trace_of.0 too.trace_of.0 same_times

-- A simulation is the only one.
pub one_simulation : (graph : Tfpg) (script : List ℕ) (number : ℕ) (one other : Simulated) → IsValid graph
    → IsSimulationOf graph script number one → IsSimulationOf graph script number other → one ≡ other
one_simulation graph script number one other valid is too =
    let entries : is.entries ≡ too.entries = one_script graph valid (lines_of script) is.entries too.entries is.right too.right in
    let trace : one.trace ≡ other.trace =
    one_trace graph number valid (HasZeroOrder-valid graph valid) is.entries one.trace other.trace is.trace
    (subst (λ (lines : List Entry). IsSimulated graph lines (delays graph number) other.trace) (sym entries) too.trace) in
    let set : one.set ≡ other.set = is.set ∙ ap (set_of graph) entries ∙ sym too.set in
    let text : one.log ≡ other.log =
    is.log
    ∙ (λ i. flat_map (event_line graph) (log_events (entries i) (trace i) (latenesses graph number) (time_so_far (entries i))))
    ∙ sym too.log in
    λ i. record { set = set i; trace = trace i; log = text i }
