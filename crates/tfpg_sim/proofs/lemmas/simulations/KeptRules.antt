-- The simulated trace keeps the propagation rules.
use Rattle.std.proofs.Common.{◌≡◌, ℕ, ◌+◌, ◌%◌, ◌<◌, ◌≤◌, ◌⊎◌, ⊎_elim, eqb, IsTrue, IfSome, List, length, Option, Some, None, slice_get, refl, sym, ◌∙◌, subst, arith}
use Rattle.std.specs.List.{Contains}
use Rattle.std.proofs.lemmas.List.Elements.{All-contains}
use Rattle.tfpg_base.proofs.lemmas.lists.Elements.{All-from_members, All-at}
use Rattle.tfpg_base.proofs.lemmas.lists.Scans.{scan_at}
use Rattle.tfpg_base.proofs.lemmas.lists.Numbered.{item_among}
use Rattle.tfpg_base.specs.declared.activation.Activation.{Activation}
use Rattle.tfpg_base.specs.declared.limits.TheConstants.{MAX_TIME}
use Rattle.tfpg_base.specs.Trace.{time_of}
use Rattle.tfpg_graph.specs.declared.edge.Edge.{Edge}
use Rattle.tfpg_graph.specs.Graph.{Tfpg, kind_at, is_discrepancy, incoming, edges_into}
use Rattle.tfpg_graph.specs.Valid.{IsValid, IsValidEdge}
use Rattle.tfpg_graph.proofs.lemmas.reach.Sources.{number_of_edge}
use Rattle.tfpg_graph.proofs.lemmas.NodeAt.{or_alone, and_alone}
use Rattle.tfpg_log.specs.Log.{Logbook}
use Rattle.tfpg_log.specs.Rules.{IsActive, HasAge, KeepsMay, IsDue, KeepsMust}
use Rattle.tfpg_log.proofs.lemmas.ages.Ages.{has_less}
use Rattle.rand_pcg.specs.Lcg.{Lcg}
use Rattle.tfpg_sim.specs.declared.entry.Entry.{Entry}
use Rattle.tfpg_sim.specs.Script.{time_so_far}
use Rattle.tfpg_sim.specs.Draws.{delays, delay_of, delay_count, generator, drawn, after_draw}
use Rattle.tfpg_sim.specs.Simulation.{Carries, Arrives, IsFirst, IsSimulated, script_log}
use Rattle.tfpg_sim.specs.declared.limits.TheConstants.{DELAY_STREAM}
use Rattle.tfpg_sim.proofs.lemmas.simulations.DrawLists.{drawn_upto}

-- a delay is between the least and the greatest one
delay_upto : (tmin value m : ℕ) (tmax : Option ℕ) → tmax ≡ Some m → tmin ≤ m → tmin + value % delay_count tmin tmax ≤ m
delay_upto tmin value m tmax is order = subst (λ t. tmin + value % delay_count tmin t ≤ m) (sym is) (drawn_upto tmin m value order)

-- The delay of an edge is drawn between its least and its greatest one.
pub delay_at : (graph : Tfpg) (number n : ℕ) (edge : Edge) → IsValid graph → slice_get graph.edges n ≡ Some edge
    → (delay : ℕ) × (slice_get (delays graph number) n ≡ Some delay) × (edge.tmin ≤ delay) × ((m : ℕ) → edge.tmax ≡ Some m → delay ≤ m)
delay_at graph number n edge valid at =
    let found = scan_at (λ (before : Lcg) (e : Edge). after_draw before) (λ before e. delay_of e (drawn before)) (generator number DELAY_STREAM) graph.edges n edge at in
    let own = All-at (IsValidEdge graph) graph.edges n edge valid.so_far.edges at in (
      delay_of edge (drawn found.0),
      found.1,
      omega arith,
      (λ m is. let bounds = subst (λ t. IfSome t (λ tmax. (edge.tmin ≤ tmax) × (tmax ≤ MAX_TIME))) is own.greatest in
          delay_upto edge.tmin (drawn found.0) m edge.tmax is bounds.0),
    )

module _ (graph : Tfpg) (entries : List Entry) (number : ℕ) (trace : List Activation) (valid : IsValid graph)
    (simulated : IsSimulated graph entries (delays graph number) trace) (node instant : ℕ) (within : node < length graph.nodes) (upto : instant ≤ time_so_far entries) where
  abbrev log : Logbook
  log = script_log entries

  -- an edge that carries the failure has had its least delay
  least : (n : ℕ) (edge : Edge) → slice_get graph.edges n ≡ Some edge → Carries graph log (delays graph number) trace instant n → HasAge log trace edge instant edge.tmin
  least n edge at carries =
      let drawn = delay_at graph number n edge valid at in
      let same : carries.edge ≡ edge = (let both : Some carries.edge ≡ Some edge = sym carries.is ∙ at in cc) in
      let own : carries.delay ≡ drawn.0 = (let both : Some carries.delay ≡ Some drawn.0 = sym carries.drawn ∙ drawn.1 in cc) in
      has_less log trace edge instant carries.delay edge.tmin (let low = drawn.2 in omega arith)
      (subst (λ e. HasAge log trace e instant carries.delay) same carries.age)

  -- an edge that has had its greatest delay carries the failure
  greatest : (n : ℕ) (edge : Edge) → slice_get graph.edges n ≡ Some edge → IsDue log trace edge instant → Carries graph log (delays graph number) trace instant n
  greatest n edge at due =
      let drawn = delay_at graph number n edge valid at in
      record {
        edge = edge;
        is = at;
        delay = drawn.0;
        drawn = drawn.1;
        age = has_less log trace edge instant due.0 drawn.0 (drawn.3 due.0 due.1) due.2;
      }

  -- the edge of a number is one into the node
  edge_of : (n : ℕ) → Contains (incoming graph node) n → (edge : Edge) × Contains (edges_into graph node) edge × (slice_get graph.edges n ≡ Some edge)
  edge_of n member = item_among (λ (e : Edge). eqb e.target node) graph.edges n member

  -- the node is active where the failure arrives
  active : IsTrue (is_discrepancy graph node) → Arrives graph log (delays graph number) trace node instant → IsActive trace node instant
  active discrepancy arrives = by (time_of trace node) refl (simulated.discrepancies node within discrepancy)
    where
      by : (o : Option ℕ) → time_of trace node ≡ o → IsFirst (Arrives graph log (delays graph number) trace node) (time_so_far entries) (time_of trace node) → IsActive trace node instant
      by None at first = absurd (subst (IsFirst (Arrives graph log (delays graph number) trace node) (time_so_far entries)) at first instant upto arrives)
      by (Some time) at first =
          let here = subst (IsFirst (Arrives graph log (delays graph number) trace node) (time_so_far entries)) at first in
          (time, at, ⊎_elim (λ early. absurd (here.2 instant early arrives)) (λ late. late) (let cases : (instant < time) ⊎ (time ≤ instant) = grind arith in cases))

  arrived : IsTrue (is_discrepancy graph node) → time_of trace node ≡ Some instant → Arrives graph log (delays graph number) trace node instant
  arrived discrepancy at =
      (subst (IsFirst (Arrives graph log (delays graph number) trace node) (time_so_far entries)) at (simulated.discrepancies node within discrepancy)).1

  pub keeps : KeepsMay graph log trace node instant × KeepsMust graph log trace node instant
  keeps = (
    record {
      or_node = λ is at.
          let some = (arrived (or_alone (kind_at graph node) is).0 at).or_node is in
          let edge = edge_of some.0 some.1 in
          (edge.0, edge.1, least some.0 edge.0 edge.2 some.2);
      and_node = λ is at.
          let all = (arrived (and_alone (kind_at graph node) is).0 at).and_node is in
          All-from_members (λ edge. HasAge log trace edge instant edge.tmin) (edges_into graph node) (λ edge member.
          let n = number_of_edge graph node edge member in
          least n.0 edge n.2 (All-contains (Carries graph log (delays graph number) trace instant) (incoming graph node) n.0 all n.1));
    },
    record {
      or_node = λ is edge member due.
          let n = number_of_edge graph node edge member in
          active (or_alone (kind_at graph node) is).0 (record {
            or_node = λ _. (n.0, n.1, greatest n.0 edge n.2 due);
            and_node = λ other. absurd ((or_alone (kind_at graph node) is).1 other);
          });
      and_node = λ is all.
          active (and_alone (kind_at graph node) is).0 (record {
            or_node = λ other. absurd ((and_alone (kind_at graph node) is).1 other);
            and_node = λ _. All-from_members (Carries graph log (delays graph number) trace instant) (incoming graph node) (λ n member.
                let edge = edge_of n member in
                greatest n edge.0 edge.2 (All-contains (λ e. IsDue log trace e instant) (edges_into graph node) edge.0 all edge.1));
          });
    },
  )
