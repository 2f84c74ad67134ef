-- A simulation goes on by the earliest candidate.
use Rattle.std.proofs.Common.{◌≡◌, ◌≢◌, ℕ, ◌&&◌, MatchOption, ◌<◌, ◌≤◌, ◌⊎◌, ⊎_elim, Bool, true, false, eqb, IsTrue, List, length, All, Option, Some, None, slice_get, refl, sym, ap, ◌∙◌, subst, arith}
use Rattle.std.specs.List.{Contains}
use Rattle.std.proofs.lemmas.Bool.{eq-eqb, cases_eq}
use Rattle.std.proofs.lemmas.List.{get_or_past}
use Rattle.std.proofs.lemmas.List.Elements.{All-contains}
use Rattle.std.proofs.lemmas.Option.{none-some}
use Rattle.tfpg_base.proofs.lemmas.lists.Elements.{All-from_members, Contains-at}
use Rattle.tfpg_base.proofs.lemmas.lists.Passing.{Contains-filter_only}
use Rattle.tfpg_base.specs.declared.activation.Activation.{Activation}
use Rattle.tfpg_base.specs.Trace.{time_of, with_time}
use Rattle.tfpg_base.proofs.lemmas.Traces.{time_of-with_time, time_of-with_time_other}
use Rattle.tfpg_graph.specs.declared.edge.Edge.{Edge}
use Rattle.tfpg_graph.specs.Graph.{Tfpg, is_kind_at, is_failure, incoming, edge_from_to}
use Rattle.tfpg_base.proofs.lemmas.lists.Positions.{All-none}
use Rattle.tfpg_base.proofs.lemmas.lists.Numbered.{item_among}
use Rattle.tfpg_log.specs.Log.{Logbook}
use Rattle.tfpg_sim.specs.Simulation.{Carries, Arrives, IsFirst}
use Rattle.tfpg_sim.proofs.lemmas.flights.ArrivingFlights.{IsFirst-same}
use Rattle.tfpg_sim.specs.inside.Settling.{candidate_at, simulation_case, IsCandidate, AreCandidates, IsEarliest, IsEarliestBelow, IsUnderWay}

-- no edge goes from the one node to the other
no_edge : (graph : Tfpg) (settled node : ℕ) → edge_from_to graph settled node ≡ None
    → (number : ℕ) (edge : Edge) → Contains (incoming graph node) number → slice_get graph.edges number ≡ Some edge → settled ≢ edge.source
no_edge graph settled node none number edge member at same =
    let item = item_among (λ (e : Edge). eqb e.target node) graph.edges number member in
    let own : item.0 ≡ edge = (let both : Some item.0 ≡ Some edge = sym item.2 ∙ at in cc) in
    let passes : eqb edge.target node ≡ true = ap (λ (e : Edge). eqb e.target node) (sym own) ∙ (Contains-filter_only (λ (e : Edge). eqb e.target node) graph.edges item.0 item.1).2 in
    let fails = All-contains (λ (e : Edge). eqb e.source settled && eqb e.target node ≡ false) graph.edges edge
    (All-none (λ (e : Edge). eqb e.source settled && eqb e.target node) graph.edges none) (Contains-at graph.edges number edge at) in
    let holds : eqb edge.source settled && eqb edge.target node ≡ true =
    (ap (λ b. b && eqb edge.target node) (eq-eqb edge.source settled (sym same)) ∙ passes) in
    let both : true ≡ false = sym holds ∙ fails in cc

module _ (graph : Tfpg) (log : Logbook) (delays : List ℕ) where
  -- what carries by one trace carries by another
  Arrives-to : (trace other : List Activation) (node x : ℕ)
      → ((number : ℕ) → Contains (incoming graph node) number → Carries graph log delays trace x number → Carries graph log delays other x number)
      → Arrives graph log delays trace node x → Arrives graph log delays other node x
  Arrives-to trace other node x to arrives = record {
    or_node = λ is. let some = arrives.or_node is in (some.0, some.1, to some.0 some.1 some.2);
    and_node = λ is. All-from_members (Carries graph log delays other x) (incoming graph node) (λ number member.
        to number member (All-contains (Carries graph log delays trace x) (incoming graph node) number (arrives.and_node is) member));
  }

  Carries-to : (trace other : List Activation) (x number : ℕ) (carries : Carries graph log delays trace x number)
      → time_of other carries.edge.source ≡ Some carries.age.start → Carries graph log delays other x number
  Carries-to trace other x number carries source = record {
    edge = carries.edge;
    is = carries.is;
    delay = carries.delay;
    drawn = carries.drawn;
    age = record { start = carries.age.start; source = source; since = carries.age.since; active_since = carries.age.active_since };
  }

  module _ (trace : List Activation) (settled time : ℕ) (absent : time_of trace settled ≡ None) where
    -- the trace with the node
    abbrev after : List Activation
    after = with_time settled time trace

    -- what is active stays so
    pub keeps : (node start : ℕ) → time_of trace node ≡ Some start → time_of after node ≡ Some start
    keeps node start is = ⊎_elim (λ same. absurd (none-some start (sym absent ∙ ap (time_of trace) same ∙ is)))
        (λ unlike. time_of-with_time_other trace settled time node unlike ∙ is) (cases_eq settled node)

    -- the failure still arrives where it did
    pub grows : (node x : ℕ) → Arrives graph log delays trace node x → Arrives graph log delays after node x
    grows node x = Arrives-to trace after node x (λ number member carries.
        Carries-to trace after x number carries (keeps carries.edge.source carries.age.start carries.age.source))

    -- before the node is active, the failure arrives nowhere else
    pub shrinks : (node x : ℕ) → x < time → Arrives graph log delays after node x → Arrives graph log delays trace node x
    shrinks node x early = Arrives-to after trace node x (λ number member carries.
        Carries-to after trace x number carries (⊎_elim
        (λ same. let start : Some time ≡ Some carries.age.start = sym (time_of-with_time trace settled time) ∙ ap (time_of after) same ∙ carries.age.source in
        let equal : time ≡ carries.age.start = cc in let since = carries.age.since in absurd (omega arith))
        (λ unlike. sym (time_of-with_time_other trace settled time carries.edge.source unlike) ∙ carries.age.source)
        (cases_eq settled carries.edge.source)))

    -- nor where no edge comes from the node
    pub shrinks_apart : (node x : ℕ) → ((number : ℕ) (edge : Edge) → Contains (incoming graph node) number → slice_get graph.edges number ≡ Some edge → settled ≢ edge.source)
        → Arrives graph log delays after node x → Arrives graph log delays trace node x
    shrinks_apart node x apart = Arrives-to after trace node x (λ number member carries.
        Carries-to after trace x number carries
        (sym (time_of-with_time_other trace settled time carries.edge.source (apart number carries.edge member carries.is)) ∙ carries.age.source))

    -- a first arrival up to then stays so
    pub stays_first : (limit node first : ℕ) → first ≤ time → IsFirst (Arrives graph log delays trace node) limit (Some first)
        → IsFirst (Arrives graph log delays after node) limit (Some first)
    stays_first limit node first upto is = (is.0, grows node first is.1, λ x less arrives. is.2 x less (shrinks node x (omega arith) arrives))

-- a candidate is that of a node
pub candidate_in : (candidates : List (Option ℕ)) (node time : ℕ) → candidate_at candidates node ≡ Some time → node < length candidates
candidate_in candidates node time is = ⊎_elim (λ within. within)
    (λ past. absurd (none-some time (sym (get_or_past candidates node None past) ∙ is)))
    (let cases : (node < length candidates) ⊎ (length candidates ≤ node) = grind arith in cases)

-- what has a candidate is a discrepancy that is not active yet, and its time is its first arrival
of_candidate : (graph : Tfpg) (log : Logbook) (delays : List ℕ) (limit : ℕ) (trace : List Activation) (node : ℕ) (candidate : Option ℕ) (time : ℕ)
    → IsCandidate (simulation_case graph log delays limit) trace node candidate → candidate ≡ Some time
    → (is_kind_at is_failure graph node ≡ false) × (time_of trace node ≡ None) × IsFirst (Arrives graph log delays trace node) limit (Some time)
of_candidate graph log delays limit trace node candidate time own is =
    let unlike = not_failure (is_kind_at is_failure graph node) refl in
    let none = absent (time_of trace node) refl in
    (unlike, none, subst (IsFirst (Arrives graph log delays trace node) limit) is (own.waiting unlike none))
  where
    not_failure : (is_failure_mode : Bool) → is_kind_at is_failure graph node ≡ is_failure_mode → is_kind_at is_failure graph node ≡ false
    not_failure false at = at
    not_failure true at = absurd (none-some time (sym (own.failure_mode at) ∙ is))

    absent : (o : Option ℕ) → time_of trace node ≡ o → time_of trace node ≡ None
    absent None at = at
    absent (Some start) at = absurd (none-some time (sym (own.active start at) ∙ is))

module _ (graph : Tfpg) (log : Logbook) (delays : List ℕ) (limit : ℕ) (starts : ℕ → Option ℕ) (trace : List Activation) (candidates : List (Option ℕ))
    (under_way : IsUnderWay (simulation_case graph log delays limit) starts trace candidates) (node time : ℕ) (earliest : IsEarliest candidates node time) where
  inside : node < length graph.nodes
  inside = let within = earliest.within in let count = under_way.known.count in omega arith

  own : IsCandidate (simulation_case graph log delays limit) trace node (candidate_at candidates node)
  own = under_way.known.each node inside

  facts : (is_kind_at is_failure graph node ≡ false) × (time_of trace node ≡ None) × IsFirst (Arrives graph log delays trace node) limit (Some time)
  facts = of_candidate graph log delays limit trace node (candidate_at candidates node) time own earliest.here

  -- the node is a discrepancy
  pub is_discrepancy : is_kind_at is_failure graph node ≡ false
  is_discrepancy = facts.0

  -- the node is not active yet
  pub is_absent : time_of trace node ≡ None
  is_absent = facts.1

  -- its time is its first arrival
  pub its_first : IsFirst (Arrives graph log delays trace node) limit (Some time)
  its_first = facts.2

  -- the simulation goes on
  pub settle : (later : List (Option ℕ)) → AreCandidates (simulation_case graph log delays limit) (with_time node time trace) later
      → All (λ activation. activation.node < length graph.nodes) (with_time node time trace)
      → All (λ activation. activation.time ≤ limit) (with_time node time trace)
      → IsUnderWay (simulation_case graph log delays limit) starts (with_time node time trace) later
  settle later are within times = record {
    within = within;
    times = times;
    failure_modes = λ other is. time_of-with_time_other trace node time other (λ same. differ other is same) ∙ under_way.failure_modes other is;
    settled = λ other start is at. ⊎_elim
        (λ same. subst (λ n. IsFirst (Arrives graph log delays after n) limit (Some start)) same
        (subst (λ t. IsFirst (Arrives graph log delays after node) limit (Some t)) (own_time other start same at) (stays_first graph log delays trace node time is_absent limit node time (omega arith) its_first)))
        (λ unlike. let old = sym (time_of-with_time_other trace node time other unlike) ∙ at in
        stays_first graph log delays trace node time is_absent limit other start (under_way.ordered other start node time is old earliest.here) (under_way.settled other start is old))
        (cases_eq node other);
    known = are;
    ordered = λ other start next due is at candidate. let upto = not_earlier next due candidate in
        ⊎_elim (λ same. let own = own_time other start same at in omega arith)
        (λ unlike. let old = under_way.ordered other start node time is (sym (time_of-with_time_other trace node time other unlike) ∙ at) earliest.here in omega arith)
        (cases_eq node other);
  }
    where
      after : List Activation
      after = with_time node time trace

      differ : (other : ℕ) → IsTrue (is_kind_at is_failure graph other) → node ≡ other → ⊥
      differ other is same = let both : false ≡ true = sym is_discrepancy ∙ ap (is_kind_at is_failure graph) same ∙ is in cc

      own_time : (other start : ℕ) → node ≡ other → time_of (with_time node time trace) other ≡ Some start → time ≡ start
      own_time other start same at = let both : Some time ≡ Some start = sym (time_of-with_time trace node time) ∙ ap (time_of (with_time node time trace)) same ∙ at in cc

      absent_before : (next : ℕ) → time_of (with_time node time trace) next ≡ None → time_of trace next ≡ None
      absent_before next none = by (time_of trace next) refl
        where
          by : (o : Option ℕ) → time_of trace next ≡ o → time_of trace next ≡ None
          by None is = is
          by (Some start) is = absurd (none-some start (sym none ∙ keeps graph log delays trace node time is_absent next start is))

      no_earlier : (next due : ℕ) → candidate_at later next ≡ Some due → due < time → ⊥
      no_earlier next due candidate early =
          let next_in = candidate_in later next due candidate in
          let facts = of_candidate graph log delays limit (with_time node time trace) next (candidate_at later next) due
          (are.each next (let count = are.count in omega arith)) candidate in
          let arrives = shrinks graph log delays trace node time is_absent next due early facts.2.1 in
          let waiting : time_of trace next ≡ None = absent_before next facts.1 in
          not_before (candidate_at candidates next) refl
          ((under_way.known.each next (let count = are.count in omega arith)).waiting facts.0 waiting) facts.2.0 arrives
        where
          not_before : (old : Option ℕ) → candidate_at candidates next ≡ old → IsFirst (Arrives graph log delays trace next) limit old
              → due ≤ limit → Arrives graph log delays trace next due → ⊥
          not_before None is none upto arrives = none due upto arrives
          not_before (Some first) is at upto arrives =
              let least : time ≤ first = earliest.least next first is in at.2 due (omega arith) arrives

      -- no later candidate is earlier than the node
      not_earlier : (next due : ℕ) → candidate_at later next ≡ Some due → time ≤ due
      not_earlier next due candidate = ⊎_elim (λ early. absurd (no_earlier next due candidate early)) (λ upto. upto)
          (let cases : (due < time) ⊎ (time ≤ due) = grind arith in cases)

-- what is known of a node to which no edge comes from the one that is active now
pub keeps_candidate : (graph : Tfpg) (log : Logbook) (delays : List ℕ) (limit : ℕ) (trace : List Activation) (settled time : ℕ) → time_of trace settled ≡ None
    → (node : ℕ) (candidate : Option ℕ) → settled ≢ node → edge_from_to graph settled node ≡ None
    → IsCandidate (simulation_case graph log delays limit) trace node candidate → IsCandidate (simulation_case graph log delays limit) (with_time settled time trace) node candidate
keeps_candidate graph log delays limit trace settled time absent node candidate unlike none own =
    let other = time_of-with_time_other trace settled time node unlike in
    record {
      failure_mode = own.failure_mode;
      active = λ start at. own.active start (sym other ∙ at);
      waiting = λ discrepancy waits. IsFirst-same (Arrives graph log delays trace node) (Arrives graph log delays (with_time settled time trace) node) limit candidate
          (grows graph log delays trace settled time absent node)
          (λ x. shrinks_apart graph log delays trace settled time absent node x (no_edge graph settled node none))
          (own.waiting discrepancy (sym other ∙ waits));
    }

-- the least of all candidates
pub earliest_all : (candidates : List (Option ℕ)) (count : ℕ) (best : Option (ℕ × ℕ)) → length candidates ≤ count → IsEarliestBelow candidates count best
    → MatchOption best ((node : ℕ) → candidate_at candidates node ≡ None) (λ found. IsEarliest candidates found.0 found.1)
earliest_all candidates count None all below = λ node. ⊎_elim (λ less. below node less)
    (λ past. get_or_past candidates node None (omega arith)) (let cases : (node < count) ⊎ (count ≤ node) = grind arith in cases)
earliest_all candidates count (Some found) all below = record {
  within = candidate_in candidates found.0 found.1 below.1;
  here = below.1;
  least = λ other later is. below.2 other later (let within = candidate_in candidates other later is in omega arith) is;
}
