-- The rules of a probe hold exactly where it becomes active at the same instant as its node.
use Rattle.std.proofs.Common.{◌≡◌, ℕ, ◌-◌, ◌^◌, ◌<◌, ◌≤◌, nat_lt, Bool, true, false, cond, List, [], ◌∷◌, length, All, Contains, IsTrue, Some, refl, sym, ap, ◌∙◌, subst, arith}
use Rattle.std.specs.Int.{bit_at}
use Rattle.std.proofs.lemmas.Bool.{false≢true, eq-eqb}
use Rattle.std.proofs.lemmas.List.Elements.{All-head, All-tail}
use Rattle.std.proofs.lemmas.Nat.Bits.{bit_at_ones}
use Rattle.std.proofs.lemmas.Option.{same_Some}
use Rattle.tfpg_base.specs.declared.activation.Activation.{Activation}
use Rattle.tfpg_base.specs.Trace.{time_of}
use Rattle.tfpg_base.proofs.lemmas.lists.Elements.{Contains-head, Contains-one}
use Rattle.tfpg_graph.specs.declared.kind.Lag.{Lag}
use Rattle.tfpg_graph.specs.declared.edge.Edge.{Edge}
use Rattle.tfpg_graph.specs.Graph.{Tfpg, is_or, is_and, edges_into}
use Rattle.tfpg_graph.specs.Probe.{probe_edge}
use Rattle.tfpg_graph.specs.Valid.{IsValid}
use Rattle.tfpg_log.specs.declared.event.Event.{Event}
use Rattle.tfpg_log.specs.declared.event.Event.TheVariants.{Alarm, Silent, Sweep, Tick, Mode}
use Rattle.tfpg_log.specs.Log.{Logbook, IsEventOf, now_of, mode_after, mode_at, is_active_at}
use Rattle.tfpg_log.specs.Rules.{HasAge, KeepsRulesOf}
use Rattle.tfpg_predict.proofs.lemmas.explained.ProbeParts.{probed, probe, test_probe, edges_probe}

-- Each mode that holds is one of the graph's.
pub modes_within : (graph : Tfpg) (held : ℕ) (events : List Event) (instant : ℕ) → held < length graph.modes → All (IsEventOf graph) events
    → mode_after held events instant < length graph.modes
modes_within graph held [] instant within own = within
modes_within graph held (Alarm time node ∷ events) instant within own = modes_within graph held events instant within (All-tail (IsEventOf graph) (Alarm time node) events own)
modes_within graph held (Silent time node ∷ events) instant within own = modes_within graph held events instant within (All-tail (IsEventOf graph) (Silent time node) events own)
modes_within graph held (Sweep time ∷ events) instant within own = modes_within graph held events instant within (All-tail (IsEventOf graph) (Sweep time) events own)
modes_within graph held (Tick time ∷ events) instant within own = modes_within graph held events instant within (All-tail (IsEventOf graph) (Tick time) events own)
modes_within graph held (Mode time mode ∷ events) instant within own =
    modes_within graph (cond (nat_lt time instant) mode held) events instant (by (nat_lt time instant)) (All-tail (IsEventOf graph) (Mode time mode) events own)
  where
    by : (b : Bool) → cond b mode held < length graph.modes
    by true = All-head (IsEventOf graph) (Mode time mode) events own
    by false = within

module _ (graph : Tfpg) (name : List ℕ) (source : ℕ) (lag : Lag) (valid : IsValid graph) (log : Logbook) (modes : (instant : ℕ) → mode_at log instant < length graph.modes)
    (trace : List Activation) where
  abbrev edge : Edge
  edge = probe_edge graph source

  -- the edge to the probe is always active
  always : (instant : ℕ) → IsTrue (is_active_at log edge instant)
  always instant = eq-eqb (bit_at (2 ^ length graph.modes - 1) (mode_at log instant)) 1 (bit_at_ones (length graph.modes) (mode_at log instant) (modes instant))

  age_zero : (start instant : ℕ) → time_of trace source ≡ Some start → start ≤ instant → HasAge log trace edge instant 0
  age_zero start instant at upto = record {
    start = start;
    source = at;
    since = omega (arith, upto);
    active_since = λ x from within. always x;
  }

  edge_in : Contains (edges_into (probed graph name source lag) (probe graph name source lag)) edge
  edge_in = subst (λ (es : List Edge). Contains es edge) (sym (edges_probe graph name source lag valid.so_far.edges)) (Contains-head edge [])

  only_edge : (e : Edge) → Contains (edges_into (probed graph name source lag) (probe graph name source lag)) e → edge ≡ e
  only_edge e among = Contains-one edge e (subst (λ (es : List Edge). Contains es e) (edges_probe graph name source lag valid.so_far.edges) among)

  -- Where its rules hold, the node has the time of the probe.
  pub same_time : (time : ℕ) → KeepsRulesOf (probed graph name source lag) log trace (probe graph name source lag)
      → time_of trace (probe graph name source lag) ≡ Some time → time ≤ now_of log → time_of trace source ≡ Some time
  same_time time rules at by_now =
      let arrives = (rules.may time by_now).or_node (test_probe graph name source lag is_or) at in
      let age : HasAge log trace edge time 0 =
      subst (λ (e : Edge). HasAge log trace e time e.tmin) (sym (only_edge arrives.0 arrives.1)) arrives.2 in
      let early : age.start ≤ time = let since = age.since in omega (arith, since) in
      let active = (rules.must age.start (omega (arith, early, by_now))).or_node (test_probe graph name source lag is_or) edge edge_in
      (0, refl, age_zero age.start age.start age.source (omega arith)) in
      let same : active.0 ≡ time = same_Some active.0 time (sym active.1 ∙ at) in
      age.source ∙ ap Some (let upto = active.2 in omega (arith, early, upto, same))

  -- And where both have one time, its rules hold.
  pub same_rules : (time : ℕ) → time_of trace source ≡ Some time → time_of trace (probe graph name source lag) ≡ Some time
      → KeepsRulesOf (probed graph name source lag) log trace (probe graph name source lag)
  same_rules time source_at probe_at = record {
    may = λ instant upto. record {
      or_node = λ is at.
          let same : time ≡ instant = same_Some time instant (sym probe_at ∙ at) in
          (edge, edge_in, age_zero time instant source_at (omega (arith, same)));
      and_node = λ is at. absurd (false≢true (sym (test_probe graph name source lag is_and) ∙ is));
    };
    must = λ instant upto. record {
      or_node = λ is e among due.
          let age : HasAge log trace e instant due.0 = due.2 in
          let from : time_of trace source ≡ Some age.start = ap (λ (x : Edge). time_of trace x.source) (only_edge e among) ∙ age.source in
          let same : time ≡ age.start = same_Some time age.start (sym source_at ∙ from) in
          (time, probe_at, let since = age.since in omega (arith, since, same));
      and_node = λ is all. absurd (false≢true (sym (test_probe graph name source lag is_and) ∙ is));
    };
  }
