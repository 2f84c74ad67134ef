-- When a node is alarmed: within its lag after its activation, and not after a sweep from its least lag on.
use Rattle.std.proofs.Common.{◌≡◌, ℕ, ◌+◌, IfSome, ◌<◌, ◌≤◌, ⊎_elim, cond, min, leb, List, [], ◌∷◌, length, get_or, filter_map, Contains, IsTrue, Option, Some, None, unwrap_or, slice_get, refl, sym, ap, ◌∙◌, subst, arith}
use Rattle.std.specs.Prelude.{AllPairs, nat_le, is_some, option_map, option_and_then}
use Rattle.std.specs.Bool.{then_some}
use Rattle.std.proofs.lemmas.Bool.{cond_both, le-leb, leb-true}
use Rattle.std.proofs.lemmas.List.Elements.{All-contains}
use Rattle.std.proofs.lemmas.Option.{get_or_from_slice_get}
use Rattle.tfpg_base.proofs.lemmas.lists.Elements.{AllPairs-head, AllPairs-tail, Contains-cons_cases, Contains-nil, slice_get-there}
use Rattle.tfpg_base.specs.declared.activation.Activation.{Activation}
use Rattle.tfpg_base.specs.Trace.{time_of}
use Rattle.tfpg_base.proofs.lemmas.lists.Choices.{option_and_then-some, option_map-some, is_some-there, then_some-true}
use Rattle.tfpg_base.proofs.lemmas.lists.Scans.{scan_at, length-scan}
use Rattle.tfpg_base.proofs.lemmas.lists.FirstFound.{find-passes}
use Rattle.tfpg_graph.specs.declared.kind.Lag.{Lag}
use Rattle.tfpg_graph.specs.Graph.{Tfpg, Node, lag_of, lag_at, is_monitored}
use Rattle.tfpg_graph.specs.Valid.{IsValid, IsValidLag}
use Rattle.tfpg_graph.proofs.lemmas.NodeAt.{monitored_within}
use Rattle.rand_pcg.specs.Lcg.{Lcg}
use Rattle.tfpg_sim.specs.declared.draws.Lateness.{Lateness}
use Rattle.tfpg_sim.specs.declared.entry.Entry.{Entry}
use Rattle.tfpg_sim.specs.declared.entry.Entry.TheVariants.{Start, Mode, Sweep, Tick, Stop}
use Rattle.tfpg_sim.specs.Draws.{drawn, after_lag, generator, lateness_of, lateness_drawn, latenesses_from, latenesses}
use Rattle.tfpg_sim.specs.Script.{time_of_entry}
use Rattle.tfpg_sim.specs.SimulatedLog.{sweep_time, first_sweep, due_time, alarm_time}
use Rattle.tfpg_sim.specs.declared.limits.TheConstants.{DELAY_STREAM}
use Rattle.tfpg_sim.proofs.lemmas.simulations.DrawLists.{after_edges, drawn_upto, valid_lag}

-- ---- latenesses

-- the lateness of a node is drawn for it
lateness_at : (state : Lcg) (nodes : List Node) (n : ℕ) → n < length nodes
    → (before : Lcg) × (node : Node) × (slice_get nodes n ≡ Some node) × (get_or (latenesses_from state nodes) n None ≡ lateness_drawn before (lag_of node.kind))
lateness_at state nodes n within =
    let there = slice_get-there nodes n within in
    let at =
    scan_at (λ (before : Lcg) (node : Node). after_lag before (lag_of node.kind)) (λ before node. lateness_drawn before (lag_of node.kind)) state nodes n
    there.0 there.1 in
    (at.0, there.0, there.1, get_or_from_slice_get (latenesses_from state nodes) n (lateness_drawn at.0 (lag_of there.0.kind)) None at.1)

-- A lateness is within the lag of its node.
pub record IsWithinLag (graph : Tfpg) (node : ℕ) (late : Lateness) : Type 0 where
  pub lag : Lag
  pub is : lag_at graph node ≡ Some lag
  pub least : late.least ≡ lag.least
  pub from_least : late.least ≤ late.drawn
  pub upto_most : late.drawn ≤ lag.most

module _ (graph : Tfpg) (number : ℕ) where
  pub length-latenesses : length (latenesses graph number) ≡ length graph.nodes
  length-latenesses =
      length-scan (λ (before : Lcg) (node : Node). after_lag before (lag_of node.kind)) (λ before node. lateness_drawn before (lag_of node.kind))
      (after_edges (generator number DELAY_STREAM) graph.edges) graph.nodes

  -- the lateness of a node is within its lag
  pub lateness_within : IsValid graph → (node : ℕ) (late : Lateness) → node < length graph.nodes → get_or (latenesses graph number) node None ≡ Some late
      → IsWithinLag graph node late
  lateness_within valid node late within is =
      let at = lateness_at (after_edges (generator number DELAY_STREAM) graph.edges) graph.nodes node within in
      let found = option_map-some (λ lag. lateness_of lag (drawn at.0)) (lag_of at.1.kind) late (sym at.3 ∙ is) in
      let own : IsValidLag found.0 =
      subst (λ lag. IfSome lag IsValidLag) found.1 (valid_lag graph valid node at.1.kind (ap (option_map (λ (n : Node). n.kind)) at.2)) in
      subst (IsWithinLag graph node) found.2 (record {
        lag = found.0;
        is = ap (λ (o : Option Node). option_and_then lag_of (option_map (λ n. n.kind) o)) at.2 ∙ found.1;
        least = refl;
        from_least = omega arith;
        upto_most = drawn_upto found.0.least found.0.most (drawn at.0) own.in_order;
      })

  -- and a node that is monitored has one
  pub monitored_lateness : (node : ℕ) → IsTrue (is_monitored graph node) → (late : Lateness) × (get_or (latenesses graph number) node None ≡ Some late)
  monitored_lateness node monitored =
      let at = lateness_at (after_edges (generator number DELAY_STREAM) graph.edges) graph.nodes node (monitored_within graph node monitored) in
      let lag : lag_at graph node ≡ lag_of at.1.kind = ap (λ (o : Option Node). option_and_then lag_of (option_map (λ n. n.kind) o)) at.2 in
      let found = is_some-there (lag_of at.1.kind) (sym (ap is_some lag) ∙ monitored) in
      (lateness_of found.0 (drawn at.0), at.3 ∙ ap (lateness_drawn at.0) found.1)

-- ---- the first sweep

-- the first sweep is not before the instant
pub sweep_late : (instant found : ℕ) (entries : List Entry) → first_sweep instant entries ≡ Some found → instant ≤ found
sweep_late instant found entries is = leb-true instant found (find-passes (λ time. leb instant time) (filter_map sweep_time entries) found is).1

-- a first sweep up to one
abbrev SweepUpto : ℕ → List Entry → ℕ → Type 0
SweepUpto instant entries time = (found : ℕ) × (first_sweep instant entries ≡ Some found) × (found ≤ time)

-- a sweep that is not before the instant has the first one before it, or is it
pub sweep_early : (instant time : ℕ) (entries : List Entry) → AllPairs (λ a b. time_of_entry a ≤ time_of_entry b) entries
    → Contains entries (Sweep time) → instant ≤ time → SweepUpto instant entries time
sweep_early instant time [] order member late = absurd (Contains-nil (Sweep time) member)
sweep_early instant time (entry ∷ entries) order member late =
    ⊎_elim
    (λ here. subst (λ n. SweepUpto instant (n ∷ entries) time) (sym here)
    (time, ap (λ b. cond b (Some time) (first_sweep instant entries)) (le-leb instant time late), omega arith))
    (λ there. by entry (All-contains (λ later. time_of_entry entry ≤ time_of_entry later) entries (Sweep time) (AllPairs-head (λ a b. time_of_entry a ≤ time_of_entry b) entry entries order) there)
    (sweep_early instant time entries (AllPairs-tail (λ a b. time_of_entry a ≤ time_of_entry b) entry entries order) there late))
    (Contains-cons_cases entry entries (Sweep time) member)
  where
    by : (n : Entry) → time_of_entry n ≤ time → SweepUpto instant entries time → SweepUpto instant (n ∷ entries) time
    by (Start other node) upto rest = rest
    by (Mode other mode) upto rest = rest
    by (Sweep other) upto rest =
        cond_both (leb instant other) (Some other) (first_sweep instant entries) (λ o. (found : ℕ) × (o ≡ Some found) × (found ≤ time))
        (λ _. (other, refl, upto)) (λ _. rest)
    by (Tick other) upto rest = rest
    by (Stop other) upto rest = rest

-- ---- when an alarm is due

module _ (entries : List Entry) (active : ℕ) (late : Lateness) where
  -- not before the least lag, and not later than the lateness says
  pub due_between : late.least ≤ late.drawn → (active + late.least ≤ due_time entries active late) × (due_time entries active late ≤ active + late.drawn)
  due_between order = by (first_sweep (active + late.least) entries) (λ found is. sweep_late (active + late.least) found entries is)
    where
      by : (sweep : Option ℕ) → ((found : ℕ) → sweep ≡ Some found → active + late.least ≤ found)
          → (active + late.least ≤ min (unwrap_or sweep (active + late.drawn)) (active + late.drawn)) × (min (unwrap_or sweep (active + late.drawn)) (active + late.drawn) ≤ active + late.drawn)
      by None not_early = (omega arith, omega arith)
      by (Some found) not_early = let upto = not_early found refl in (omega arith, omega arith)

  -- and not after a sweep that is not before the least lag
  pub due_by_sweep : (time : ℕ) → SweepUpto (active + late.least) entries time → due_time entries active late ≤ time
  due_by_sweep time sweep =
      subst (λ o. min (unwrap_or o (active + late.drawn)) (active + late.drawn) ≤ time) (sym sweep.1) (let upto = sweep.2 in omega arith)

-- What it means that a node is alarmed at a time.
pub record IsAlarmTime (entries : List Entry) (trace : List Activation) (lateness : Option Lateness) (node stop time : ℕ) : Type 0 where
  pub late : Lateness
  pub lateness_is : lateness ≡ Some late
  pub active : ℕ
  pub active_is : time_of trace node ≡ Some active
  pub due : due_time entries active late ≡ time
  pub by_stop : time ≤ stop

module _ (entries : List Entry) (trace : List Activation) (lateness : Option Lateness) (node stop : ℕ) where
  pub alarmed_at : (time : ℕ) → alarm_time entries trace lateness node stop ≡ Some time → IsAlarmTime entries trace lateness node stop time
  alarmed_at time is =
      let late = option_and_then-some (λ late. option_and_then (λ active. then_some (nat_le (due_time entries active late) stop) (due_time entries active late)) (time_of trace node)) lateness time is in
      let active = option_and_then-some (λ active. then_some (nat_le (due_time entries active late.0) stop) (due_time entries active late.0)) (time_of trace node) time late.2 in
      let test = then_some-true (nat_le (due_time entries active.0 late.0) stop) (due_time entries active.0 late.0) time active.2 in
      record {
        late = late.0;
        lateness_is = late.1;
        active = active.0;
        active_is = active.1;
        due = test.1;
        by_stop = subst (λ t. t ≤ stop) test.1 (leb-true (due_time entries active.0 late.0) stop test.0);
      }

  pub alarm_comes : (late : Lateness) (active : ℕ) → lateness ≡ Some late → time_of trace node ≡ Some active → due_time entries active late ≤ stop
      → alarm_time entries trace lateness node stop ≡ Some (due_time entries active late)
  alarm_comes late active lateness_is active_is upto =
      (λ i. option_and_then (λ l. option_and_then (λ a. then_some (nat_le (due_time entries a l) stop) (due_time entries a l)) (active_is i)) (lateness_is i))
      ∙ ap (λ b. then_some b (due_time entries active late)) (le-leb (due_time entries active late) stop upto)
