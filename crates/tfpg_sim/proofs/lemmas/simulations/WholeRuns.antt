-- How a simulation begins, goes on and ends.
use Rattle.std.proofs.Common.{◌≡◌, ℕ, zero, suc, ◌+◌, ◌<◌, ◌≤◌, ⊎_elim, true, false, cond, List, length, get_or, All, Option, Some, None, is_none, refl, sym, ap, ◌∙◌, subst, arith}
use Rattle.tfpg_base.specs.declared.activation.Activation.{Activation}
use Rattle.tfpg_base.specs.Trace.{time_of, with_time, IsRisingByNode}
use Rattle.tfpg_base.proofs.lemmas.Traces.{time_of-with_time, time_of-with_time_other}
use Rattle.tfpg_graph.specs.Graph.{Tfpg, is_kind_at, is_failure}
use Rattle.tfpg_graph.proofs.lemmas.NodeAt.{kind_within}
use Rattle.tfpg_sim.specs.declared.entry.Entry.{Entry}
use Rattle.tfpg_sim.specs.Script.{time_so_far}
use Rattle.tfpg_sim.specs.Simulation.{Arrives, IsFirst, IsSimulated, script_log, start_of}
use Rattle.tfpg_sim.specs.inside.Settling.{candidate_at, simulation_case, AreCandidates, IsEarliest, IsUnderWay, IsFailureStart, waiting_count}
use Rattle.tfpg_base.proofs.lemmas.TraceTimes.{time_holds}
use Rattle.tfpg_sim.proofs.lemmas.scripts.ScriptOrder.{All-with_time}
use Rattle.tfpg_sim.proofs.lemmas.simulations.SettledNodes.{settle, its_first}
use Rattle.std.proofs.lemmas.Bool.{cases_eq, not-true}

module _ (graph : Tfpg) (entries : List Entry) (delays : List ℕ) (stop : ℕ) where
  -- it begins with the failure modes that the script starts
  pub begins : (trace : List Activation) (candidates : List (Option ℕ)) → ((node : ℕ) → time_of trace node ≡ start_of entries node)
      → All (IsFailureStart graph stop) trace → AreCandidates (simulation_case graph (script_log entries) delays stop) trace candidates
      → IsUnderWay (simulation_case graph (script_log entries) delays stop) (start_of entries) trace candidates
  begins trace candidates times own known = record {
    within = λ k d below. kind_within graph is_failure (get_or trace k d).node (own k d below).0;
    times = λ k d below. (own k d below).1;
    failure_modes = λ node is. times node;
    settled = λ node time unlike at. absurd (never node time unlike at);
    known = known;
    ordered = λ node time other later unlike at candidate. absurd (never node time unlike at);
  }
    where
      never : (node time : ℕ) → is_kind_at is_failure graph node ≡ false → time_of trace node ≡ Some time → ⊥
      never node time unlike at = let both : false ≡ true = sym unlike ∙ (time_holds (IsFailureStart graph stop) trace node time own at).0 in cc

  -- the times so far are small
  pub times_after : (trace : List Activation) (candidates : List (Option ℕ)) (node time : ℕ)
      → IsUnderWay (simulation_case graph (script_log entries) delays stop) (start_of entries) trace candidates → IsEarliest candidates node time
      → All (λ activation. activation.time ≤ stop) (with_time node time trace)
  times_after trace candidates node time way earliest =
      All-with_time (λ activation. activation.time ≤ stop) trace node time way.times
      (its_first graph (script_log entries) delays stop (start_of entries) trace candidates way node time earliest).0

  -- it goes on by the earliest candidate
  pub goes_on : (trace : List Activation) (candidates later : List (Option ℕ)) (node time : ℕ)
      → IsUnderWay (simulation_case graph (script_log entries) delays stop) (start_of entries) trace candidates → IsEarliest candidates node time
      → AreCandidates (simulation_case graph (script_log entries) delays stop) (with_time node time trace) later
      → IsUnderWay (simulation_case graph (script_log entries) delays stop) (start_of entries) (with_time node time trace) later
  goes_on trace candidates later node time way earliest known =
      settle graph (script_log entries) delays stop (start_of entries) trace candidates way node time earliest later known
      (All-with_time (λ activation. activation.node < length graph.nodes) trace node time way.within
      (let within = earliest.within in let count = way.known.count in omega arith))
      (times_after trace candidates node time way earliest)

  -- it ends where there is no candidate
  pub ends : (trace : List Activation) (candidates : List (Option ℕ)) → IsUnderWay (simulation_case graph (script_log entries) delays stop) (start_of entries) trace candidates
      → ((node : ℕ) → candidate_at candidates node ≡ None) → IsRisingByNode trace → stop ≡ time_so_far entries → IsSimulated graph entries delays trace
  ends trace candidates way none rising is = record {
    trace_of = (rising, way.within);
    failure_modes = way.failure_modes;
    discrepancies = λ node within unlike.
        subst (λ limit. IsFirst (Arrives graph (script_log entries) delays trace node) limit (time_of trace node)) is
        (by node within (not-true (is_kind_at is_failure graph node) unlike) (time_of trace node) refl);
  }
    where
      by : (node : ℕ) → node < length graph.nodes → is_kind_at is_failure graph node ≡ false → (o : Option ℕ) → time_of trace node ≡ o
          → IsFirst (Arrives graph (script_log entries) delays trace node) stop (time_of trace node)
      by node within unlike (Some time) at = subst (IsFirst (Arrives graph (script_log entries) delays trace node) stop) (sym at) (way.settled node time unlike at)
      by node within unlike None at = subst (IsFirst (Arrives graph (script_log entries) delays trace node) stop) (none node ∙ sym at)
          ((way.known.each node within).waiting unlike at)

-- one node fewer is not active
module _ (trace : List Activation) (node time : ℕ) where
  waiting_same : (n : ℕ) → n ≤ node → waiting_count (with_time node time trace) n ≡ waiting_count trace n
  waiting_same zero upto = refl
  waiting_same (suc n) upto =
      let same : time_of (with_time node time trace) n ≡ time_of trace n = time_of-with_time_other trace node time n (λ is. omega (arith, is)) in
      (λ i. waiting_same n (upto') i + cond (is_none (same i)) 1 0)
    where
      upto' : n ≤ node
      upto' = omega arith

  pub waiting_less : time_of trace node ≡ None → (n : ℕ) → node < n → waiting_count (with_time node time trace) n < waiting_count trace n
  waiting_less none zero within = absurd (omega arith)
  waiting_less none (suc n) within = ⊎_elim
      (λ here. omega (
        arith,
        waiting_same n (omega (arith, here)),
        ap {B = ℕ} (λ o. cond (is_none o) 1 0) (ap (time_of (with_time node time trace)) (sym here) ∙ time_of-with_time trace node time),
        ap {B = ℕ} (λ o. cond (is_none o) 1 0) (ap (time_of trace) (sym here) ∙ none),
      ))
      (λ unlike. omega (
        arith,
        waiting_less none n (let less : node < n = grind arith in less),
        ap {B = ℕ} (λ o. cond (is_none o) 1 0) (time_of-with_time_other trace node time n unlike),
      ))
      (cases_eq node n)
