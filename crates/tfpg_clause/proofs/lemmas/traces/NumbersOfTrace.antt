-- The numbers of a trace that explains a log: its times, and for a node without one the number for never.
use Rattle.std.proofs.Common.{◌≡◌, ℕ, zero, suc, ◌+◌, ◌<◌, ◌≤◌, List, [], ◌∷◌, length, get_or, Option, Some, None, refl, ap, ◌∙◌, arith}
use Rattle.std.specs.Prelude.{All, unwrap_or}
use Rattle.std.proofs.lemmas.List.Elements.{All-nil, All-cons, All-contains}
use Rattle.tfpg_base.specs.declared.limits.TheConstants.{MAX_TIME, NEVER}
use Rattle.tfpg_base.specs.declared.activation.Activation.{Activation}
use Rattle.tfpg_base.specs.Trace.{time_of}
use Rattle.tfpg_base.proofs.lemmas.TraceTimes.{activation_there}
use Rattle.tfpg_graph.specs.Graph.{Tfpg}
use Rattle.tfpg_log.specs.Log.{Logbook, IsOrdered, now_of}
use Rattle.tfpg_log.specs.Explains.{Explains}
use Rattle.tfpg_clause.specs.Cut.{AreNumbersOf}
use Rattle.tfpg_clause.proofs.lemmas.logs.TimesInRange.{now_in_range}

-- the numbers of so many nodes from this one on
numbers_of : List Activation → ℕ → ℕ → List ℕ
numbers_of trace node zero = []
numbers_of trace node (suc more) = unwrap_or (time_of trace node) NEVER ∷ numbers_of trace (node + 1) more

numbers_length : (trace : List Activation) (node count : ℕ) → length (numbers_of trace node count) ≡ count
unfolding numbers_of
numbers_length trace node zero = refl
numbers_length trace node (suc more) = ap (λ (n : ℕ). suc n) (numbers_length trace (node + 1) more)

number_at : (trace : List Activation) (node count k : ℕ) → k < count
    → get_or (numbers_of trace node count) k 0 ≡ unwrap_or (time_of trace (node + k)) NEVER
unfolding numbers_of
number_at trace node zero k within = absurd (omega arith)
number_at trace node (suc more) zero within =
    let same : node ≡ node + 0 = omega arith in ap (λ (n : ℕ). unwrap_or (time_of trace n) NEVER) same
number_at trace node (suc more) (suc k) within =
    let same : node + 1 + k ≡ node + suc k = omega arith in
    number_at trace (node + 1) more k (omega arith) ∙ ap (λ (n : ℕ). unwrap_or (time_of trace n) NEVER) same

in_range : (trace : List Activation) → ((node time : ℕ) → time_of trace node ≡ Some time → time ≤ NEVER) → (node count : ℕ)
    → All (λ number. number ≤ NEVER) (numbers_of trace node count)
unfolding numbers_of
in_range trace upto node zero = All-nil (λ number. number ≤ NEVER)
in_range trace upto node (suc more) =
    All-cons (λ number. number ≤ NEVER) (unwrap_or (time_of trace node) NEVER) (numbers_of trace (node + 1) more)
    (by (time_of trace node) refl) (in_range trace upto (node + 1) more)
  where
    by : (found : Option ℕ) → time_of trace node ≡ found → unwrap_or found NEVER ≤ NEVER
    by None is = omega arith
    by (Some time) is = upto node time is

-- A trace that explains a log has numbers.
pub numbers_of_trace : (graph : Tfpg) (log : Logbook) (set : List ℕ) (trace : List Activation) → IsOrdered log
    → Explains graph log set trace
    → (numbers : List ℕ) × AreNumbersOf graph (now_of log) trace numbers
numbers_of_trace graph log set trace ordered explains =
    let late : now_of log ≤ MAX_TIME = now_in_range log ordered in
    let by_now = λ (node : ℕ) (time : ℕ) (at : time_of trace node ≡ Some time).
    All-contains (λ (activation : Activation). activation.time ≤ now_of log) trace (record { node = node; time = time }) explains.by_now
    (activation_there trace node time at) in
    let within = λ (node : ℕ) (time : ℕ) (at : time_of trace node ≡ Some time).
    All-contains (λ (activation : Activation). activation.node < length graph.nodes) trace
    (record { node = node; time = time }) explains.trace_of.1 (activation_there trace node time at) in
    let number = λ (node : ℕ) (inside : node < length graph.nodes).
    let same : 0 + node ≡ node = omega arith in
    number_at trace 0 (length graph.nodes) node inside ∙ ap (λ (n : ℕ). unwrap_or (time_of trace n) NEVER) same in (
      numbers_of trace 0 (length graph.nodes),
      record {
        are_numbers = record {
          one_each = numbers_length trace 0 (length graph.nodes);
          in_range = in_range trace (λ node time at. omega (arith, by_now node time at, late)) 0 (length graph.nodes);
        };
        active = λ node time at. number node (within node time at) ∙ ap (λ (o : Option ℕ). unwrap_or o NEVER) at;
        inactive = λ node inside none.
            let is : get_or (numbers_of trace 0 (length graph.nodes)) node 0 ≡ NEVER =
            number node inside ∙ ap (λ (o : Option ℕ). unwrap_or o NEVER) none in
            omega (arith, is, late);
      },
    )
