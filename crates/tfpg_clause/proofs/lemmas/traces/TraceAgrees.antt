-- Numbers and a trace that say the same of each node up to an instant.
use Rattle.std.proofs.Common.{◌≡◌, ℕ, zero, suc, ◌+◌, ◌<◌, ◌≤◌, Bool, true, false, cond, eqb, leb, List, [], ◌∷◌, length, get_or, Option, Some, None, refl, sym, ap, ◌∙◌, arith}
use Rattle.std.specs.Prelude.{All}
use Rattle.std.proofs.lemmas.Bool.{eqb-true, le-leb, leb-true, ne_eqb, eq-eqb}
use Rattle.std.proofs.lemmas.List.Elements.{All-contains}
use Rattle.tfpg_base.specs.declared.activation.Activation.{Activation}
use Rattle.tfpg_base.specs.Trace.{time_of}
use Rattle.tfpg_base.proofs.lemmas.TraceTimes.{activation_there}
use Rattle.tfpg_graph.specs.Graph.{Tfpg}
use Rattle.tfpg_log.specs.Rules.{IsActive}
use Rattle.tfpg_clause.specs.Cut.{cut, cut_from, AreNumbersOf}

-- A time that the trace gives a node is its number, and up to the instant; a node with a number up to the instant has it as its time.
pub record Agree (count now : ℕ) (trace : List Activation) (numbers : List ℕ) : Type 0 where
  pub number_is : (node time : ℕ) → time_of trace node ≡ Some time → get_or numbers node 0 ≡ time
  pub by_now : (node time : ℕ) → time_of trace node ≡ Some time → time ≤ now
  pub early : (node : ℕ) → node < count → get_or numbers node 0 ≤ now → time_of trace node ≡ Some (get_or numbers node 0)

module _ (count now : ℕ) (trace : List Activation) (numbers : List ℕ) (agree : Agree count now trace numbers) where
  -- a node is active where its number is no later
  pub active_from : (node instant : ℕ) → node < count → instant ≤ now → get_or numbers node 0 ≤ instant → IsActive trace node instant
  active_from node instant within upto before = (get_or numbers node 0, agree.early node within (omega arith), before)

  -- and only there
  pub active_only : (node instant : ℕ) → IsActive trace node instant → get_or numbers node 0 ≤ instant
  active_only node instant active = omega (arith, agree.number_is node active.0 active.1, active.2)

-- The numbers of a trace whose times are up to an instant agree with it.
pub of_trace : (graph : Tfpg) (now : ℕ) (trace : List Activation) (numbers : List ℕ) → All (λ activation. activation.time ≤ now) trace
    → AreNumbersOf graph now trace numbers
    → Agree (length graph.nodes) now trace numbers
of_trace graph now trace numbers upto are = record {
  number_is = are.active;
  by_now =
      λ node time at. All-contains (λ activation. activation.time ≤ now) trace (record { node = node; time = time }) upto
      (activation_there trace node time at);
  early = λ node within before. by node within before (time_of trace node) refl;
}
  where
    by : (node : ℕ) → node < length graph.nodes → get_or numbers node 0 ≤ now → (found : Option ℕ) → time_of trace node ≡ found
        → time_of trace node ≡ Some (get_or numbers node 0)
    by node within before None at = absurd (omega (arith, before, are.inactive node within at))
    by node within before (Some time) at = at ∙ ap Some (sym (are.active node time at))

-- ---- the cut

-- a node before the first of them has no time
none_before : (first now : ℕ) (numbers : List ℕ) (node : ℕ) → node < first → time_of (cut_from first now numbers) node ≡ None
none_before first now [] node before = refl
none_before first now (number ∷ numbers) node before = by (leb number now) (none_before (first + 1) now numbers node (omega arith))
  where
    by : (b : Bool) → time_of (cut_from (first + 1) now numbers) node ≡ None
        → time_of
        (cond b (record { node = first; time = number } ∷ cut_from (first + 1) now numbers) (cut_from (first + 1) now numbers)) node ≡ None
    by true rest = let other : eqb first node ≡ false = ne_eqb first node (λ same. omega (arith, same, before)) in rw other rest
    by false rest = rest

-- a node has its number as its time, where that is up to the instant
cut_early : (first now : ℕ) (numbers : List ℕ) (index node : ℕ) → node ≡ first + index → index < length numbers
    → get_or numbers index 0 ≤ now
    → time_of (cut_from first now numbers) node ≡ Some (get_or numbers index 0)
cut_early first now [] index node is within early = absurd (omega arith)
cut_early first now (number ∷ numbers) zero node is within early =
    let kept : leb number now ≡ true = le-leb number now early in
    let here : eqb first node ≡ true = eq-eqb first node (omega arith) in
    rw (kept, here) refl
cut_early first now (number ∷ numbers) (suc index) node is within early =
    by (leb number now) (cut_early (first + 1) now numbers index node (omega arith) (omega arith) early)
  where
    by : (b : Bool) → time_of (cut_from (first + 1) now numbers) node ≡ Some (get_or numbers index 0)
        → time_of
        (cond b (record { node = first; time = number } ∷ cut_from (first + 1) now numbers) (cut_from (first + 1) now numbers)) node
        ≡ Some (get_or numbers index 0)
    by true rest = let other : eqb first node ≡ false = ne_eqb first node (λ same. omega (arith, same, is)) in rw other rest
    by false rest = rest

-- and a time is the number of its node, up to the instant
pub record IsCutTime (first now : ℕ) (numbers : List ℕ) (node time : ℕ) : Type 0 where
  pub index : ℕ
  pub is : node ≡ first + index
  pub within : index < length numbers
  pub number : get_or numbers index 0 ≡ time
  pub early : time ≤ now

next_cut : (first now number : ℕ) (numbers : List ℕ) (node time : ℕ) → IsCutTime (first + 1) now numbers node time
    → IsCutTime first now (number ∷ numbers) node time
next_cut first now number numbers node time at = record {
  index = suc at.index;
  is = omega (arith, at.is);
  within = omega (arith, at.within);
  number = at.number;
  early = at.early;
}

cut_time : (first now : ℕ) (numbers : List ℕ) (node time : ℕ) → time_of (cut_from first now numbers) node ≡ Some time
    → IsCutTime first now numbers node time
cut_time first now [] node time at = absurd cc
cut_time first now (number ∷ numbers) node time at =
    by (leb number now) refl at (λ rest. next_cut first now number numbers node time (cut_time (first + 1) now numbers node time rest))
  where
    own : (b : Bool) → leb number now ≡ true → eqb first node ≡ b
        → cond b (Some number) (time_of (cut_from (first + 1) now numbers) node) ≡ Some time
        → (time_of (cut_from (first + 1) now numbers) node ≡ Some time → IsCutTime first now (number ∷ numbers) node time)
        → IsCutTime first now (number ∷ numbers) node time
    own true kept same is rest =
        let here : number ≡ time = cc in
        record {
          index = 0;
          is = omega (arith, eqb-true first node same);
          within = omega arith;
          number = here;
          early = omega (
            arith,
            leb-true number now kept,
            here,
          );
        }
    own false kept other is rest = rest is

    by : (b : Bool) → leb number now ≡ b
        → time_of
        (cond b (record { node = first; time = number } ∷ cut_from (first + 1) now numbers) (cut_from (first + 1) now numbers)) node
        ≡ Some time
        → (time_of (cut_from (first + 1) now numbers) node ≡ Some time → IsCutTime first now (number ∷ numbers) node time)
        → IsCutTime first now (number ∷ numbers) node time
    by true kept at rest = own (eqb first node) kept refl at rest
    by false late at rest = rest at

-- what a time of the cut comes of
pub time_of_cut : (now : ℕ) (numbers : List ℕ) (node time : ℕ) → time_of (cut now numbers) node ≡ Some time
    → (node < length numbers) × (get_or numbers node 0 ≡ time) × (time ≤ now)
time_of_cut now numbers node time at =
    let is = cut_time 0 now numbers node time at in
    let same : is.index ≡ node = omega (arith, is.is) in
    (omega (arith, same, is.within), ap (λ index. get_or numbers index 0) (sym same) ∙ is.number, is.early)

-- Numbers, one for each node, agree with their cut.
pub of_cut : (count now : ℕ) (numbers : List ℕ) → length numbers ≡ count → Agree count now (cut now numbers) numbers
of_cut count now numbers many = record {
  number_is = λ node time at. (time_of_cut now numbers node time at).1;
  by_now = λ node time at. (time_of_cut now numbers node time at).2;
  early = λ node within before. cut_early 0 now numbers node node (omega arith) (omega (arith, many, within)) before;
}
