-- Laws of traces as lists of activations by rising nodes.
use Rattle.std.proofs.Common.{◌≡◌, ◌≢◌, ℕ, suc, zero, ◌-◌, ◌<◌, cond, eqb, ltb, List, [], ◌∷◌, length, get_or, set, Some, None, Result, Ok, Err, IfOk, IfErr, ◌⊎◌, inl, inr, ⊎_elim, refl, arith, sym, ◌∙◌, ap, subst}
use Rattle.std.specs.Prelude.{slice_get}
use Rattle.std.specs.List.{insert, HoldsAt, Contains}
use Rattle.std.specs.List.Sorted.{IsSearchInRange, IsBinarySearchResult}
use Rattle.std.specs.Ordering.{nat_cmp}
use Rattle.std.proofs.lemmas.Cmp.{ranked}
use Rattle.std.proofs.lemmas.Bool.{ltb-true, ltb-false, eqb-true, eqb-false, lt-ltb, le-ltb, eq-eqb, ne_eqb, cond-true, cond-false, cond_both, cases_lt}
use Rattle.std.proofs.lemmas.List.Elements.{All-cons, All-weaker, All-contains}
use Rattle.std.proofs.lemmas.Option.{get_or_from_slice_get, slice_get-get_or}
use Rattle.tfpg_base.proofs.lemmas.lists.Elements.{AllPairs-head, AllPairs-tail, AllPairs-cons, All-from_members, Contains-head, Contains-tail, Contains-cons_cases, Contains-nil}
use Rattle.tfpg_base.specs.declared.activation.Activation.{Activation}
use Rattle.tfpg_base.specs.Trace.{TimesAfter, IsRisingByNode, time_of, with_time}
use Rattle.tfpg_base.specs.inside.TraceSearch.{StandsAt, IsInsertedAt}
use Rattle.tfpg_base.proofs.lemmas.lists.Ordered.{comparisons_rise}

-- ---- a search by node

-- where a binary search by node found something, the node stands
pub StandsAt-searched : (trace : List Activation) (node : ℕ) (found : Result ℕ ℕ) → IsRisingByNode trace → IsSearchInRange found (length trace) → IsBinarySearchResult (λ activation. nat_cmp activation.node node) trace found → IfOk found (StandsAt trace node)
StandsAt-searched trace node (Ok index) rising in_range equal =
    let here : HoldsAt (λ activation. activation.node ≡ node) trace index = λ d. ranked _ node _ (sym (equal d)) in
    record {
      in_range = in_range;
      before = λ k d from upto. omega (arith, rising k index d upto in_range, here d);
      here = here;
    }
StandsAt-searched trace node (Err index) rising in_range parted = tt

-- where it found nothing, it found where the node would be inserted
pub IsInsertedAt-searched : (trace : List Activation) (node : ℕ) (found : Result ℕ ℕ) → IsRisingByNode trace → IsSearchInRange found (length trace) → IsBinarySearchResult (λ activation. nat_cmp activation.node node) trace found → IfErr found (IsInsertedAt trace node)
IsInsertedAt-searched trace node (Ok index) rising in_range equal = tt
IsInsertedAt-searched trace node (Err index) rising in_range parted =
    let halves = parted (comparisons_rise (λ (activation : Activation). activation.node) trace node rising) in
    record {
      in_range = in_range;
      before = λ k d from upto. ranked _ node _ (sym (halves.0 k d from upto));
      after = λ k d from upto. ranked _ node _ (sym (halves.1 k d from upto));
    }

-- a node above the last one would be inserted at the end
pub IsInsertedAt-after_last : (trace : List Activation) (node : ℕ) (last : Activation) → IsRisingByNode trace → slice_get trace (length trace - 1) ≡ Some last → last.node < node
    → IsInsertedAt trace node (length trace)
IsInsertedAt-after_last trace node last rising at above = record {
  in_range = omega arith;
  before = λ k d from upto.
      let end : (get_or trace (length trace - 1) d).node < node = omega (arith, above, ap (λ (a : Activation). a.node) (get_or_from_slice_get trace (length trace - 1) last d at)) in
      ⊎_elim (λ earlier. omega (arith, rising k (length trace - 1) d earlier (omega (arith, upto)), end))
      (λ later. let same : length trace - 1 ≡ k = omega (arith, later, upto) in subst (λ (n : ℕ). (get_or trace n d).node < node) same end)
      (cases_lt k (length trace - 1));
  after = λ k d from upto. absurd (omega (arith, from, upto));
}

-- where there is no last one there is none
pub IsInsertedAt-no_last : (trace : List Activation) (node : ℕ) → slice_get trace (length trace - 1) ≡ None → IsInsertedAt trace node (length trace)
IsInsertedAt-no_last [] node none = record {
  in_range = omega arith;
  before = λ k d from upto. absurd (omega (arith, upto));
  after = λ k d from upto. absurd (omega (arith, upto));
}
IsInsertedAt-no_last (first ∷ others) node none =
    absurd (let some = slice_get-get_or (first ∷ others) (length (first ∷ others) - 1) first (omega arith) in cc)

-- ---- the time of a node

-- in the rest of a trace a node stands one index lower
StandsAt-tail : (first : Activation) (others : List Activation) (node index : ℕ) → StandsAt (first ∷ others) node (suc index) → StandsAt others node index
StandsAt-tail first others node index stands = record {
  in_range = omega (arith, stands.in_range);
  before = λ k d from upto. stands.before (suc k) d (omega arith) (omega arith);
  here = stands.here;
}

-- in the rest of a trace a node would be inserted one index lower
IsInsertedAt-tail : (first : Activation) (others : List Activation) (node index : ℕ) → IsInsertedAt (first ∷ others) node (suc index) → IsInsertedAt others node index
IsInsertedAt-tail first others node index fits = record {
  in_range = omega (arith, fits.in_range);
  before = λ k d from upto. fits.before (suc k) d (omega arith) (omega arith);
  after = λ k d from upto. fits.after (suc k) d (omega arith) (omega arith);
}

-- the time of a node that stands at an index is the time there
pub time_of-stands : (trace : List Activation) (node index : ℕ) (d : Activation) → StandsAt trace node index → time_of trace node ≡ Some (get_or trace index d).time
time_of-stands [] node index d stands = absurd (omega (arith, stands.in_range))
time_of-stands (first ∷ others) node zero d stands = cond-true (eqb first.node node) _ _ (eq-eqb first.node node (stands.here d))
time_of-stands (first ∷ others) node (suc index) d stands =
    let lesser = stands.before 0 d (omega arith) (omega arith) in
    cond-false (eqb first.node node) (Some first.time) (time_of others node) (ne_eqb first.node node (λ same. omega (arith, lesser, same)))
    ∙ time_of-stands others node index d (StandsAt-tail first others node index stands)

-- a node that no activation has has no time
pub time_of-none : (trace : List Activation) (node : ℕ) → ((k : ℕ) (d : Activation) → k < length trace → (get_or trace k d).node ≢ node) → time_of trace node ≡ None
time_of-none [] node none = refl
time_of-none (first ∷ others) node none =
    cond-false (eqb first.node node) (Some first.time) (time_of others node) (ne_eqb first.node node (none 0 first (omega arith)))
    ∙ time_of-none others node (λ k d within. none (suc k) d (omega arith))

-- a node that would have to be inserted has no time
pub time_of-absent : (trace : List Activation) (node index : ℕ) → IsInsertedAt trace node index → time_of trace node ≡ None
time_of-absent trace node index fits =
    time_of-none trace node
    (λ k d within same. ⊎_elim (λ before. omega (arith, same, fits.before k d (omega arith) before)) (λ beyond. omega (arith, same, fits.after k d beyond within)) (cases_lt k index))

-- ---- a time for a node

-- the three ways in which a trace gets a time
with_time-below : (node time : ℕ) (first : Activation) (others : List Activation) → node < first.node → with_time node time (first ∷ others) ≡ record { node = node; time = time } ∷ first ∷ others
with_time-below node time first others less = cond-true (ltb node first.node) _ _ (lt-ltb node first.node less)

with_time-here : (node time : ℕ) (first : Activation) (others : List Activation) → first.node ≡ node → with_time node time (first ∷ others) ≡ record { node = node; time = time } ∷ others
with_time-here node time first others same =
    cond-false (ltb node first.node) _ _ (le-ltb node first.node (omega (arith, same))) ∙ cond-true (eqb node first.node) _ _ (eq-eqb node first.node (sym same))

pub with_time-above : (node time : ℕ) (first : Activation) (others : List Activation) → first.node < node → with_time node time (first ∷ others) ≡ first ∷ with_time node time others
with_time-above node time first others above =
    cond-false (ltb node first.node) _ _ (le-ltb node first.node (omega (arith, above)))
    ∙ cond-false (eqb node first.node) _ _ (ne_eqb node first.node (λ same. omega (arith, above, same)))

-- to give a time to a node that stands at an index is to write there
pub with_time-stands : (trace : List Activation) (node time index : ℕ) → StandsAt trace node index → set trace index (record { node = node; time = time }) ≡ with_time node time trace
with_time-stands [] node time index stands = absurd (omega (arith, stands.in_range))
with_time-stands (first ∷ others) node time zero stands = sym (with_time-here node time first others (stands.here first))
with_time-stands (first ∷ others) node time (suc index) stands =
    ap (λ rest. first ∷ rest) (with_time-stands others node time index (StandsAt-tail first others node index stands))
    ∙ sym (with_time-above node time first others (stands.before 0 first (omega arith) (omega arith)))

-- to give a time to a node that does not stand in the trace is to insert it
pub with_time-absent : (trace : List Activation) (node time index : ℕ) → IsInsertedAt trace node index → insert trace index (record { node = node; time = time }) ≡ with_time node time trace
with_time-absent [] node time zero fits = refl
with_time-absent [] node time (suc index) fits = absurd (omega (arith, fits.in_range))
with_time-absent (first ∷ others) node time zero fits = sym (with_time-below node time first others (fits.after 0 first (omega arith) (omega arith)))
with_time-absent (first ∷ others) node time (suc index) fits =
    ap (λ rest. first ∷ rest) (with_time-absent others node time index (IsInsertedAt-tail first others node index fits))
    ∙ sym (with_time-above node time first others (fits.before 0 first (omega arith) (omega arith)))

-- ---- what a trace with one time more says

-- what holds in each of the three ways in which a trace gets a time holds of it
with_time_cases : (P : List Activation → Type 0) (node time : ℕ) (first : Activation) (others : List Activation)
    → (node < first.node → P (record { node = node; time = time } ∷ first ∷ others))
    → (first.node ≡ node → P (record { node = node; time = time } ∷ others))
    → (first.node < node → P (first ∷ with_time node time others))
    → P (with_time node time (first ∷ others))
with_time_cases P node time first others below here above =
    cond_both (ltb node first.node) _ _ P (λ less. below (ltb-true node first.node less))
    (λ not_less. cond_both (eqb node first.node) _ _ P (λ equal. here (sym (eqb-true node first.node equal)))
    (λ unequal. above (omega (arith, ltb-false node first.node not_less, eqb-false node first.node unequal))))

-- The node has that time then.
pub time_of-with_time : (trace : List Activation) (node time : ℕ) → time_of (with_time node time trace) node ≡ Some time
time_of-with_time [] node time = cond-true (eqb node node) _ _ (eq-eqb node node refl)
time_of-with_time (first ∷ others) node time =
    with_time_cases (λ more. time_of more node ≡ Some time) node time first others
    (λ below. cond-true (eqb node node) _ _ (eq-eqb node node refl))
    (λ here. cond-true (eqb node node) _ _ (eq-eqb node node refl))
    (λ above. cond-false (eqb first.node node) _ _ (ne_eqb first.node node (λ same. omega (arith, above, same))) ∙ time_of-with_time others node time)

-- Each other node keeps what it had.
pub time_of-with_time_other : (trace : List Activation) (node time other : ℕ) → node ≢ other → time_of (with_time node time trace) other ≡ time_of trace other
time_of-with_time_other [] node time other unlike = cond-false (eqb node other) _ _ (ne_eqb node other unlike)
time_of-with_time_other (first ∷ others) node time other unlike =
    with_time_cases (λ more. time_of more other ≡ time_of (first ∷ others) other) node time first others
    (λ below. cond-false (eqb node other) _ _ (ne_eqb node other unlike))
    (λ here. cond-false (eqb node other) _ _ (ne_eqb node other unlike)
    ∙ sym (cond-false (eqb first.node other) _ _ (ne_eqb first.node other (λ same. unlike (sym here ∙ same)))))
    (λ above. ap (λ rest. cond (eqb first.node other) (Some first.time) rest) (time_of-with_time_other others node time other unlike))

-- The nodes of a trace with one time more are that node and its own.
with_time-only : (trace : List Activation) (node time : ℕ) (activation : Activation) → Contains (with_time node time trace) activation → (activation.node ≡ node) ⊎ Contains trace activation
with_time-only [] node time activation member =
    ⊎_elim (λ new. inl (ap (λ one. one.node) (sym new))) (λ none. absurd (Contains-nil activation none)) (Contains-cons_cases _ [] activation member)
with_time-only (first ∷ others) node time activation member =
    with_time_cases (λ more. Contains more activation → (activation.node ≡ node) ⊎ Contains (first ∷ others) activation) node time first others
    (λ below member. ⊎_elim (λ new. inl (ap (λ one. one.node) (sym new))) (λ old. inr old) (Contains-cons_cases _ (first ∷ others) activation member))
    (λ here member. ⊎_elim (λ new. inl (ap (λ one. one.node) (sym new))) (λ old. inr (Contains-tail first others activation old)) (Contains-cons_cases _ others activation member))
    (λ above member. ⊎_elim (λ head. inr (rw (← head) (Contains-head first others)))
    (λ rest. ⊎_elim (λ new. inl new) (λ old. inr (Contains-tail first others activation old)) (with_time-only others node time activation rest))
    (Contains-cons_cases first (with_time node time others) activation member))
    member

-- A trace with one time more is still by rising nodes.
pub IsRisingByNode-with_time : (trace : List Activation) (node time : ℕ) → IsRisingByNode trace → IsRisingByNode (with_time node time trace)
IsRisingByNode-with_time [] node time rising = AllPairs-cons (λ earlier later. earlier.node < later.node) _ [] (λ k d within. absurd (omega arith)) rising
IsRisingByNode-with_time (first ∷ others) node time rising =
    let R = λ (earlier : Activation) (later : Activation). earlier.node < later.node in
    let beyond = AllPairs-head R first others rising in
    let rest = AllPairs-tail R first others rising in
    with_time_cases IsRisingByNode node time first others
    (λ below. AllPairs-cons R _ (first ∷ others) (All-cons (λ later. node < later.node) first others below (All-weaker (R first) (R (record { node = node; time = time })) (λ later above. omega (arith, below, above)) others beyond)) rising)
    (λ here. AllPairs-cons R _ others (All-weaker (R first) (R (record { node = node; time = time })) (λ later above. omega (arith, here, above)) others beyond) rest)
    (λ above. AllPairs-cons R first (with_time node time others)
    (All-from_members (λ later. first.node < later.node) (with_time node time others)
    (λ later member. ⊎_elim (λ new. omega (arith, above, new)) (λ old. All-contains (λ later. first.node < later.node) others later beyond old) (with_time-only others node time later member)))
    (IsRisingByNode-with_time others node time rest))

-- What is known node by node of a trace that one time was set in.
pub TimesAfter-with_time : (trace more : List Activation) (node time : ℕ) → more ≡ with_time node time trace → TimesAfter trace more node time
TimesAfter-with_time trace more node time is = record {
  here = ap (λ trace. time_of trace node) is ∙ time_of-with_time trace node time;
  elsewhere = λ other unlike. ap (λ trace. time_of trace other) is ∙ time_of-with_time_other trace node time other unlike;
}
