-- A trace without the probe, and with it.
use Rattle.std.proofs.Common.{◌≡◌, ◌≢◌, ℕ, ◌+◌, ◌<◌, ◌==◌, Bool, true, false, cond, not, List, [], ◌∷◌, ◌++◌, length, take, get_or, All, Contains, Some, refl, sym, ap, ◌∙◌, subst, arith}
use Rattle.std.proofs.lemmas.Bool.{eqb-true, ne_eqb, eq-eqb, false≢true}
use Rattle.std.proofs.lemmas.List.Elements.{All-filter, All-get_or, All-weaker, All-head, All-tail, Contains-push, filter_more}
use Rattle.std.proofs.lemmas.List.{append-nil, length-take-le, get_or-take, get_or_default}
use Rattle.std.proofs.lemmas.List.Kept.{AllPairs-filter}
use Rattle.std.proofs.lemmas.List.Quantifiers.{all_pairs_push}
use Rattle.tfpg_base.specs.declared.activation.Activation.{Activation}
use Rattle.tfpg_base.specs.Trace.{IsRisingByNode, time_of, with_time}
use Rattle.tfpg_base.proofs.lemmas.Traces.{with_time-above}
use Rattle.tfpg_base.proofs.lemmas.TraceTimes.{time_there}
use Rattle.tfpg_base.proofs.lemmas.lists.Elements.{All-from_members, Contains-at}
use Rattle.tfpg_base.proofs.lemmas.lists.Filtered.{filter-push_no, filter-all}
use Rattle.tfpg_base.proofs.lemmas.lists.Passing.{Contains-filter_only}
use Rattle.tfpg_predict.specs.Probed.{without_probe}

module _ (probe : ℕ) where
  abbrev is_other : Activation → Bool
  is_other activation = not (activation.node == probe)

  -- another node has the time that it had
  pub time_without : (trace : List Activation) (node : ℕ) → node ≢ probe → time_of (without_probe probe trace) node ≡ time_of trace node
  time_without [] node other = refl
  time_without (first ∷ others) node other = by (first.node == probe) refl (time_without others node other)
    where
      by : (b : Bool) → (first.node == probe) ≡ b → time_of (without_probe probe others) node ≡ time_of others node
          → time_of (cond (not b) (first ∷ without_probe probe others) (without_probe probe others)) node ≡ time_of (first ∷ others) node
      by true same rest =
          rest ∙ sym (ap (λ b. cond b (Some first.time) (time_of others node))
          (ne_eqb first.node node (λ is. other (sym is ∙ eqb-true first.node probe same))))
      by false differs rest = ap (cond (first.node == node) (Some first.time)) rest

  pub rising_without : (trace : List Activation) → IsRisingByNode trace → IsRisingByNode (without_probe probe trace)
  rising_without trace rising = AllPairs-filter (λ earlier later. earlier.node < later.node) is_other trace rising

  -- what holds of each activation of another node
  pub all_without : (P : Activation → Type 0) (trace : List Activation) → ((activation : Activation) → Contains trace activation → activation.node ≢ probe → P activation)
      → All P (without_probe probe trace)
  all_without P trace each = All-from_members P (without_probe probe trace) (λ activation among.
      let found = Contains-filter_only is_other trace activation among in
      each activation (Contains-at trace found.0 activation found.1) (λ same. false≢true (ap not (sym (eq-eqb activation.node probe same)) ∙ found.2)))

  -- each activation of another node is among those without the probe
  module _ (trace : List Activation) (below : All (λ activation. activation.node < probe) trace) (time : ℕ) where
    abbrev pub with_it : List Activation
    with_it = trace ++ record { node = probe; time = time } ∷ []

    pub without_with : without_probe probe with_it ≡ trace
    without_with =
        filter-push_no is_other trace (record { node = probe; time = time }) (ap not (eq-eqb probe probe refl))
        ∙ filter-all is_other trace (All-weaker (λ (a : Activation). a.node < probe) (λ a. is_other a ≡ true)
        (λ a less. ap not (ne_eqb a.node probe (λ same. omega (arith, same, less)))) trace below)

    pub time_other : (node : ℕ) → node ≢ probe → time_of with_it node ≡ time_of trace node
    time_other node other = sym (time_without with_it node other) ∙ ap (λ (t : List Activation). time_of t node) without_with

    pub rising_with : IsRisingByNode trace → IsRisingByNode with_it
    rising_with rising = all_pairs_push (λ (earlier : Activation) (later : Activation). earlier.node < later.node) trace (record { node = probe; time = time }) rising
        (λ k d within. All-get_or (λ (a : Activation). a.node < probe) trace k d within below)

    pub time_probe : IsRisingByNode trace → time_of with_it probe ≡ Some time
    time_probe rising = time_there with_it (rising_with rising) (record { node = probe; time = time }) (Contains-push trace (record { node = probe; time = time }))

-- a node above all others stands at the end
with_time-last : (node time : ℕ) (trace : List Activation) → All (λ activation. activation.node < node) trace → with_time node time trace ≡ trace ++ record { node = node; time = time } ∷ []
with_time-last node time [] below = refl
with_time-last node time (first ∷ others) below =
    with_time-above node time first others (All-head (λ (a : Activation). a.node < node) first others below)
    ∙ ap (λ (rest : List Activation). first ∷ rest) (with_time-last node time others (All-tail (λ (a : Activation). a.node < node) first others below))

-- One activation more without the probe.
pub without_more : (probe : ℕ) (trace : List Activation) (index : ℕ) (d : Activation) → IsRisingByNode trace → index < length trace → (before after : List Activation)
    → before ≡ without_probe probe (take index trace)
    → after ≡ cond ((get_or trace index d).node == probe) before (with_time (get_or trace index d).node (get_or trace index d).time before)
    → after ≡ without_probe probe (take (index + 1) trace)
without_more probe trace index d rising within before after is more =
    by ((get_or trace index d).node == probe) more
    ∙ sym (filter_more (λ (a : Activation). not (a.node == probe)) trace index d within)
  where
    below : All (λ (a : Activation). a.node < (get_or trace index d).node) (without_probe probe (take index trace))
    below = All-filter (λ (a : Activation). not (a.node == probe)) (λ (a : Activation). a.node < (get_or trace index d).node) (take index trace)
        (λ k e inside.
        let short = length-take-le index trace (omega (arith, within)) in
        let early : k < index = omega (arith, inside, short) in
        subst (λ (a : Activation). a.node < (get_or trace index d).node) (sym (get_or-take index trace k e early))
        (subst (λ (a : Activation). a.node < (get_or trace index d).node) (get_or_default trace k d e (omega (arith, early, within))) (rising k index d early within)))

    by : (b : Bool) → after ≡ cond b before (with_time (get_or trace index d).node (get_or trace index d).time before)
        → after ≡ without_probe probe (take index trace) ++ cond (not b) (get_or trace index d ∷ []) []
    by true same = same ∙ is ∙ sym (append-nil (without_probe probe (take index trace)))
    by false next = next ∙ ap (with_time (get_or trace index d).node (get_or trace index d).time) is
        ∙ with_time-last (get_or trace index d).node (get_or trace index d).time (without_probe probe (take index trace)) below
