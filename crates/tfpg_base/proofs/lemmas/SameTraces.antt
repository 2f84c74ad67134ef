-- Traces that give each node the same time are equal.
use Rattle.std.proofs.Common.{◌≡◌, ◌⊎◌, ◌==◌, ℕ, ◌<◌, Bool, true, false, cond, List, [], ◌∷◌, All, Some, None, refl, sym, ap, ◌∙◌, arith, inl, inr}
use Rattle.std.proofs.lemmas.Bool.{eqb-true, eqb-false, eq-eqb, ne_eqb, cases_order}
use Rattle.std.proofs.lemmas.List.Elements.{All-cons}
use Rattle.std.proofs.lemmas.Option.{same_Some}
use Rattle.tfpg_base.specs.declared.activation.Activation.{Activation}
use Rattle.tfpg_base.specs.Trace.{IsRisingByNode, time_of}
use Rattle.tfpg_base.proofs.lemmas.Traces.{time_of-none}
use Rattle.tfpg_base.proofs.lemmas.lists.Elements.{AllPairs-head, AllPairs-tail}

abbrev activation_of : ℕ → ℕ → Activation
activation_of node time = record { node = node; time = time }

activations : (n m t s : ℕ) → n ≡ m → t ≡ s → activation_of n t ≡ activation_of m s
activations n m t s e f = λ i. activation_of (e i) (f i)

-- a node before all others has no time
absent : (trace : List Activation) (node : ℕ) → All (λ activation. node < activation.node) trace → time_of trace node ≡ None
absent trace node before = time_of-none trace node (λ k d within is. omega (arith, is, before k d within))

-- the first node has its time
present : (first : Activation) (others : List Activation) → time_of (first ∷ others) first.node ≡ Some first.time
present first others = ap (λ (b : Bool). cond b (Some first.time) (time_of others first.node)) (eq-eqb first.node first.node refl)

module _ (first : Activation) (one : List Activation) (rising : IsRisingByNode (first ∷ one)) where
  later : All (λ activation. first.node < activation.node) one
  later = AllPairs-head (λ earlier later. earlier.node < later.node) first one rising

  -- what comes before it comes before all
  before_all : (node : ℕ) → node < first.node → All (λ activation. node < activation.node) (first ∷ one)
  before_all node lt = All-cons (λ activation. node < activation.node) first one lt (λ k d within. omega (arith, lt, later k d within))

-- Traces that give each node the same time are equal.
pub same_trace : (one other : List Activation) → IsRisingByNode one → IsRisingByNode other
    → ((node : ℕ) → time_of one node ≡ time_of other node) → one ≡ other
same_trace [] [] rising too same = refl
same_trace [] (second ∷ other) rising too same = let e : None ≡ Some second.time = same second.node ∙ present second other in absurd cc
same_trace (first ∷ one) [] rising too same = let e : Some first.time ≡ None = sym (present first one) ∙ same first.node in absurd cc
same_trace (first ∷ one) (second ∷ other) rising too same =
    by (cases_order first.node second.node)
    (same_trace one other (AllPairs-tail (λ earlier later. earlier.node < later.node) first one rising)
    (AllPairs-tail (λ earlier later. earlier.node < later.node) second other too))
  where
    tails : first.node ≡ second.node → (node : ℕ) (b : Bool) → (first.node == node) ≡ b → time_of one node ≡ time_of other node
    tails e node true is =
        let here : first.node ≡ node = eqb-true first.node node is in
        absent one node (λ k d within. omega (arith, here, later first one rising k d within))
        ∙ sym (absent other node (λ k d within. omega (arith, here, e, later second other too k d within)))
    tails e node false is =
        let there : (second.node == node) ≡ false = ne_eqb second.node node (λ s. eqb-false first.node node is (e ∙ s)) in
        sym (ap (λ (b : Bool). cond b (Some first.time) (time_of one node)) is) ∙ same node
        ∙ ap (λ (b : Bool). cond b (Some second.time) (time_of other node)) there

    by : (first.node ≡ second.node) ⊎ ((first.node < second.node) ⊎ (second.node < first.node))
        → (((node : ℕ) → time_of one node ≡ time_of other node) → one ≡ other) → first ∷ one ≡ second ∷ other
    by (inl e) rest =
        let time : first.time ≡ second.time =
        same_Some first.time second.time
        (sym (present first one) ∙ same first.node ∙ ap (time_of (second ∷ other)) e ∙ present second other) in
        let firsts : first ≡ second = activations first.node second.node first.time second.time e time in
        ap (λ (a : Activation). a ∷ one) firsts
        ∙ ap (λ (rest_of : List Activation). second ∷ rest_of) (rest (λ node. tails e node (first.node == node) refl))
    by (inr (inl lt)) rest =
        let e : Some first.time ≡ None =
        sym (present first one) ∙ same first.node ∙ absent (second ∷ other) first.node (before_all second other too first.node lt) in
        absurd cc
    by (inr (inr lt)) rest =
        let e : None ≡ Some second.time =
        sym (absent (first ∷ one) second.node (before_all first one rising second.node lt)) ∙ same second.node ∙ present second other in
        absurd cc
