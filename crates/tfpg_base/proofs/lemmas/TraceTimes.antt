-- The times of a trace are those of its activations.
use Rattle.std.proofs.Common.{◌≡◌, ℕ, ◌<◌, Bool, true, false, cond, eqb, List, [], ◌∷◌, Some, ◌⊎◌, inl, inr, refl, ap, ◌∙◌, arith}
use Rattle.std.specs.Prelude.{All, Contains}
use Rattle.std.proofs.lemmas.Bool.{eqb-true, cond-true, cond-false, eq-eqb, ne_eqb}
use Rattle.std.proofs.lemmas.List.Elements.{All-contains}
use Rattle.tfpg_base.specs.declared.activation.Activation.{Activation}
use Rattle.tfpg_base.specs.Trace.{IsRisingByNode, time_of}
use Rattle.tfpg_base.proofs.lemmas.lists.Elements.{Contains-tail, Contains-nil, Contains-cons_cases, AllPairs-head, AllPairs-tail}

-- a time that the trace gives a node is that of an activation
pub activation_there : (trace : List Activation) (node time : ℕ) → time_of trace node ≡ Some time → Contains trace (record { node = node; time = time })
activation_there [] node time at = cc
activation_there (first ∷ others) node time at = by (eqb first.node node) refl at (activation_there others node time)
  where
    by : (b : Bool) → eqb first.node node ≡ b → cond b (Some first.time) (time_of others node) ≡ Some time
        → (time_of others node ≡ Some time → Contains others (record { node = node; time = time }))
        → Contains (first ∷ others) (record { node = node; time = time })
    by true same is rest =
        let own : first.node ≡ node = eqb-true first.node node same in
        let when : first.time ≡ time = cc in
        (0, omega arith, λ i. record { node = own i; time = when i })
    by false other is rest = Contains-tail first others (record { node = node; time = time }) (rest is)

-- the trace gives the node of each activation its time
pub time_there : (trace : List Activation) → IsRisingByNode trace → (activation : Activation) → Contains trace activation → time_of trace activation.node ≡ Some activation.time
time_there [] rising activation member = absurd (Contains-nil activation member)
time_there (first ∷ others) rising activation member = by (Contains-cons_cases first others activation member) (time_there others (AllPairs-tail (λ earlier later. earlier.node < later.node) first others rising) activation)
  where
    by : (first ≡ activation) ⊎ Contains others activation → (Contains others activation → time_of others activation.node ≡ Some activation.time)
        → time_of (first ∷ others) activation.node ≡ Some activation.time
    by (inl same) rest =
        cond-true (eqb first.node activation.node) (Some first.time) (time_of others activation.node) (eq-eqb first.node activation.node (ap (λ (a : Activation). a.node) same))
        ∙ ap (λ (a : Activation). Some a.time) same
    by (inr more) rest =
        let less = All-contains (λ later. first.node < later.node) others activation (AllPairs-head (λ earlier later. earlier.node < later.node) first others rising) more in
        cond-false (eqb first.node activation.node) (Some first.time) (time_of others activation.node) (ne_eqb first.node activation.node (λ same. omega (arith, less, same)))
        ∙ rest more

-- what holds of all activations holds of one that a trace gives
pub time_holds : (P : Activation → Type 0) (trace : List Activation) (node time : ℕ) → All P trace → time_of trace node ≡ Some time → P (record { node = node; time = time })
time_holds P trace node time all is = All-contains P trace (record { node = node; time = time }) all (activation_there trace node time is)
