-- Sums of bounds: along a way of links they are at most what the values fall, and along a chain of constraints that are
-- met at least what the times fall. So a negative cycle leaves no solution.
use Rattle.std.proofs.Common.{◌≡◌, ◌≢◌, ℕ, ◌<◌, List, [], ◌∷◌, ◌++◌, map, fold, Some, refl, sym, ◌∙◌, subst, arith}
use Rattle.std.specs.Prelude.{ℤ, slice_get, slice_index, All, AllPairs, pos, ◌+ℤ◌, ◌≤ℤ◌, ◌<ℤ◌}
use Rattle.std.proofs.lemmas.Int.{ints}
use Rattle.std.proofs.lemmas.List.Elements.{All-head, All-tail, All-weaker}
use Rattle.tfpg_base.specs.declared.constraint.Constraint.{Constraint}
use Rattle.tfpg_base.specs.ConstraintCycle.{IsChainTo}
use Rattle.tfpg_diff.specs.declared.demand.Demand.{Demand}
use Rattle.tfpg_diff.specs.declared.why.Why.{Why}
use Rattle.tfpg_diff.specs.Demands.{Demands, Demanded}
use Rattle.tfpg_diff.specs.Solution.{HasNoSolution}
use Rattle.tfpg_diff.specs.Cycle.{constraints_of, IsNegativeCycleOf, NamesNegativeCycle}
use Rattle.tfpg_diff.specs.inside.Kept.{IsMetBy, Climbs}
use Rattle.tfpg_base.proofs.lemmas.lists.Images.{AllPairs-map}
use Rattle.tfpg_diff.proofs.lemmas.Solutions.{IsMetBy-solution}

-- The constraints lead from one number to another: each left side is the right side of the one before.
abbrev pub Chains : ℕ → List Demand → ℕ → Type 0
Chains from [] to = from ≡ to
Chains from (e ∷ es) to = (e.constraint.left ≡ from) × Chains e.constraint.right es to

-- the sum of the bounds
abbrev pub total_of : List Demand → ℤ
total_of [] = pos 0
total_of (e ∷ es) = e.constraint.most +ℤ total_of es

-- Each number that has a link has at least the value that the link allows.
abbrev pub IsTight : List ℕ → List Demand → Type 0
IsTight values links = (x : ℕ) (e : Demand) → 0 < x → slice_get links x ≡ Some e →
    (pos (slice_index values e.constraint.right) +ℤ e.constraint.most) ≤ℤ pos (slice_index values x)

-- the sum of one list after another
pub total_of-append : (es fs : List Demand) → total_of (es ++ fs) ≡ total_of es +ℤ total_of fs
total_of-append [] fs = omega (arith, ints)
total_of-append (e ∷ es) fs = let rest = total_of-append es fs in omega (arith, ints)

-- along a way the bounds sum up to at most what the values fall
pub total_of-Climbs : (values : List ℕ) (links : List Demand) (tight : IsTight values links) (x : ℕ) (es : List Demand) (y : ℕ) →
    Climbs links x es y → (pos (slice_index values y) +ℤ total_of es) ≤ℤ pos (slice_index values x)
total_of-Climbs values links tight x [] y climb =
    subst (λ (n : ℕ). (pos (slice_index values n) +ℤ pos 0) ≤ℤ pos (slice_index values x)) climb (omega (arith, ints))
total_of-Climbs values links tight x (e ∷ es) y climb =
    let here = tight x e climb.0 climb.1 in
    let rest = total_of-Climbs values links tight e.constraint.right es y climb.2 in
    omega (arith, ints)

-- along a chain of constraints that are met the bounds sum up to at least what the times fall
total_of-Chains : (times : List ℕ) (x : ℕ) (es : List Demand) (y : ℕ) → Chains x es y → All (IsMetBy times) es →
    pos (slice_index times x) ≤ℤ (pos (slice_index times y) +ℤ total_of es)
total_of-Chains times x [] y chains met =
    subst (λ (n : ℕ). pos (slice_index times x) ≤ℤ (pos (slice_index times n) +ℤ pos 0)) chains (omega (arith, ints))
total_of-Chains times x (e ∷ es) y chains met =
    let here : IsMetBy times e = All-head (IsMetBy times) e es met in
    let rest = total_of-Chains times e.constraint.right es y chains.1 (All-tail (IsMetBy times) e es met) in
    subst (λ (n : ℕ). pos (slice_index times n) ≤ℤ (pos (slice_index times y) +ℤ (e.constraint.most +ℤ total_of es))) chains.0 (omega (arith, ints))

-- the sum of the bounds, as cycles have it
sum_of-total : (start : ℤ) (es : List Demand) →
    fold (λ (total : ℤ) (constraint : Constraint). total +ℤ constraint.most) start (constraints_of es) ≡ start +ℤ total_of es
sum_of-total start [] = omega (arith, ints)
sum_of-total start (e ∷ es) = let rest = sum_of-total (start +ℤ e.constraint.most) es in rest ∙ omega (arith, ints)

-- the constraints of a chain, as cycles have it
IsChainTo-Chains : (x : ℕ) (e : Demand) (es : List Demand) (y : ℕ) → Chains x (e ∷ es) y → IsChainTo y (constraints_of (e ∷ es))
IsChainTo-Chains x e [] y chains = chains.1
IsChainTo-Chains x e (f ∷ fs) y chains = (sym chains.1.0, IsChainTo-Chains e.constraint.right f fs y chains.1)

-- and back
Chains-IsChainTo : (e : Demand) (es : List Demand) (y : ℕ) → IsChainTo y (constraints_of (e ∷ es)) → Chains e.constraint.left (e ∷ es) y
Chains-IsChainTo e [] y chain = (refl, chain)
Chains-IsChainTo e (f ∷ fs) y chain =
    (refl, subst (λ (n : ℕ). Chains n (f ∷ fs) y) (sym chain.0) (Chains-IsChainTo f fs y chain.1))

-- a chain from a number back to it is a negative cycle, where its sum is below 0 and no left side stands twice
pub NamesNegativeCycle-chain : (demands : Demands) (tags : List Why) (start : ℕ) (e : Demand) (es : List Demand) →
    map (λ (f : Demand). f.why) (e ∷ es) ≡ tags → All (Demanded demands) (e ∷ es) → Chains start (e ∷ es) start →
    AllPairs (λ (a b : Demand). a.constraint.left ≢ b.constraint.left) (e ∷ es) → total_of (e ∷ es) <ℤ pos 0 → NamesNegativeCycle demands tags
NamesNegativeCycle-chain demands tags start e es tags_are demanded chains simple negative =
    let total = sum_of-total (pos 0) (e ∷ es) in (
      e ∷ es,
      record {
        tags_are = tags_are;
        demanded = demanded;
        negative_cycle = record {
          chained = subst (λ (n : ℕ). IsChainTo n (constraints_of (e ∷ es))) (sym chains.0) (IsChainTo-Chains start e es start chains);
          negative = omega (arith, ints);
        };
        simple = AllPairs-map (λ (a b : Constraint). a.left ≢ b.left) (λ (f : Demand). f.constraint) (e ∷ es) simple;
      },
    )

-- a negative cycle leaves no solution
no_solution : (demands : Demands) (tags : List Why) (cycle : List Demand) → IsNegativeCycleOf demands tags cycle → HasNoSolution demands
no_solution demands tags [] cycle times solution = cycle.negative_cycle.chained
no_solution demands tags (e ∷ es) cycle times solution =
    let met : All (IsMetBy (0 ∷ times)) (e ∷ es) =
    All-weaker (Demanded demands) (IsMetBy (0 ∷ times)) (IsMetBy-solution demands times solution) (e ∷ es) cycle.demanded in
    let round = total_of-Chains (0 ∷ times) e.constraint.left (e ∷ es) e.constraint.left (Chains-IsChainTo e es e.constraint.left cycle.negative_cycle.chained) met in
    let total = sum_of-total (pos 0) (e ∷ es) in
    let negative = cycle.negative_cycle.negative in
    absurd (omega (arith, ints))

-- what names a negative cycle has no solution
pub HasNoSolution-cycle : (demands : Demands) (tags : List Why) → NamesNegativeCycle demands tags → HasNoSolution demands
HasNoSolution-cycle demands tags names = no_solution demands tags names.0 names.1

-- a way of links is a chain of constraints
pub Chains-Climbs : (links : List Demand) (labelled : (x : ℕ) (e : Demand) → 0 < x → slice_get links x ≡ Some e → e.constraint.left ≡ x)
    (x : ℕ) (es : List Demand) (y : ℕ) → Climbs links x es y → Chains x es y
Chains-Climbs links labelled x [] y climb = climb
Chains-Climbs links labelled x (e ∷ es) y climb =
    (labelled x e climb.0 climb.1, Chains-Climbs links labelled e.constraint.right es y climb.2)

-- one chain after another
pub Chains-append : (x : ℕ) (es : List Demand) (y : ℕ) (fs : List Demand) (z : ℕ) → Chains x es y → Chains y fs z → Chains x (es ++ fs) z
Chains-append x [] y fs z here there = subst (λ (n : ℕ). Chains n fs z) (sym here) there
Chains-append x (e ∷ es) y fs z here there = (here.0, Chains-append e.constraint.right es y fs z here.1 there)
