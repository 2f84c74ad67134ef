-- What the chain of the constraints of a cycle says of them.
use Rattle.std.proofs.Common.{◌≡◌, ℕ, List, [], ◌∷◌, ◌++◌, Bool, true, false, cond, Option, Some, None, refl, sym, ap, subst, ◌∙◌, arith, inl, inr}
use Rattle.std.specs.Prelude.{ℤ, pos, negsuc, ◌+ℤ◌, ◌<ℤ◌, ◌≤ℤ◌, fold, map, is_none, option_map, ◌&&◌, ◌==◌}
use Rattle.std.specs.Bool.{then_some}
use Rattle.std.proofs.Math.Bool.{and_assoc}
use Rattle.std.proofs.lemmas.Int.{ints}
use Rattle.std.proofs.lemmas.List.Sums.{fold_push}
use Rattle.std.proofs.lemmas.Bool.{eqb-true, eq-eqb, and_parts}
use Rattle.tfpg_base.specs.Choice.{first_of, each_of}
use Rattle.tfpg_base.specs.declared.constraint.Constraint.{Constraint}
use Rattle.tfpg_evidence.specs.declared.reason.Reason.{Reason}
use Rattle.tfpg_base.specs.ConstraintCycle.{IsChainTo, IsCycle, IsNegativeCycle, sum_of}
use Rattle.tfpg_kernel.specs.declared.chain.Chain.{Chain}
use Rattle.tfpg_kernel.specs.declared.chain.ClosingFault.{ClosingFault}
use Rattle.tfpg_kernel.specs.declared.chain.ClosingFault.TheVariants.{Unchained, NotNegative}
use Rattle.tfpg_kernel.specs.Breaks.{fault_of, reasons_fault, ClosingBreaks}
use Rattle.tfpg_kernel.specs.inside.Chains.{new_chain, with_constraint, chain_of, is_round, is_negative, closing_fault, bad_of}

-- the chain from a state on
abbrev chain_from : Chain → List Constraint → Chain
chain_from chain constraints = fold with_constraint chain constraints

-- The chain of some constraints and one more is that of the ones before, with that one.
pub chain_push : (constraints : List Constraint) (last : Constraint) → chain_of (constraints ++ last ∷ []) ≡ with_constraint (chain_of constraints) last
chain_push constraints last = fold_push with_constraint new_chain constraints last

sum_from : (chain : Chain) (constraints : List Constraint) → (chain_from chain constraints).sum ≡ fold (λ total constraint. total +ℤ constraint.most) chain.sum constraints
sum_from chain [] = refl
sum_from chain (c ∷ constraints) = sum_from (with_constraint chain c) constraints

sum_is : (constraints : List Constraint) → (chain_of constraints).sum ≡ sum_of constraints
sum_is constraints = sum_from new_chain constraints

-- whether the constraints go on from one number and end at another
abbrev chains : ℕ → ℕ → List Constraint → Bool
chains at end [] = end == at
chains at end (c ∷ constraints) = (at == c.left) && chains c.right end constraints

abbrev round_test : Chain → Bool
round_test chain = chain.unbroken && is_round chain.ends

round_from : (first last : ℕ) (unbroken : Bool) (sum : ℤ) (constraints : List Constraint)
    → round_test (chain_from (record { ends = Some (record { first = first; last = last }); unbroken = unbroken; sum = sum }) constraints) ≡ (unbroken && chains last first constraints)
round_from first last unbroken sum [] = refl
round_from first last unbroken sum (c ∷ constraints) =
    round_from first c.right (unbroken && (last == c.left)) (sum +ℤ c.most) constraints ∙ and_assoc unbroken (last == c.left) (chains c.right first constraints)

chained : (end : ℕ) (c : Constraint) (constraints : List Constraint) → chains c.right end constraints ≡ true → IsChainTo end (c ∷ constraints)
chained end c [] test = sym (eqb-true end c.right test)
chained end c (d ∷ constraints) test =
    let both = and_parts (c.right == d.left) (chains d.right end constraints) test in
    (eqb-true c.right d.left both.0, chained end d constraints both.1)

unchained : (end : ℕ) (c : Constraint) (constraints : List Constraint) → IsChainTo end (c ∷ constraints) → chains c.right end constraints ≡ true
unchained end c [] chain = eq-eqb end c.right (sym chain)
unchained end c (d ∷ constraints) chain =
    ap (λ (b : Bool). b && chains d.right end constraints) (eq-eqb c.right d.left chain.0) ∙ unchained end d constraints chain.1

cycle_of : (constraints : List Constraint) → round_test (chain_of constraints) ≡ true → IsCycle constraints
cycle_of [] test = cc
cycle_of (c ∷ constraints) test = chained c.left c constraints (sym (round_from c.left c.right true (pos 0 +ℤ c.most) constraints) ∙ test)

round_of : (constraints : List Constraint) → IsCycle constraints → round_test (chain_of constraints) ≡ true
round_of [] cycle = absurd cycle
round_of (c ∷ constraints) cycle = round_from c.left c.right true (pos 0 +ℤ c.most) constraints ∙ unchained c.left c constraints cycle

below_zero : (sum : ℤ) → is_negative sum ≡ true → sum <ℤ pos 0
below_zero (pos n) test = cc
below_zero (negsuc n) test = omega (arith, ints)

not_below_zero : (sum : ℤ) → is_negative sum ≡ false → pos 0 ≤ℤ sum
not_below_zero (pos n) test = omega (arith, ints)
not_below_zero (negsuc n) test = cc

-- No fault is left: the constraints are a negative cycle.
pub closes : (constraints : List Constraint) → closing_fault (chain_of constraints) ≡ None → IsNegativeCycle constraints
closes constraints none = by (round_test (chain_of constraints)) refl (is_negative (chain_of constraints).sum) refl none
  where
    by : (round : Bool) → round_test (chain_of constraints) ≡ round → (negative : Bool) → is_negative (chain_of constraints).sum ≡ negative
        → cond round (cond negative None (Some NotNegative)) (Some Unchained) ≡ None → IsNegativeCycle constraints
    by true round true negative none = record { chained = cycle_of constraints round; negative = subst (λ (s : ℤ). s <ℤ pos 0) (sum_is constraints) (below_zero (chain_of constraints).sum negative) }
    by true round false negative none = cc
    by false round negative is none = cc

-- A fault that is left is the first that they break.
pub breaks : (constraints : List Constraint) (fault : ClosingFault) → closing_fault (chain_of constraints) ≡ Some fault → ClosingBreaks constraints (bad_of fault)
breaks constraints fault some = by (round_test (chain_of constraints)) refl (is_negative (chain_of constraints).sum) refl some
  where
    by : (round : Bool) → round_test (chain_of constraints) ≡ round → (negative : Bool) → is_negative (chain_of constraints).sum ≡ negative
        → cond round (cond negative None (Some NotNegative)) (Some Unchained) ≡ Some fault → ClosingBreaks constraints (bad_of fault)
    by true round true negative some = cc
    by true round false negative some =
        let same : NotNegative ≡ fault = cc in
        subst (λ (f : ClosingFault). ClosingBreaks constraints (bad_of f)) same (inr (refl, cycle_of constraints round, subst (λ (s : ℤ). pos 0 ≤ℤ s) (sum_is constraints) (not_below_zero (chain_of constraints).sum negative)))
    by false round negative is some =
        let same : Unchained ≡ fault = cc in
        subst (λ (f : ClosingFault). ClosingBreaks constraints (bad_of f)) same (inl (refl, λ (cycle : IsCycle constraints). let both : true ≡ false = sym (round_of constraints cycle) ∙ round in cc))

-- the first reason that states nothing gives the fault
pub first_fault : (stated : Reason → Option Constraint) (front : List Reason) (reason : Reason) (rest : List Reason) (constraints : List Constraint)
    → each_of (map stated front) ≡ Some constraints → stated reason ≡ None → reasons_fault stated (front ++ reason ∷ rest) ≡ Some (fault_of reason)
first_fault stated [] reason rest constraints hold none =
    ap (λ (o : Option Constraint). first_of (then_some (is_none o) (fault_of reason) ∷ map (λ (r : Reason). then_some (is_none (stated r)) (fault_of r)) rest)) none
first_fault stated (r ∷ front) reason rest constraints hold none = by (λ cs kept. first_fault stated front reason rest cs kept none) (stated r) refl (each_of (map stated front)) refl hold
  where
    by : ((cs : List Constraint) → each_of (map stated front) ≡ Some cs → reasons_fault stated (front ++ reason ∷ rest) ≡ Some (fault_of reason))
        → (one : Option Constraint) → stated r ≡ one → (others : Option (List Constraint)) → each_of (map stated front) ≡ others → each_of (one ∷ map stated front) ≡ Some constraints
        → reasons_fault stated (r ∷ (front ++ reason ∷ rest)) ≡ Some (fault_of reason)
    by next None is others are whole = cc
    by next (Some c) is None are whole = let none_at : option_map (λ (xs : List Constraint). c ∷ xs) None ≡ Some constraints = ap (option_map (λ (xs : List Constraint). c ∷ xs)) (sym are) ∙ whole in cc
    by next (Some c) is (Some cs) are whole =
        ap (λ (o : Option Constraint). first_of (then_some (is_none o) (fault_of r) ∷ map (λ (x : Reason). then_some (is_none (stated x)) (fault_of x)) (front ++ reason ∷ rest))) is ∙ next cs are
