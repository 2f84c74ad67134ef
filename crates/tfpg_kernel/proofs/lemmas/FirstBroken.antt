-- A step breaks one condition first, and none where it is right.
use Rattle.std.proofs.Common.{◌≡◌, ℕ, List, [], ◌∷◌, Option, Some, None, refl, sym, ap, subst, ◌∙◌, inl, inr, arith}
use Rattle.std.specs.Prelude.{◌↔◌, map, option_map, is_none}
use Rattle.std.specs.Bool.{then_some}
use Rattle.std.proofs.lemmas.Int.{ints}
use Rattle.tfpg_base.specs.Choice.{first_of, each_of}
use Rattle.tfpg_base.specs.declared.constraint.Constraint.{Constraint}
use Rattle.tfpg_base.specs.ConstraintCycle.{IsNegativeCycle}
use Rattle.tfpg_evidence.specs.declared.reason.Reason.{Reason}
use Rattle.tfpg_evidence.specs.declared.step.Step.{Step}
use Rattle.tfpg_evidence.specs.declared.step.Step.TheVariants.{Split, Cycle, Again}
use Rattle.tfpg_clause.specs.Case.{Case, case_at}
use Rattle.tfpg_clause.specs.Laws.{PresentLeavesAreAlone, RefutationsAreNotPartial}
use Rattle.tfpg_clause.specs.Trees.{Judged, Chosen, TreePlace, stated, IsReusable, IsRightStep}
use Rattle.tfpg_kernel.specs.declared.taken.BadStep.{BadStep}
use Rattle.tfpg_kernel.specs.Breaks.{fault_of, reasons_fault, ClosingBreaks, CycleBreaks, BreaksAt, IsFirstBroken}

closing_unique : (constraints : List Constraint) (one other : BadStep) → ClosingBreaks constraints one → ClosingBreaks constraints other → one ≡ other
closing_unique constraints one other (inl a) (inl b) = a.0 ∙ sym b.0
closing_unique constraints one other (inl a) (inr b) = absurd (a.1 b.1)
closing_unique constraints one other (inr a) (inl b) = absurd (b.1 a.1)
closing_unique constraints one other (inr a) (inr b) = a.0 ∙ sym b.0

closing_wrong : (constraints : List Constraint) (bad : BadStep) → ClosingBreaks constraints bad → IsNegativeCycle constraints → ⊥
closing_wrong constraints bad (inl a) cycle = a.1 cycle.chained
closing_wrong constraints bad (inr a) cycle = let not = a.2 in let negative = cycle.negative in omega (arith, ints)

-- where each reason states a constraint, none is at fault
no_fault : (states : Reason → Option Constraint) (reasons : List Reason) (constraints : List Constraint) → each_of (map states reasons) ≡ Some constraints → reasons_fault states reasons ≡ None
no_fault states [] constraints hold = refl
no_fault states (r ∷ reasons) constraints hold = by (λ cs kept. no_fault states reasons cs kept) (states r) refl (each_of (map states reasons)) refl hold
  where
    by : ((cs : List Constraint) → each_of (map states reasons) ≡ Some cs → reasons_fault states reasons ≡ None)
        → (one : Option Constraint) → states r ≡ one → (others : Option (List Constraint)) → each_of (map states reasons) ≡ others → each_of (one ∷ map states reasons) ≡ Some constraints
        → reasons_fault states (r ∷ reasons) ≡ None
    by next None is others are whole = cc
    by next (Some c) is None are whole = let none_at : option_map (λ (xs : List Constraint). c ∷ xs) None ≡ Some constraints = ap (option_map (λ (xs : List Constraint). c ∷ xs)) (sym are) ∙ whole in cc
    by next (Some c) is (Some cs) are whole =
        ap (λ (o : Option Constraint). first_of (then_some (is_none o) (fault_of r) ∷ map (λ (x : Reason). then_some (is_none (states x)) (fault_of x)) reasons)) is ∙ next cs are

cycle_unique : (states : Reason → Option Constraint) (reasons : List Reason) (one other : BadStep) → CycleBreaks states reasons one → CycleBreaks states reasons other → one ≡ other
cycle_unique states reasons one other (inl a) (inl b) = cc
cycle_unique states reasons one other (inl a) (inr b) = let none = no_fault states reasons b.0 b.1 in cc
cycle_unique states reasons one other (inr a) (inl b) = let none = no_fault states reasons a.0 a.1 in cc
cycle_unique states reasons one other (inr a) (inr b) =
    let both : Some a.0 ≡ Some b.0 = sym a.1 ∙ b.1 in
    let same : a.0 ≡ b.0 = cc in
    closing_unique b.0 one other (subst (λ (cs : List Constraint). ClosingBreaks cs one) same a.2) b.2

cycle_wrong : (states : Reason → Option Constraint) (reasons : List Reason) (bad : BadStep) → CycleBreaks states reasons bad
    → (constraints : List Constraint) → each_of (map states reasons) ≡ Some constraints → IsNegativeCycle constraints → ⊥
cycle_wrong states reasons bad (inl a) constraints hold cycle = let none = no_fault states reasons constraints hold in cc
cycle_wrong states reasons bad (inr a) constraints hold cycle =
    let both : Some a.0 ≡ Some constraints = sym a.1 ∙ hold in
    let same : a.0 ≡ constraints = cc in
    closing_wrong constraints bad (subst (λ (cs : List Constraint). ClosingBreaks cs bad) same a.2) cycle

module _ (case : Case) where
  -- A step breaks one condition first.
  pub breaks_unique : (place : TreePlace) (step : Step) (one other : BadStep) → BreaksAt case place step one → BreaksAt case place step other → one ≡ other
  breaks_unique place (Split name) one other a b = a.0 ∙ sym b.0
  breaks_unique place (Cycle reasons) one other a b = cycle_unique (stated case place.path) reasons one other a b
  breaks_unique place Again one other a b = a.0 ∙ sym b.0

  -- A step that breaks a condition is not right.
  pub breaks_wrong : (place : TreePlace) (subtrees : ℕ) (step : Step) (bad : BadStep) → BreaksAt case place step bad → IsRightStep case place subtrees step → ⊥
  breaks_wrong place subtrees (Split name) bad breaks right = let both : None ≡ Some subtrees = sym breaks.1 ∙ right in cc
  breaks_wrong place subtrees (Cycle reasons) bad breaks right = cycle_wrong (stated case place.path) reasons bad breaks right.constraints right.hold right.negative_cycle
  breaks_wrong place subtrees Again bad breaks right = breaks.1 right

  -- What it breaks in a place it breaks in each place with the same path, where as much is reusable.
  pub breaks_alike : (one other : TreePlace) → (one.path ≡ other.path) × (IsReusable one ↔ IsReusable other) → (step : Step) (bad : BadStep) → BreaksAt case one step bad → BreaksAt case other step bad
  breaks_alike one other alike (Split name) bad breaks = breaks
  breaks_alike one other alike (Cycle reasons) bad breaks = subst (λ (path : List Chosen). CycleBreaks (stated case path) reasons bad) alike.0 breaks
  breaks_alike one other alike Again bad breaks = (breaks.0, λ reusable. breaks.1 (alike.1.1 reusable))

-- So does the step that comes next after these steps.
pub first_broken_unique : PresentLeavesAreAlone → RefutationsAreNotPartial → (case : Case) (steps : List Judged) (next : Judged) (one other : BadStep) → IsFirstBroken case steps next one
    → IsFirstBroken case steps next other → one ≡ other
first_broken_unique only_one finished case steps next one other (inl a) (inl b) = a.0 ∙ sym b.0
first_broken_unique only_one finished case steps next one other (inl a) (inr b) = absurd (finished case steps a.1 b.1.partial)
first_broken_unique only_one finished case steps next one other (inr a) (inl b) = absurd (finished case steps b.1 a.1.partial)
first_broken_unique only_one finished case steps next one other (inr a) (inr b) =
    breaks_unique (case_at case next.seen) b.0 next.step one other (breaks_alike (case_at case next.seen) a.0 b.0 (only_one case steps a.0 b.0 a.1 b.1) next.step one a.2) b.2
