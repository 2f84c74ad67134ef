use Rattle.std.proofs.Common.{◌≡◌, ℕ, suc, ◌+◌, ◌<◌, length, take, get_or, List, [], Some, ap, sym, ◌∙◌, refl, arith, ◌++◌, ◌∷◌, None, drop, inl, inr, subst}
use Rattle.std.specs.Prelude.{map, Ok, Err, Option}
use Rattle.std.specs.Option.{ok_or}
use Rattle.std.proofs.lemmas.Int.{ints}
use Rattle.std.proofs.Math.Seq.{take-suc, drop-cons}
use Rattle.std.proofs.lemmas.List.{take-append-drop, take_all}
use Rattle.tfpg_base.specs.Choice.{each_of}
use Rattle.tfpg_base.specs.declared.constraint.Constraint.{Constraint}
use Rattle.tfpg_evidence.specs.declared.reason.Reason.{Reason}
use Rattle.tfpg_evidence.specs.declared.reason.Reason.TheVariants.{Zero}
use Rattle.std.proofs.lemmas.Result.{err_from_is_err_and}
use Rattle.tfpg_kernel.specs.declared.chain.Chain.{Chain}
use Rattle.tfpg_kernel.specs.declared.taken.BadStep.{BadStep}
use Rattle.tfpg_kernel.specs.Breaks.{fault_of, reasons_fault, CycleBreaks}
use Rattle.tfpg_kernel.specs.inside.Chains.{chain_of, with_constraint, closing_fault, bad_of}
use Rattle.tfpg_clause.specs.Case.{case_of}
use Rattle.tfpg_clause.specs.Trees.{stated}
use Rattle.tfpg_clause.specs.Paths.{chosen_on}
use Rattle.tfpg_base.proofs.lemmas.lists.Choices.{each_of-map_push, ok_or-err, ok_or-ok}
use Rattle.tfpg_kernel.proofs.lemmas.Chained.{chain_push, closes, breaks, first_fault}
use Rattle.tfpg_kernel.proofs.cycle.check_cycle.Goals as goal

module _ (states : Reason → Option Constraint) (reasons : List Reason) where
  at_fault : (k : ℕ) (d : Reason) (bad : BadStep) (constraints : List Constraint) → k < length reasons → each_of (map states (take k reasons)) ≡ Some constraints
      → ok_or (states (get_or reasons k d)) (fault_of (get_or reasons k d)) ≡ Err bad → CycleBreaks states reasons bad
  at_fault k d bad constraints within hold is =
      let reason : Reason = get_or reasons k d in
      let none = ok_or-err (states reason) (fault_of reason) bad is in
      let whole : take k reasons ++ reason ∷ drop (suc k) reasons ≡ reasons = ap (λ (rs : List Reason). take k reasons ++ rs) (sym (drop-cons reasons k d within)) ∙ take-append-drop k reasons in
      let found : reasons_fault states (take k reasons ++ reason ∷ drop (suc k) reasons) ≡ Some (fault_of reason) = first_fault states (take k reasons) reason (drop (suc k) reasons) constraints hold none.0 in
      inl (ap (reasons_fault states) (sym whole) ∙ found ∙ ap (λ (b : BadStep). Some b) none.1)

  one_more : (k : ℕ) (d : Reason) (c : Constraint) (constraints : List Constraint) → k < length reasons → each_of (map states (take k reasons)) ≡ Some constraints
      → ok_or (states (get_or reasons k d)) (fault_of (get_or reasons k d)) ≡ Ok c → each_of (map states (take (k + 1) reasons)) ≡ Some (constraints ++ c ∷ [])
  one_more k d c constraints within hold is =
      let reason : Reason = get_or reasons k d in
      let more : k + 1 ≡ suc k = omega arith in
      ap (λ (n : ℕ). each_of (map states (take n reasons))) more
      ∙ ap (λ (rs : List Reason). each_of (map states rs)) (take-suc reasons k d within)
      ∙ each_of-map_push states (take k reasons) reason constraints c hold (ok_or-ok (states reason) (fault_of reason) c is)

pub loop-reason-init : goal.loop-reason-init
loop-reason-init c = record { constraints = []; hold = refl; chain = refl; small = record { low = omega (arith, ints); high = omega (arith, ints) } }

pub returns-in_err-constraint : goal.returns-in_err-constraint
returns-in_err-constraint c =
    let states : Reason → Option Constraint = stated (case_of c.args.graph.now c.args.log.now c.args.reach.now) (chosen_on c.args.path.now) in
    let error = err_from_is_err_and c.from_residual.result c.from_residual.ensures.1 in
    let broken : CycleBreaks states c.args.reasons.now error.0 =
    at_fault states c.args.reasons.now c.loop-reason.reason-index (Zero 0) error.0 c.loop-reason.invariant.constraints c.loop-reason-test.true c.loop-reason.invariant.hold
    (sym c.stated_or_fault.ensures ∙ c.in_err-constraint.was ∙ ap (λ (bad : BadStep). Err bad) (sym error.2)) in
    rw error.1 broken

pub loop-reason-preserved : goal.loop-reason-preserved
loop-reason-preserved c =
    let states : Reason → Option Constraint = stated (case_of c.args.graph.now c.args.log.now c.args.reach.now) (chosen_on c.args.path.now) in
    let before = c.loop-reason.invariant in
    record {
      constraints = before.constraints ++ c.in_ok-constraint.constraint ∷ [];
      hold = one_more states c.args.reasons.now c.loop-reason.reason-index (Zero 0) c.in_ok-constraint.constraint before.constraints c.loop-reason-test.true before.hold (sym c.stated_or_fault.ensures ∙ c.in_ok-constraint.was);
      chain = c.with-chain.ensures.chain ∙ ap (λ (chain : Chain). with_constraint chain c.in_ok-constraint.constraint) before.chain ∙ sym (chain_push before.constraints c.in_ok-constraint.constraint);
      small = c.with-chain.ensures.small c.loop-reason.reason-index before.small;
    }

pub returns-in-None : goal.returns-in-None
returns-in-None c =
    let constraints = c.loop-reason.invariant.constraints in
    let chain = c.loop-reason.invariant.chain in
    let states : Reason → Option Constraint = stated (case_of c.args.graph.now c.args.log.now c.args.reach.now) (chosen_on c.args.path.now) in
    let all : take c.loop-reason.reason-index c.args.reasons.now ≡ c.args.reasons.now = take_all c.loop-reason.reason-index c.args.reasons.now (omega arith) in
    let none : closing_fault (chain_of constraints) ≡ None = ap closing_fault (sym chain) ∙ sym c.fault.ensures ∙ c.in-None.is in
    record {
      constraints = constraints;
      hold = ap (λ (rs : List Reason). each_of (map states rs)) (sym all) ∙ c.loop-reason.invariant.hold;
      negative_cycle = closes constraints none;
    }

pub returns-in-Some : goal.returns-in-Some
returns-in-Some c =
    let constraints = c.loop-reason.invariant.constraints in
    let chain = c.loop-reason.invariant.chain in
    let states : Reason → Option Constraint = stated (case_of c.args.graph.now c.args.log.now c.args.reach.now) (chosen_on c.args.path.now) in
    let all : take c.loop-reason.reason-index c.args.reasons.now ≡ c.args.reasons.now = take_all c.loop-reason.reason-index c.args.reasons.now (omega arith) in
    let some : closing_fault (chain_of constraints) ≡ Some c.in-Some.fault = ap closing_fault (sym chain) ∙ sym c.in-Some.ensures in
    let broken : CycleBreaks states c.args.reasons.now (bad_of c.in-Some.fault) =
    inr (constraints, ap (λ (rs : List Reason). each_of (map states rs)) (sym all) ∙ c.loop-reason.invariant.hold, breaks constraints c.in-Some.fault some) in
    subst (CycleBreaks states c.args.reasons.now) (sym c.from.ensures) broken
