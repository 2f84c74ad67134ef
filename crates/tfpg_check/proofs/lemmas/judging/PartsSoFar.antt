-- The parts so far, and what is kept after them.
use Rattle.std.proofs.Common.{◌≡◌, ◌≢◌, ◌≤◌, ◌<◌, ℕ, ◌+◌, ◌∷◌, [], ◌++◌, List, Bool, true, false, cond, Option, Some, None, length, take, get_or, slice_get, eqb, refl, sym, ap, subst, arith, ◌∙◌, append-nil}
use Rattle.std.specs.List.{All}
use Rattle.std.specs.Option.{option_or}
use Rattle.std.specs.Prelude.{find, option_map, unwrap_or}
use Rattle.std.proofs.lemmas.Bool.{eqb-true, eq-eqb, ne_eqb, false≢true}
use Rattle.std.proofs.lemmas.List.{take_all}
use Rattle.std.proofs.lemmas.List.Folds.{find-append}
use Rattle.tfpg_base.specs.Hypothesis.{Hypothesis}
use Rattle.tfpg_base.proofs.lemmas.lists.Cuts.{take-next}
use Rattle.tfpg_base.proofs.lemmas.lists.FirstFound.{find-All_fail}
use Rattle.tfpg_evidence.specs.declared.step.Step.{Step}
use Rattle.tfpg_clause.specs.Paths.{with_steps}
use Rattle.tfpg_kernel.specs.CheckerState.{CheckerState}
use Rattle.tfpg_kernel.specs.Represents.{CheckerRepresents}
use Rattle.tfpg_hyp.specs.Hypotheses.{Hypotheses}
use Rattle.tfpg_hyp.specs.Views.{log_for}
use Rattle.tfpg_report.specs.declared.read_round.Part.{Part}
use Rattle.tfpg_check.specs.declared.round_fault.RoundFault.{RoundFault}
use Rattle.tfpg_check.specs.declared.round_fault.RoundFault.TheVariants.{NotAccepted, NoMemory}
use Rattle.tfpg_check.specs.Tests.{InTurn}
use Rattle.tfpg_check.specs.Judging.{RoundBasis, IsNumberOf, PartFails}
use Rattle.tfpg_check.specs.HypothesesState.{HypothesesState, HasChecker, KeepsBasis}
use Rattle.tfpg_check.specs.Passing.{PartPasses}
use Rattle.tfpg_check.specs.inside.InTurn.{HoldBefore, PassesWith, IsFaultOf}
use Rattle.tfpg_check.specs.inside.Parts.{KeepsNumber, IsPartTaken, ArePartsTaken, kept_of, steps_among, after_parts}
use Rattle.tfpg_check.proofs.lemmas.judging.TestsInTurn.{hold_before_none, hold_before_more, hold_before_all, in_turn_fails}

-- The first parts are taken.
pub record AreFirstTaken (basis : RoundBasis) (parts : List Part) (end : ℕ) (state : HypothesesState) : Type 0 where
  pub passes : HoldBefore (PartPasses basis) parts end
  pub not_fails : HoldBefore (PassesWith (PartFails basis)) parts end
  pub keeps : KeepsBasis (after_parts basis (take end parts)) basis.log state

-- ---- the steps of a number

abbrev steps_of : Option Part → List Step
steps_of found = unwrap_or (option_map (λ (part : Part). part.steps) found) []

-- the first part with a number stands last
among_last : (before : List Part) (part : Part) → All (λ (earlier : Part). earlier.number < part.number) before → steps_among (before ++ part ∷ []) part.number ≡ part.steps
among_last before part less =
    let none : find (λ (p : Part). eqb p.number part.number) before ≡ None =
    find-All_fail (λ (p : Part). eqb p.number part.number) before
    (λ k d within. ne_eqb (get_or before k d).number part.number (λ same. let below = less k d within in omega (arith, below, same))) in
    ap steps_of
    (find-append (λ (p : Part). eqb p.number part.number) before (part ∷ [])
    ∙ (λ i. option_or (none i) (cond (eq-eqb part.number part.number refl i) (Some part) None)))

or_none : {X : Type 0} (found : Option X) → option_or found None ≡ found
or_none None = refl
or_none (Some x) = refl

-- a part with another number changes nothing
among_other : (before : List Part) (part : Part) (number : ℕ) → (part.number ≡ number → ⊥) → steps_among (before ++ part ∷ []) number ≡ steps_among before number
among_other before part number other =
    let found = find (λ (p : Part). eqb p.number number) before in
    ap steps_of
    (find-append (λ (p : Part). eqb p.number number) before (part ∷ []) ∙ (λ i. option_or found (cond (ne_eqb part.number number other i) (Some part) None)) ∙ or_none found)

-- ---- what is kept

module _ (basis : RoundBasis) (parts : List Part) (table : Hypotheses) where
  -- what was kept before the first part
  pub first_none : (checkers : List CheckerState) → KeepsBasis basis basis.log (kept_of basis.terms table checkers) → AreFirstTaken basis parts 0 (kept_of basis.terms table checkers)
  first_none checkers keeps = record {
    passes = hold_before_none (PartPasses basis) parts;
    not_fails = hold_before_none (PassesWith (PartFails basis)) parts;
    keeps = record {
      terms = keeps.terms;
      table = keeps.table;
      hypotheses = keeps.hypotheses;
      one_each = keeps.one_each;
      each = λ number hypothesis at. (let has = keeps.each number hypothesis at in record {
        checker = has.checker;
        at = has.at;
        reach = has.reach;
        represents = subst (CheckerRepresents basis.graph (log_for basis.log hypothesis) has.checker) (sym (append-nil (basis.steps number))) has.represents;
      });
    };
  }

  -- what is kept after one part more
  pub first_more : (end : ℕ) (part : Part) (checkers more : List CheckerState) → slice_get parts end ≡ Some part → AreFirstTaken basis parts end (kept_of basis.terms table checkers)
      → All (λ (earlier : Part). earlier.number < part.number) (take end parts) → length more ≡ length checkers
      → ((number : ℕ) → number ≢ part.number → slice_get more number ≡ slice_get checkers number) → IsPartTaken basis (take end parts) part (kept_of basis.terms table more)
      → AreFirstTaken basis parts (end + 1) (kept_of basis.terms table more)
  first_more end part checkers more at before less as_many others taken = record {
    passes = hold_before_more (PartPasses basis) parts end part at before.passes taken.passes;
    not_fails = hold_before_more (PassesWith (PartFails basis)) parts end part at before.not_fails taken.not_fails;
    keeps = subst (λ (front : List Part). KeepsBasis (after_parts basis front) basis.log (kept_of basis.terms table more)) (sym (take-next parts end part at))
        (record {
          terms = before.keeps.terms;
          table = before.keeps.table;
          hypotheses = before.keeps.hypotheses;
          one_each = as_many ∙ before.keeps.one_each;
          each = each;
        });
  }
    where
      each : (number : ℕ) (hypothesis : Hypothesis) → IsNumberOf basis number hypothesis
          → HasChecker (after_parts basis (take end parts ++ part ∷ [])) basis.log (kept_of basis.terms table more) number hypothesis
      each number hypothesis there = by (eqb part.number number) refl
        where
          by : (same : Bool) → eqb part.number number ≡ same → HasChecker (after_parts basis (take end parts ++ part ∷ [])) basis.log (kept_of basis.terms table more) number hypothesis
          by true same =
              let own : part.number ≡ number = eqb-true part.number number same in
              let has = taken.keeps hypothesis (ap (slice_get basis.hypotheses) own ∙ there) in
              let steps : part.steps ≡ steps_among (take end parts ++ part ∷ []) number =
              sym (among_last (take end parts) part less) ∙ ap (steps_among (take end parts ++ part ∷ [])) own in
              record {
                checker = has.checker;
                at = ap (slice_get more) (sym own) ∙ has.at;
                reach = ap (slice_get table.reaches) (sym own) ∙ has.reach;
                represents = subst (CheckerRepresents basis.graph (log_for basis.log hypothesis) has.checker) (λ i. with_steps (basis.steps (own i)) basis.log (steps i)) has.represents;
              }
          by false same =
              let other : part.number ≡ number → ⊥ = λ is. false≢true (sym same ∙ eq-eqb part.number number is) in
              let has = before.keeps.each number hypothesis there in
              record {
                checker = has.checker;
                at = others number (λ is. other (sym is)) ∙ has.at;
                reach = has.reach;
                represents = subst (λ (steps : List Step). CheckerRepresents basis.graph (log_for basis.log hypothesis) has.checker (with_steps (basis.steps number) basis.log steps))
                    (sym (among_other (take end parts) part number other)) has.represents;
              }

  -- what is kept after all parts
  pub first_all : (end : ℕ) (state : HypothesesState) → length parts ≤ end → AreFirstTaken basis parts end state → ArePartsTaken basis parts state
  first_all end state all taken = record {
    passes = hold_before_all (PartPasses basis) parts end all taken.passes;
    not_fails = hold_before_all (PassesWith (PartFails basis)) parts end all taken.not_fails;
    keeps = subst (λ (front : List Part). KeepsBasis (after_parts basis front) basis.log state) (take_all end parts all) taken.keeps;
  }

  -- a checker that did not change keeps what it kept
  pub keeps_number : (old new : List CheckerState) (number : ℕ) → KeepsBasis basis basis.log (kept_of basis.terms table old) → slice_get new number ≡ slice_get old number
      → KeepsNumber basis (kept_of basis.terms table new) number
  keeps_number old new number keeps same hypothesis at =
      let has = keeps.each number hypothesis at in
      record { checker = has.checker; at = same ∙ has.at; reach = has.reach; represents = has.represents }

-- where a part fails, and those before it pass, the parts fail there
pub fails_here : (basis : RoundBasis) (parts : List Part) (index : ℕ) (part : Part) (fault : RoundFault) → slice_get parts index ≡ Some part → HoldBefore (PassesWith (PartFails basis)) parts index
    → IsFaultOf (PartFails basis (take index parts) part) fault → IsFaultOf (InTurn (PartFails basis) [] parts) fault
fails_here basis parts index part (NotAccepted line why) at before fails = in_turn_fails (PartFails basis) parts index part line why at before fails
fails_here basis parts index part NoMemory at before fails = tt
