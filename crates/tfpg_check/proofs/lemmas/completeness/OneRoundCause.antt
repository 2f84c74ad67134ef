-- A round fails at no more than one line, and for no more than one cause.
use Rattle.std.proofs.Common.{◌≡◌, ℕ, ◌<◌, List, [], ◌∷◌, ◌++◌, map, slice_get, inl, inr, sym, ap, subst, subst₂, ◌∙◌}
use Rattle.std.specs.Prelude.{option_map, unwrap_or}
use Rattle.std.proofs.lemmas.Bool.{cases_order}
use Rattle.std.proofs.lemmas.Option.{same_Some}
use Rattle.tfpg_base.specs.Hypothesis.{Hypothesis}
use Rattle.tfpg_base.proofs.lemmas.lists.Cuts.{slice_get-take}
use Rattle.tfpg_graph.proofs.lemmas.reach.Reaches.{reach_is_one}
use Rattle.tfpg_evidence.specs.declared.step.Step.{Step}
use Rattle.tfpg_clause.specs.Laws.{PresentLeavesAreAlone, RefutationsAreNotPartial}
use Rattle.tfpg_clause.specs.Paths.{judged_by, with_steps}
use Rattle.tfpg_kernel.specs.Breaks.{IsFirstBroken}
use Rattle.tfpg_kernel.proofs.lemmas.FirstBroken.{first_broken_unique}
use Rattle.tfpg_hyp.specs.Views.{IsReachOf, case_for}
use Rattle.tfpg_report.specs.declared.read_round.NamedSet.{NamedSet}
use Rattle.tfpg_report.specs.declared.read_round.Part.{Part}
use Rattle.tfpg_report.specs.declared.read_round.RankedLine.{RankedLine}
use Rattle.tfpg_report.specs.declared.read_round.ReadRound.{ReadRound}
use Rattle.tfpg_check.specs.declared.cause.CheckCause.{CheckCause}
use Rattle.tfpg_check.specs.declared.cause.CheckCause.TheVariants as cause
use Rattle.tfpg_check.specs.Tests.{DifferFirstAt, Fails, InTurn, Owes, Then}
use Rattle.tfpg_check.specs.Judging.{AreNewlyClosed, RoundBasis, MayBeOpen, MayHaveSteps, NumberedHypothesis, OpenFails, PartFails, RankedFails, RejectedFails, RoundFails, StepFails, cause_of_step, named_hypothesis}
use Rattle.tfpg_check.proofs.lemmas.passing.ByNumber.{same_by_number}

-- ---- tests

-- The test fails at no more than one line, and for no more than one cause.
abbrev pub FailsOnce : Fails → Type 0
FailsOnce fails = (line other : ℕ) (why also : CheckCause) → fails line why → fails other also → (line ≡ other) × (why ≡ also)

owes_once : (condition : Type 0) (at : ℕ) (because : CheckCause) → FailsOnce (Owes condition at because)
owes_once condition at because line other why also a b = (a.0 ∙ sym b.0, a.1 ∙ sym b.1)

then_once : (first next : Fails) → FailsOnce first → FailsOnce next → FailsOnce (Then first next)
then_once first next one two line other why also (inl a) (inl b) = one line other why also a b
then_once first next one two line other why also (inl a) (inr b) = absurd (b.0 line why a)
then_once first next one two line other why also (inr a) (inl b) = absurd (a.0 other also b)
then_once first next one two line other why also (inr a) (inr b) = two line other why also a.1 b.1

in_turn_once : {X : Type 0} (test : List X → X → Fails) → ((before : List X) (x : X) → FailsOnce (test before x)) → (before xs : List X) → FailsOnce (InTurn test before xs)
in_turn_once test one before [] line other why also a b = absurd a
in_turn_once test one before (x ∷ xs) line other why also a b =
    then_once (test before x) (InTurn test (before ++ x ∷ []) xs) (one before x) (in_turn_once test one (before ++ x ∷ []) xs) line other why also a b

-- ---- the first place where two lists differ

module _ {X : Type 0} (xs ys : List X) where
  none_earlier : (one other : ℕ) → DifferFirstAt xs ys one → DifferFirstAt xs ys other → one < other → ⊥
  none_earlier one other first second less =
      first.differ (sym (slice_get-take other xs one less) ∙ ap (λ (front : List X). slice_get front one) second.same_before ∙ slice_get-take other ys one less)

  one_first_place : (one other : ℕ) → DifferFirstAt xs ys one → DifferFirstAt xs ys other → one ≡ other
  one_first_place one other first second = elim (cases_order one other) [
    | inl same ↦ same
    | inr (inl less) ↦ absurd (none_earlier one other first second less)
    | inr (inr more) ↦ absurd (none_earlier other one second first more)
  ]

-- ---- rounds

module _ (only_one : PresentLeavesAreAlone) (finished : RefutationsAreNotPartial) (basis : RoundBasis) where
  step_once : (part : Part) (before : List Step) (step : Step) → FailsOnce (StepFails basis part before step)
  step_once part before step line other why also a b =
      let same : a.hypothesis ≡ b.hypothesis = same_Some a.hypothesis b.hypothesis (sym a.listed ∙ b.listed) in
      let reach : a.reach ≡ b.reach =
      reach_is_one basis.graph b.hypothesis.set a.reach (subst (λ (h : Hypothesis). IsReachOf basis.graph h a.reach) same a.reach_is) b.reach b.reach_is in
      let broken : a.broken ≡ b.broken =
      first_broken_unique only_one finished (case_for basis.graph basis.log b.hypothesis b.reach) (with_steps (basis.steps part.number) basis.log before) (judged_by basis.log step)
      a.broken b.broken
      (subst₂ (λ (h : Hypothesis) (nodes : List ℕ). IsFirstBroken (case_for basis.graph basis.log h nodes) (with_steps (basis.steps part.number) basis.log before) (judged_by basis.log step) a.broken)
      same reach a.first)
      b.first in (
        same_Some line other (sym a.at ∙ b.at),
        a.cause_is ∙ ap cause_of_step broken ∙ sym b.cause_is,
      )

  part_once : (before : List Part) (part : Part) → FailsOnce (PartFails basis before part)
  part_once before part =
      then_once (Owes (MayHaveSteps basis before part) part.first_line cause.WrongHypothesis) (InTurn (StepFails basis part) [] part.steps)
      (owes_once (MayHaveSteps basis before part) part.first_line cause.WrongHypothesis) (in_turn_once (StepFails basis part) (step_once part) [] part.steps)

  module _ (read : ReadRound) where
    ranked_once : (before : List RankedLine) (r : RankedLine) → FailsOnce (RankedFails basis read before r)
    ranked_once before r = then_once _ _ (owes_once _ _ _) (owes_once _ _ _)

    open_once : (before : List NamedSet) (named : NamedSet) → FailsOnce (OpenFails basis read before named)
    open_once before named = owes_once (MayBeOpen basis read before named) named.first_line cause.WrongOpen

    -- the trees that were closed are the same ones
    one_closed : (one other : List NumberedHypothesis) → AreNewlyClosed basis read one → AreNewlyClosed basis read other → one ≡ other
    one_closed one other are also =
        same_by_number (λ (c : NumberedHypothesis). c.number) one other are.rising also.rising
        (λ c here. (also.exact c.number c.hypothesis).1 ((are.exact c.number c.hypothesis).0 here))
        (λ c here. (are.exact c.number c.hypothesis).1 ((also.exact c.number c.hypothesis).0 here))

    rejected_once : FailsOnce (RejectedFails basis read)
    rejected_once line other why also a b =
        let names : List NumberedHypothesis = map named_hypothesis read.rejected in
        let same : a.closed ≡ b.closed = one_closed a.closed b.closed a.are b.are in
        let first : DifferFirstAt names b.closed a.index = subst (λ (closed : List NumberedHypothesis). DifferFirstAt names closed a.index) same a.differ in
        let index : a.index ≡ b.index = one_first_place names b.closed a.index b.index first b.differ in (
          sym a.at ∙ ap (λ (n : ℕ). unwrap_or (option_map (λ (named : NamedSet). named.first_line) (slice_get read.rejected n)) read.counts_line) index ∙ b.at,
          a.cause_is ∙ sym b.cause_is,
        )

    -- A round fails at no more than one line, and for no more than one cause.
    pub round_once : (number : ℕ) → FailsOnce (RoundFails basis number read)
    round_once number =
        then_once _ _ (owes_once _ _ _)
        (then_once _ _ (in_turn_once (PartFails basis) part_once [] read.parts)
        (then_once _ _ (in_turn_once (RankedFails basis read) ranked_once [] read.ranked)
        (then_once _ _ (in_turn_once (OpenFails basis read) open_once [] read.unsettled)
        (then_once _ _ rejected_once
        (then_once _ _ (owes_once _ _ _) (owes_once _ _ _))))))
