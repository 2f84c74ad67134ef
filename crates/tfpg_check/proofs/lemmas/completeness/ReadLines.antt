-- What was read of a right round has the findings of the round, kind by kind.
use Rattle.std.proofs.Common.{◌≡◌, not, ℕ, Bool, true, false, eqb, List, [], ◌∷◌, length, map, filter, Option, slice_get, inl, inr, refl, sym, ap, subst, ◌∙◌, arith}
use Rattle.std.specs.Prelude.{find, option_map, unwrap_or}
use Rattle.std.specs.List.{Contains}
use Rattle.std.proofs.lemmas.Bool.{eq-eqb, eqb-true, false≢true, ne_eqb}
use Rattle.std.proofs.lemmas.Option.{same_Some}
use Rattle.tfpg_base.specs.Hypothesis.{Hypothesis, IsProperPart}
use Rattle.tfpg_base.proofs.lemmas.lists.Choices.{is_some-there}
use Rattle.tfpg_base.proofs.lemmas.lists.FirstFound.{find-Contains, find-passes}
use Rattle.tfpg_base.proofs.lemmas.lists.Images.{Contains-map, Contains-map_only}
use Rattle.tfpg_base.proofs.lemmas.lists.Passing.{Contains-filter, Contains-filter_only}
use Rattle.tfpg_evidence.specs.declared.finding.Finding.{Finding}
use Rattle.tfpg_evidence.specs.declared.finding.Status.{Status}
use Rattle.tfpg_evidence.specs.declared.finding.Status.TheVariants.{Ranked, Covered, Rejected, Open}
use Rattle.tfpg_evidence.specs.declared.round.Round.{Round}
use Rattle.tfpg_evidence.specs.declared.step.Step.{Step}
use Rattle.tfpg_evidence.specs.RoundOf.{is_ranked, is_rejected, is_open}
use Rattle.tfpg_evidence.specs.Findings.{hypothesis_of, is_rejected_now, ranked_in_order, newly_rejected}
use Rattle.tfpg_clause.specs.Paths.{with_steps}
use Rattle.tfpg_hyp.specs.Rounds.{HasRankedPart}
use Rattle.tfpg_hyp.proofs.lemmas.FindingsOfRound.{HasFindingAt}
use Rattle.tfpg_report.specs.declared.read_round.NamedSet.{NamedSet}
use Rattle.tfpg_report.specs.declared.read_round.Part.{Part}
use Rattle.tfpg_report.specs.declared.read_round.RankedLine.{RankedLine}
use Rattle.tfpg_report.specs.declared.read_round.ReadRound.{ReadRound}
use Rattle.tfpg_check.specs.Judging.{RoundBasis, NumberedHypothesis, AreClosed, IsClosedByRound, IsOpenLine, IsRankedLine, HasRankedPartIn, named_hypothesis, steps_read}
use Rattle.tfpg_check.proofs.lemmas.passing.NamedFindings.{NumberedSteps, named_in, steps_in_finding, steps_in_part, has_steps}
use Rattle.tfpg_check.proofs.lemmas.passing.PartSteps.{part_or_none}
use Rattle.tfpg_check.proofs.lemmas.completeness.RoundSayings.{RankingSaying, RoundSaying}
use Rattle.tfpg_check.proofs.lemmas.completeness.WhatIsSaid.{ranking_as, ranking_of, ranking_read, saying_of, saying_read}
use Rattle.tfpg_check.proofs.lemmas.completeness.RightRoundFacts.{IsRightBy, number_of, listed_of, closed_where_rejected, rejected_where_closed}
use Rattle.tfpg_check.proofs.lemmas.completeness.RankedFindings.{ordered_only, ordered_there}

-- a finding without steps
pub no_steps : (steps : List Step) → not (eqb (length steps) 0) ≡ false → steps ≡ []
no_steps [] none = refl
no_steps (s ∷ steps) none = absurd (false≢true (sym none ∙ ap not (ne_eqb (length (s ∷ steps)) 0 (λ is. omega (arith, is)))))

-- What is said of a ranked finding has its number.
pub ranking_number : (finding : Finding) (status : Status) → (ranking_as finding status).key.number ≡ finding.number
ranking_number finding (Ranked trace cost alarmed monitored) = refl
ranking_number finding (Covered by) = refl
ranking_number finding Rejected = refl
ranking_number finding Open = refl

-- It has its hypothesis.
pub ranking_hypothesis : (finding : Finding) (status : Status) → (ranking_as finding status).hypothesis ≡ hypothesis_of finding
ranking_hypothesis finding (Ranked trace cost alarmed monitored) = refl
ranking_hypothesis finding (Covered by) = refl
ranking_hypothesis finding Rejected = refl
ranking_hypothesis finding Open = refl

module _ (basis : RoundBasis) (line : ℕ) (round : Round) (right : IsRightBy basis line round) (read : ReadRound) (as_said : saying_read read ≡ saying_of round) where
  -- a finding at an index stands at a number that is its own
  at_number : (index number : ℕ) (finding : Finding) → HasFindingAt round index finding → finding.number ≡ number → HasFindingAt round number finding
  at_number index number finding at same = subst (λ (n : ℕ). HasFindingAt round n finding) (sym (number_of basis line round right index finding at) ∙ same) at

  -- ---- steps

  parts_are : map steps_in_part read.parts ≡ map steps_in_finding (filter has_steps round.findings)
  parts_are = ap (λ (said : RoundSaying). said.parts) as_said

  -- The finding of a part.
  pub record IsOfPart (part : Part) (finding : Finding) : Type 0 where
    pub at : HasFindingAt round part.number finding
    pub some : has_steps finding ≡ true
    pub steps : finding.steps ≡ part.steps

  -- each part has one
  pub finding_of_part : (part : Part) → Contains read.parts part → (finding : Finding) × IsOfPart part finding
  finding_of_part part member =
      let from = Contains-map_only steps_in_finding (filter has_steps round.findings) (steps_in_part part)
      (subst (λ (xs : List NumberedSteps). Contains xs (steps_in_part part)) parts_are (Contains-map steps_in_part read.parts part member)) in
      let at = Contains-filter_only has_steps round.findings from.0 from.1 in (
        from.0,
        record {
          at = at_number at.0 part.number from.0 at.1 (ap (λ (n : NumberedSteps). n.number) from.2);
          some = at.2;
          steps = ap (λ (n : NumberedSteps). n.steps) from.2;
        },
      )

  part_of_finding : (number : ℕ) (finding : Finding) → HasFindingAt round number finding → has_steps finding ≡ true → (part : Part) × Contains read.parts part × (steps_in_part part ≡ steps_in_finding finding)
  part_of_finding number finding at some =
      Contains-map_only steps_in_part read.parts (steps_in_finding finding)
      (subst (λ (xs : List NumberedSteps). Contains xs (steps_in_finding finding)) (sym parts_are)
      (Contains-map steps_in_finding (filter has_steps round.findings) finding (Contains-filter has_steps round.findings number finding at some)))

  -- The steps that were read for a number are those of its finding.
  pub steps_are_read : (number : ℕ) (finding : Finding) → HasFindingAt round number finding → steps_read read number ≡ finding.steps
  steps_are_read number finding at = by (has_steps finding) refl
    where
      of_part : (part : Part) → Contains read.parts part → part.number ≡ number → (part.steps ≡ finding.steps) × (has_steps finding ≡ true)
      of_part part member same =
          let own = finding_of_part part member in
          let is : own.0 ≡ finding = same_Some own.0 finding (sym own.1.at ∙ ap (slice_get round.findings) same ∙ at) in
          (sym own.1.steps ∙ ap (λ (f : Finding). f.steps) is, sym (ap has_steps is) ∙ own.1.some)

      by : (some : Bool) → has_steps finding ≡ some → steps_read read number ≡ finding.steps
      by true some =
          let part = part_of_finding number finding at some in
          let numbered : eqb part.0.number number ≡ true = eq-eqb part.0.number number (ap (λ (n : NumberedSteps). n.number) part.2 ∙ number_of basis line round right number finding at) in
          let found = is_some-there (find (λ (p : Part). eqb p.number number) read.parts) (find-Contains (λ (p : Part). eqb p.number number) read.parts part.0 part.1 numbered) in
          let passes = find-passes (λ (p : Part). eqb p.number number) read.parts found.0 found.1 in
          ap (λ (o : Option Part). unwrap_or (option_map (λ (p : Part). p.steps) o) []) found.1
          ∙ (of_part found.0 passes.0 (eqb-true found.0.number number passes.1)).0
      by false none = elim (part_or_none read number) [
        | inl own ↦ absurd (false≢true (sym none ∙ (of_part own.0 own.1.stands own.1.numbered).1))
        | inr empty ↦ empty ∙ sym (no_steps finding.steps none)
      ]

  -- ---- closed trees

  module _ (number : ℕ) (finding : Finding) (at : HasFindingAt round number finding) where
    same_steps_now : with_steps (basis.steps number) basis.log (steps_read read number) ≡ with_steps (basis.steps number) basis.log finding.steps
    same_steps_now = ap (with_steps (basis.steps number) basis.log) (steps_are_read number finding at)

    -- a tree is closed where its finding is rejected,
    pub closed_read : is_rejected finding.status ≡ true → IsClosedByRound basis read number
    closed_read rejected = subst (AreClosed basis number) (sym same_steps_now) (closed_where_rejected basis line round right number finding at rejected)

    -- and there alone
    pub rejected_read : IsClosedByRound basis read number → is_rejected finding.status ≡ true
    rejected_read closed = rejected_where_closed basis line round right number finding at (subst (AreClosed basis number) same_steps_now closed)

  -- ---- ranked lines

  ranked_are : map ranking_read read.ranked ≡ map ranking_of (ranked_in_order round)
  ranked_are = ap (λ (said : RoundSaying). said.ranked) as_said

  -- The finding of a ranked line.
  pub record IsOfRanked (r : RankedLine) (finding : Finding) : Type 0 where
    pub at : HasFindingAt round r.number finding
    pub ranked : is_ranked finding.status ≡ true
    pub says : ranking_read r ≡ ranking_of finding

  -- each ranked line has one
  pub finding_of_ranked : (r : RankedLine) → Contains read.ranked r → (finding : Finding) × IsOfRanked r finding
  finding_of_ranked r member =
      let from = Contains-map_only ranking_of (ranked_in_order round) (ranking_read r)
      (subst (λ (xs : List RankingSaying). Contains xs (ranking_read r)) ranked_are (Contains-map ranking_read read.ranked r member)) in
      let at = ordered_only basis line round right from.0 from.1 in (
        from.0,
        record {
          at = at_number at.0 r.number from.0 at.1 (sym (ranking_number from.0 from.0.status) ∙ ap (λ (s : RankingSaying). s.key.number) from.2);
          ranked = at.2;
          says = sym from.2;
        },
      )

  -- and each ranked finding has a line
  pub ranked_of_finding : (number : ℕ) (finding : Finding) → HasFindingAt round number finding → is_ranked finding.status ≡ true → IsRankedLine read number
  ranked_of_finding number finding at ranked =
      let from = Contains-map_only ranking_read read.ranked (ranking_of finding)
      (subst (λ (xs : List RankingSaying). Contains xs (ranking_of finding)) (sym ranked_are)
      (Contains-map ranking_of (ranked_in_order round) finding (ordered_there basis line round right number finding at ranked))) in (
        from.0,
        from.1,
        ap (λ (s : RankingSaying). s.key.number) from.2 ∙ ranking_number finding finding.status ∙ number_of basis line round right number finding at,
      )

  -- a proper part that has a ranked line is ranked,
  pub part_ranked : (hypothesis : Hypothesis) → HasRankedPartIn basis read hypothesis → HasRankedPart round.findings hypothesis
  part_ranked hypothesis has =
      let own = finding_of_ranked has.other has.ranked in
      let same : has.part ≡ hypothesis_of own.0 = same_Some has.part (hypothesis_of own.0) (sym has.listed ∙ listed_of basis line round right has.other.number own.0 own.1.at) in (
        has.other.number,
        record {
          finding = own.0;
          numbered = own.1.at;
          ranked = own.1.ranked;
          part = subst (λ (h : Hypothesis). IsProperPart h hypothesis) same has.proper;
        },
      )

  -- and one that is ranked has a line
  pub part_read : (hypothesis : Hypothesis) → HasRankedPart round.findings hypothesis → HasRankedPartIn basis read hypothesis
  part_read hypothesis has =
      let r = ranked_of_finding has.0 has.1.finding has.1.numbered has.1.ranked in
      record {
        other = r.0;
        ranked = r.1;
        part = hypothesis_of has.1.finding;
        listed = ap (slice_get basis.hypotheses) r.2 ∙ listed_of basis line round right has.0 has.1.finding has.1.numbered;
        proper = has.1.part;
      }

  -- ---- open and rejected lines

  -- The finding of a line that names a hypothesis, among those that pass a test.
  pub record IsOfNamed (test : Finding → Bool) (number : ℕ) (hypothesis : Hypothesis) (finding : Finding) : Type 0 where
    pub at : HasFindingAt round number finding
    pub passes : test finding ≡ true
    pub hypothesis_is : hypothesis_of finding ≡ hypothesis

  named_finding : (test : Finding → Bool) (named : NumberedHypothesis) → Contains (map named_in (filter test round.findings)) named
      → (finding : Finding) × IsOfNamed test named.number named.hypothesis finding
  named_finding test named member =
      let from = Contains-map_only named_in (filter test round.findings) named member in
      let at = Contains-filter_only test round.findings from.0 from.1 in (
        from.0,
        record {
          at = at_number at.0 named.number from.0 at.1 (ap (λ (n : NumberedHypothesis). n.number) from.2);
          passes = at.2;
          hypothesis_is = ap (λ (n : NumberedHypothesis). n.hypothesis) from.2;
        },
      )

  finding_named : (test : Finding → Bool) (number : ℕ) (finding : Finding) → HasFindingAt round number finding → test finding ≡ true
      → Contains (map named_in (filter test round.findings)) (record { number = number; hypothesis = hypothesis_of finding })
  finding_named test number finding at passes =
      subst (λ (n : ℕ). Contains (map named_in (filter test round.findings)) (record { number = n; hypothesis = hypothesis_of finding })) (number_of basis line round right number finding at)
      (Contains-map named_in (filter test round.findings) finding (Contains-filter test round.findings number finding at passes))

  -- the finding of an open line
  pub finding_of_open : (named : NamedSet) → Contains read.unsettled named
      → (finding : Finding) × IsOfNamed (λ (f : Finding). is_open f.status) named.number (named_hypothesis named).hypothesis finding
  finding_of_open named member =
      named_finding (λ (f : Finding). is_open f.status) (named_hypothesis named)
      (subst (λ (xs : List NumberedHypothesis). Contains xs (named_hypothesis named)) (ap (λ (said : RoundSaying). said.unsettled) as_said) (Contains-map named_hypothesis read.unsettled named member))

  -- and the line of an open finding
  pub open_of_finding : (number : ℕ) (finding : Finding) → HasFindingAt round number finding → is_open finding.status ≡ true → IsOpenLine read number
  open_of_finding number finding at opened =
      let from = Contains-map_only named_hypothesis read.unsettled (record { number = number; hypothesis = hypothesis_of finding })
      (subst (λ (xs : List NumberedHypothesis). Contains xs (record { number = number; hypothesis = hypothesis_of finding })) (sym (ap (λ (said : RoundSaying). said.unsettled) as_said))
      (finding_named (λ (f : Finding). is_open f.status) number finding at opened)) in
      (from.0, from.1, ap (λ (n : NumberedHypothesis). n.number) from.2)

  rejected_are : map named_hypothesis read.rejected ≡ map named_in (newly_rejected round)
  rejected_are = ap (λ (said : RoundSaying). said.rejected) as_said

  -- the finding of a rejected line
  pub finding_of_rejected : (number : ℕ) (hypothesis : Hypothesis) → Contains (map named_hypothesis read.rejected) (record { number = number; hypothesis = hypothesis })
      → (finding : Finding) × IsOfNamed is_rejected_now number hypothesis finding
  finding_of_rejected number hypothesis member =
      named_finding is_rejected_now (record { number = number; hypothesis = hypothesis })
      (subst (λ (xs : List NumberedHypothesis). Contains xs (record { number = number; hypothesis = hypothesis })) rejected_are member)

  -- and the line of a finding that this round rejected
  pub rejected_of_finding : (number : ℕ) (finding : Finding) → HasFindingAt round number finding → is_rejected_now finding ≡ true
      → Contains (map named_hypothesis read.rejected) (record { number = number; hypothesis = hypothesis_of finding })
  rejected_of_finding number finding at rejected =
      subst (λ (xs : List NumberedHypothesis). Contains xs (record { number = number; hypothesis = hypothesis_of finding })) (sym rejected_are)
      (finding_named is_rejected_now number finding at rejected)
