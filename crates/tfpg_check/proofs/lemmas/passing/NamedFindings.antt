-- The findings of a round that passes which have steps, are open, or were rejected now are those that its lines name, in order.
use Rattle.std.proofs.Common.{◌≡◌, not, ℕ, ◌<◌, Bool, true, eqb, List, [], length, map, filter, All, inl, inr, refl, sym, ap, subst, ◌∙◌, arith, append-nil}
use Rattle.std.specs.List.{AllPairs, Contains}
use Rattle.std.proofs.lemmas.Bool.{and_parts, and_from, ne_eqb, false≢true}
use Rattle.std.proofs.lemmas.List.Elements.{All-contains}
use Rattle.std.proofs.lemmas.List.Kept.{AllPairs-filter}
use Rattle.tfpg_base.specs.Hypothesis.{Hypothesis}
use Rattle.tfpg_base.proofs.lemmas.lists.Elements.{slice_get-contains}
use Rattle.tfpg_base.proofs.lemmas.lists.Images.{AllPairs-map, Contains-map, Contains-map_only}
use Rattle.tfpg_base.proofs.lemmas.lists.Passing.{Contains-filter, Contains-filter_only}
use Rattle.tfpg_evidence.specs.declared.finding.Finding.{Finding}
use Rattle.tfpg_evidence.specs.declared.step.Step.{Step}
use Rattle.tfpg_evidence.specs.RoundOf.{is_open, is_rejected}
use Rattle.tfpg_evidence.specs.Findings.{hypothesis_of, is_rejected_now}
use Rattle.tfpg_clause.specs.Paths.{with_steps}
use Rattle.tfpg_report.specs.declared.read_round.NamedSet.{NamedSet}
use Rattle.tfpg_report.specs.declared.read_round.Part.{Part}
use Rattle.tfpg_report.specs.declared.read_round.ReadRound.{ReadRound}
use Rattle.tfpg_report.specs.ReadRounds.{hypothesis_named}
use Rattle.tfpg_check.specs.Judging.{RoundBasis, IsNumberOf, NumberedHypothesis, AreClosed, IsClosedByRound, WasClosed, named_hypothesis, steps_read}
use Rattle.tfpg_check.specs.Passing.{RoundPasses}
use Rattle.tfpg_check.proofs.lemmas.passing.ByNumber.{AllPairs-from_before, AllPairs-from_indexes, Contains-along, same_by_number}
use Rattle.tfpg_check.proofs.lemmas.passing.PartSteps.{IsPartOf, parts_rise, steps_of_part, part_or_none}
use Rattle.tfpg_check.proofs.lemmas.passing.ReadFindings.{IsReadFinding, AreReadFindings}
use Rattle.tfpg_check.proofs.lemmas.passing.OneStatus.{open_passes, open_names, open_exactly, rejected_exactly, finding_there, hypothesis_there}

-- the hypothesis of a finding with its number
abbrev pub named_in : Finding → NumberedHypothesis
named_in finding = record { number = finding.number; hypothesis = hypothesis_of finding }

-- a number with its steps
pub record NumberedSteps : Type 0 where
  pub number : ℕ
  pub steps : List Step

abbrev pub steps_in_finding : Finding → NumberedSteps
steps_in_finding finding = record { number = finding.number; steps = finding.steps }

abbrev pub steps_in_part : Part → NumberedSteps
steps_in_part part = record { number = part.number; steps = part.steps }

-- the test of a finding with steps
abbrev pub has_steps : Finding → Bool
has_steps finding = not (eqb (length finding.steps) 0)

-- a list with an item passes that test
some_pass : {X : Type 0} (xs : List X) → 0 < length xs → not (eqb (length xs) 0) ≡ true
some_pass xs some = ap not (ne_eqb (length xs) 0 (λ none. omega (arith, some, none)))

-- an empty one does not
none_passes : {X : Type 0} (xs : List X) → xs ≡ [] → not (eqb (length xs) 0) ≡ true → ⊥
none_passes xs none passes = false≢true (sym (ap (λ ys. not (eqb (length ys) 0)) none) ∙ passes)

module _ (basis : RoundBasis) (line : ℕ) (read : ReadRound) (passes : RoundPasses basis line read) (findings : List Finding) (are : AreReadFindings basis read findings) where
  -- the numbers of the findings rise
  pub findings_rise : AllPairs (λ (earlier later : Finding). earlier.number < later.number) findings
  findings_rise =
      AllPairs-from_indexes (λ (earlier later : Finding). earlier.number < later.number) findings
      (λ i j x y before at also. omega (
        arith,
        before,
        (hypothesis_there basis line read passes findings are i x at).2.number_is,
        (hypothesis_there basis line read passes findings are j y also).2.number_is,
      ))

  -- ---- open ones

  -- the open line of a number names what its finding is on
  open_same : (number : ℕ) (hypothesis : Hypothesis) → IsNumberOf basis number hypothesis → (finding : Finding) → IsReadFinding basis read number hypothesis finding
      → (named : NamedSet) → Contains read.unsettled named → named.number ≡ number → named_hypothesis named ≡ named_in finding
  open_same number hypothesis at finding is named stands numbered =
      let numbers : named.number ≡ finding.number = numbered ∙ sym is.number_is in
      let names : hypothesis_named named ≡ hypothesis_of finding = open_names basis line read passes number hypothesis at named stands numbered ∙ sym is.hypothesis_is in
      λ i. record { number = numbers i; hypothesis = names i }

  open_to : (x : NumberedHypothesis) → Contains (map named_in (filter (λ (f : Finding). is_open f.status) findings)) x → Contains (map named_hypothesis read.unsettled) x
  open_to x member =
      let from = Contains-map_only named_in (filter (λ (f : Finding). is_open f.status) findings) x member in
      let at = Contains-filter_only (λ (f : Finding). is_open f.status) findings from.0 from.1 in
      let own = hypothesis_there basis line read passes findings are at.0 from.0 at.1 in
      let named = (open_exactly basis line read passes at.0 own.0 own.1 from.0 own.2).0 at.2 in
      Contains-along (map named_hypothesis read.unsettled) (named_hypothesis named.0) (named_in from.0) x (open_same at.0 own.0 own.1 from.0 own.2 named.0 named.1 named.2) from.2
      (Contains-map named_hypothesis read.unsettled named.0 named.1)

  open_from : (x : NumberedHypothesis) → Contains (map named_hypothesis read.unsettled) x → Contains (map named_in (filter (λ (f : Finding). is_open f.status) findings)) x
  open_from x member =
      let from = Contains-map_only named_hypothesis read.unsettled x member in
      let listed = (open_passes basis line read passes from.0 from.1).listed in
      let found = finding_there basis line read passes findings are from.0.number (hypothesis_named from.0) listed in
      let opened = (open_exactly basis line read passes from.0.number (hypothesis_named from.0) listed found.0 found.2).1 (from.0, from.1, refl) in
      let same : named_in found.0 ≡ named_hypothesis from.0 = λ i. record { number = found.2.number_is i; hypothesis = found.2.hypothesis_is i } in
      Contains-along (map named_in (filter (λ (f : Finding). is_open f.status) findings)) (named_in found.0) (named_hypothesis from.0) x same from.2
      (Contains-map named_in (filter (λ (f : Finding). is_open f.status) findings) found.0 (Contains-filter (λ (f : Finding). is_open f.status) findings from.0.number found.0 found.1 opened))

  -- The open findings are those that the open lines name.
  pub open_named : map named_in (filter (λ (f : Finding). is_open f.status) findings) ≡ map named_hypothesis read.unsettled
  open_named =
      same_by_number (λ (n : NumberedHypothesis). n.number) (map named_in (filter (λ (f : Finding). is_open f.status) findings)) (map named_hypothesis read.unsettled)
      (AllPairs-map (λ (a b : NumberedHypothesis). a.number < b.number) named_in (filter (λ (f : Finding). is_open f.status) findings)
      (AllPairs-filter (λ (a b : Finding). a.number < b.number) (λ (f : Finding). is_open f.status) findings findings_rise))
      (AllPairs-map (λ (a b : NumberedHypothesis). a.number < b.number) named_hypothesis read.unsettled
      (AllPairs-from_before (λ (a b : NamedSet). a.number < b.number) read.unsettled (λ index named at. (passes.unsettled index named at).rising)))
      open_to open_from

  module _ (each_has : All (λ (part : Part). 0 < length part.steps) read.parts) where
    -- ---- those with steps

    steps_from : (x : NumberedSteps) → Contains (map steps_in_part read.parts) x → Contains (map steps_in_finding (filter has_steps findings)) x
    steps_from x member =
        let from = Contains-map_only steps_in_part read.parts x member in
        let may = (passes.parts from.1.0 from.0 (slice_get-contains read.parts from.0 from.1)).may in
        let found = finding_there basis line read passes findings are from.0.number may.hypothesis may.listed in
        let steps : found.0.steps ≡ from.0.steps = found.2.steps_are ∙ steps_of_part basis line read passes from.0 from.1 in
        let some : has_steps found.0 ≡ true =
        some_pass found.0.steps (subst (λ (s : List Step). 0 < length s) (sym steps) (All-contains (λ (part : Part). 0 < length part.steps) read.parts from.0 each_has from.1)) in
        let same : steps_in_finding found.0 ≡ steps_in_part from.0 = λ i. record { number = found.2.number_is i; steps = steps i } in
        Contains-along (map steps_in_finding (filter has_steps findings)) (steps_in_finding found.0) (steps_in_part from.0) x same from.2
        (Contains-map steps_in_finding (filter has_steps findings) found.0 (Contains-filter has_steps findings from.0.number found.0 found.1 some))

    -- the part of a number has the steps of its finding
    steps_same : (number : ℕ) (hypothesis : Hypothesis) (finding : Finding) → IsReadFinding basis read number hypothesis finding → (part : Part) → IsPartOf read number part
        → steps_in_part part ≡ steps_in_finding finding
    steps_same number hypothesis finding is part own =
        let numbers : part.number ≡ finding.number = own.numbered ∙ sym is.number_is in
        let steps : part.steps ≡ finding.steps = sym own.steps_are ∙ sym is.steps_are in
        λ i. record { number = numbers i; steps = steps i }

    steps_to : (x : NumberedSteps) → Contains (map steps_in_finding (filter has_steps findings)) x → Contains (map steps_in_part read.parts) x
    steps_to x member =
        let from = Contains-map_only steps_in_finding (filter has_steps findings) x member in
        let at = Contains-filter_only has_steps findings from.0 from.1 in
        let own = hypothesis_there basis line read passes findings are at.0 from.0 at.1 in
        elim (part_or_none read at.0) [
          | inl found ↦ Contains-along (map steps_in_part read.parts) (steps_in_part found.0) (steps_in_finding from.0) x (steps_same at.0 own.0 from.0 own.2 found.0 found.1) from.2
              (Contains-map steps_in_part read.parts found.0 found.1.stands)
          | inr none ↦ absurd (none_passes from.0.steps (own.2.steps_are ∙ none) at.2)
        ]

    -- The steps of the findings that have some are those of the parts.
    pub steps_named : map steps_in_finding (filter has_steps findings) ≡ map steps_in_part read.parts
    steps_named =
        same_by_number (λ (n : NumberedSteps). n.number) (map steps_in_finding (filter has_steps findings)) (map steps_in_part read.parts)
        (AllPairs-map (λ (a b : NumberedSteps). a.number < b.number) steps_in_finding (filter has_steps findings)
        (AllPairs-filter (λ (a b : Finding). a.number < b.number) has_steps findings findings_rise))
        (AllPairs-map (λ (a b : NumberedSteps). a.number < b.number) steps_in_part read.parts (parts_rise basis line read passes))
        steps_to steps_from

    -- ---- those that were rejected now

    -- a tree with steps of this round was not closed before
    not_closed_before : (number : ℕ) (finding : Finding) → finding.steps ≡ steps_read read number → has_steps finding ≡ true → WasClosed basis number → ⊥
    not_closed_before number finding steps_are some closed = elim (part_or_none read number) [
      | inl found ↦ (passes.parts found.1.stands.0 found.0 (slice_get-contains read.parts found.0 found.1.stands)).may.not_closed (subst (WasClosed basis) (sym found.1.numbered) closed)
      | inr none ↦ none_passes finding.steps (steps_are ∙ none) some
    ]

    -- and one that is closed now, and was not before, has steps
    steps_by_closing : (number : ℕ) (finding : Finding) → finding.steps ≡ steps_read read number → IsClosedByRound basis read number → (WasClosed basis number → ⊥) → has_steps finding ≡ true
    steps_by_closing number finding steps_are closed not_before = elim (part_or_none read number) [
      | inl found ↦ some_pass finding.steps
          (subst (λ (s : List Step). 0 < length s) (sym (steps_are ∙ found.1.steps_are)) (All-contains (λ (part : Part). 0 < length part.steps) read.parts found.0 each_has found.1.stands))
      | inr none ↦ absurd (not_before (subst (AreClosed basis number) (ap (with_steps (basis.steps number) basis.log) none ∙ append-nil (basis.steps number)) closed))
    ]

    rejected_to : (x : NumberedHypothesis) → Contains (map named_in (filter is_rejected_now findings)) x → Contains (map named_hypothesis read.rejected) x
    rejected_to x member =
        let from = Contains-map_only named_in (filter is_rejected_now findings) x member in
        let at = Contains-filter_only is_rejected_now findings from.0 from.1 in
        let both = and_parts (is_rejected from.0.status) (has_steps from.0) at.2 in
        let own = hypothesis_there basis line read passes findings are at.0 from.0 at.1 in
        let closed = (rejected_exactly basis line read passes at.0 own.0 own.1 from.0 own.2).0 both.0 in
        let same : record { number = at.0; hypothesis = own.0 } ≡ named_in from.0 = λ i. record { number = sym own.2.number_is i; hypothesis = sym own.2.hypothesis_is i } in
        Contains-along (map named_hypothesis read.rejected) (record { number = at.0; hypothesis = own.0 }) (named_in from.0) x same from.2
        ((passes.rejected.exact at.0 own.0).1 (own.1, closed, not_closed_before at.0 from.0 own.2.steps_are both.1))

    rejected_from : (x : NumberedHypothesis) → Contains (map named_hypothesis read.rejected) x → Contains (map named_in (filter is_rejected_now findings)) x
    rejected_from x member =
        let is = (passes.rejected.exact x.number x.hypothesis).0 member in
        let found = finding_there basis line read passes findings are x.number x.hypothesis is.0 in
        let rejected = (rejected_exactly basis line read passes x.number x.hypothesis is.0 found.0 found.2).1 is.1 in
        let some = steps_by_closing x.number found.0 found.2.steps_are is.1 is.2 in
        let same : named_in found.0 ≡ x = λ i. record { number = found.2.number_is i; hypothesis = found.2.hypothesis_is i } in
        subst (Contains (map named_in (filter is_rejected_now findings))) same
        (Contains-map named_in (filter is_rejected_now findings) found.0
        (Contains-filter is_rejected_now findings x.number found.0 found.1 (and_from (is_rejected found.0.status) (has_steps found.0) rejected some)))

    -- The findings that were rejected now are those that the rejected lines name.
    pub rejected_named : map named_in (filter is_rejected_now findings) ≡ map named_hypothesis read.rejected
    rejected_named =
        same_by_number (λ (n : NumberedHypothesis). n.number) (map named_in (filter is_rejected_now findings)) (map named_hypothesis read.rejected)
        (AllPairs-map (λ (a b : NumberedHypothesis). a.number < b.number) named_in (filter is_rejected_now findings)
        (AllPairs-filter (λ (a b : Finding). a.number < b.number) is_rejected_now findings findings_rise))
        passes.rejected.rising
        rejected_to rejected_from
