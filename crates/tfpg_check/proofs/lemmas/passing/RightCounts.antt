-- The counts of a round that passes are those of its findings.
use Rattle.std.proofs.Common.{◌≡◌, ◌≢◌, ℕ, ◌+◌, ◌<◌, cond, Bool, List, [], ◌∷◌, length, map, filter, count_by, refl, sym, ap, subst, ◌∙◌, arith}
use Rattle.std.specs.List.{AllPairs, Contains}
use Rattle.std.proofs.lemmas.List.{length-map}
use Rattle.std.proofs.lemmas.List.Kept.{AllPairs-filter}
use Rattle.std.proofs.lemmas.List.Sums.{sum_by-cons, length-filter}
use Rattle.tfpg_base.specs.Set.{Rises}
use Rattle.tfpg_base.proofs.lemmas.lists.Elements.{All-from_members}
use Rattle.tfpg_base.proofs.lemmas.lists.Images.{AllPairs-map, Contains-map, Contains-map_only}
use Rattle.tfpg_base.proofs.lemmas.lists.Ordered.{same_from_members, Rises-differ}
use Rattle.tfpg_base.proofs.lemmas.lists.Passing.{Contains-filter, Contains-filter_only}
use Rattle.tfpg_base.proofs.lemmas.lists.Pigeons.{length-le_contained}
use Rattle.tfpg_evidence.specs.declared.finding.Finding.{Finding}
use Rattle.tfpg_evidence.specs.declared.finding.Status.{Status}
use Rattle.tfpg_evidence.specs.declared.finding.Status.TheVariants.{Ranked, Covered, Rejected, Open}
use Rattle.tfpg_evidence.specs.RoundOf.{is_ranked, is_covered, is_rejected, is_open}
use Rattle.tfpg_hyp.specs.Rounds.{counts_of}
use Rattle.tfpg_report.specs.declared.read_round.RankedLine.{RankedLine}
use Rattle.tfpg_report.specs.declared.read_round.ReadRound.{ReadRound}
use Rattle.tfpg_check.specs.Judging.{RoundBasis, named_hypothesis}
use Rattle.tfpg_check.specs.Passing.{RoundPasses}
use Rattle.tfpg_check.proofs.lemmas.passing.ByNumber.{AllPairs-from_indexes, Contains-along}
use Rattle.tfpg_check.proofs.lemmas.passing.ReadFindings.{AreReadFindings}
use Rattle.tfpg_check.proofs.lemmas.passing.OneStatus.{not_twice, ranked_exactly, rejected_exactly, finding_there, hypothesis_there, ranked_finding}
use Rattle.tfpg_check.proofs.lemmas.passing.NamedFindings.{named_in, findings_rise, open_named}

-- each status is one of four
one_of_four : (status : Status) → cond (is_ranked status) 1 0 + cond (is_covered status) 1 0 + cond (is_rejected status) 1 0 + cond (is_open status) 1 0 ≡ 1
one_of_four (Ranked trace cost alarmed monitored) = refl
one_of_four (Covered by) = refl
one_of_four Rejected = refl
one_of_four Open = refl

-- how many findings have a status that passes a test
abbrev pub count : (Status → Bool) → List Finding → ℕ
count test findings = count_by (λ (f : Finding). test f.status) findings

-- so the four counts are together that of all
pub four_counts : (findings : List Finding) → count is_ranked findings + count is_covered findings + count is_rejected findings + count is_open findings ≡ length findings
four_counts [] = refl
four_counts (f ∷ findings) =
    omega (
      arith,
      one_of_four f.status,
      four_counts findings,
      sum_by-cons (λ (g : Finding). cond (is_ranked g.status) 1 0) f findings,
      sum_by-cons (λ (g : Finding). cond (is_covered g.status) 1 0) f findings,
      sum_by-cons (λ (g : Finding). cond (is_rejected g.status) 1 0) f findings,
      sum_by-cons (λ (g : Finding). cond (is_open g.status) 1 0) f findings,
    )

module _ (basis : RoundBasis) (line : ℕ) (read : ReadRound) (passes : RoundPasses basis line read) (findings : List Finding) (are : AreReadFindings basis read findings) where
  -- the numbers of the findings that pass a test
  abbrev numbers_of : (Finding → Bool) → List ℕ
  numbers_of test = map (λ (f : Finding). f.number) (filter test findings)

  numbers_rise : (test : Finding → Bool) → Rises (numbers_of test)
  numbers_rise test =
      AllPairs-map ◌<◌ (λ (f : Finding). f.number) (filter test findings)
      (AllPairs-filter (λ (a b : Finding). a.number < b.number) test findings (findings_rise basis line read passes findings are))

  length-numbers_of : (test : Finding → Bool) → length (numbers_of test) ≡ count_by test findings
  length-numbers_of test = length-map (filter test findings) (λ (f : Finding). f.number) ∙ length-filter test findings

  -- ---- ranked ones

  abbrev ranked_numbers : List ℕ
  ranked_numbers = map (λ (r : RankedLine). r.number) read.ranked

  ranked_apart : AllPairs ◌≢◌ ranked_numbers
  ranked_apart =
      AllPairs-map ◌≢◌ (λ (r : RankedLine). r.number) read.ranked
      (AllPairs-from_indexes (λ (a b : RankedLine). a.number ≢ b.number) read.ranked (not_twice basis line read passes))

  ranked_to : (number : ℕ) → Contains ranked_numbers number → Contains (numbers_of (λ (f : Finding). is_ranked f.status)) number
  ranked_to number member =
      let from = Contains-map_only (λ (r : RankedLine). r.number) read.ranked number member in
      let found = ranked_finding basis line read passes findings are from.0 from.1 in
      subst (Contains (numbers_of (λ (f : Finding). is_ranked f.status))) (found.2.number_is ∙ from.2)
      (Contains-map (λ (f : Finding). f.number) (filter (λ (f : Finding). is_ranked f.status) findings) found.0
      (Contains-filter (λ (f : Finding). is_ranked f.status) findings from.0.number found.0 found.1 (ap is_ranked found.3)))

  ranked_from : (number : ℕ) → Contains (numbers_of (λ (f : Finding). is_ranked f.status)) number → Contains ranked_numbers number
  ranked_from number member =
      let from = Contains-map_only (λ (f : Finding). f.number) (filter (λ (f : Finding). is_ranked f.status) findings) number member in
      let at = Contains-filter_only (λ (f : Finding). is_ranked f.status) findings from.0 from.1 in
      let own = hypothesis_there basis line read passes findings are at.0 from.0 at.1 in
      let ranked = (ranked_exactly basis line read passes at.0 own.0 own.1 from.0 own.2).0 at.2 in
      subst (Contains ranked_numbers) from.2
      (Contains-along ranked_numbers ranked.0.number at.0 from.0.number ranked.2 (sym own.2.number_is) (Contains-map (λ (r : RankedLine). r.number) read.ranked ranked.0 ranked.1))

  -- as many are ranked as there are ranked lines
  count_ranked : count is_ranked findings ≡ length read.ranked
  count_ranked =
      let found : List ℕ = numbers_of (λ (f : Finding). is_ranked f.status) in
      let few = length-le_contained ranked_numbers found ranked_apart (All-from_members (Contains found) ranked_numbers ranked_to) in
      let many =
      length-le_contained found ranked_numbers (Rises-differ found (numbers_rise (λ (f : Finding). is_ranked f.status))) (All-from_members (Contains ranked_numbers) found ranked_from) in
      omega (arith, few, many, length-map read.ranked (λ (r : RankedLine). r.number), length-numbers_of (λ (f : Finding). is_ranked f.status))

  -- ---- open ones

  -- as many are open as there are open lines
  count_open : count is_open findings ≡ length read.unsettled
  count_open =
      sym (length-filter (λ (f : Finding). is_open f.status) findings) ∙ sym (length-map (filter (λ (f : Finding). is_open f.status) findings) named_in)
      ∙ ap length (open_named basis line read passes findings are) ∙ length-map read.unsettled named_hypothesis

  -- ---- rejected ones

  rejected_to : (number : ℕ) → Contains passes.counts.closed number → Contains (numbers_of (λ (f : Finding). is_rejected f.status)) number
  rejected_to number member =
      let closed = (passes.counts.exact number).0 member in
      let found = finding_there basis line read passes findings are number closed.hypothesis closed.listed in
      let rejected = (rejected_exactly basis line read passes number closed.hypothesis closed.listed found.0 found.2).1 closed in
      subst (Contains (numbers_of (λ (f : Finding). is_rejected f.status))) found.2.number_is
      (Contains-map (λ (f : Finding). f.number) (filter (λ (f : Finding). is_rejected f.status) findings) found.0
      (Contains-filter (λ (f : Finding). is_rejected f.status) findings number found.0 found.1 rejected))

  rejected_from : (number : ℕ) → Contains (numbers_of (λ (f : Finding). is_rejected f.status)) number → Contains passes.counts.closed number
  rejected_from number member =
      let from = Contains-map_only (λ (f : Finding). f.number) (filter (λ (f : Finding). is_rejected f.status) findings) number member in
      let at = Contains-filter_only (λ (f : Finding). is_rejected f.status) findings from.0 from.1 in
      let own = hypothesis_there basis line read passes findings are at.0 from.0 at.1 in
      let closed = (rejected_exactly basis line read passes at.0 own.0 own.1 from.0 own.2).0 at.2 in
      subst (Contains passes.counts.closed) (sym own.2.number_is ∙ from.2) ((passes.counts.exact at.0).1 closed)

  -- as many are rejected as there are closed trees
  count_rejected : count is_rejected findings ≡ length passes.counts.closed
  count_rejected =
      sym (length-numbers_of (λ (f : Finding). is_rejected f.status))
      ∙ ap length (same_from_members (numbers_of (λ (f : Finding). is_rejected f.status)) passes.counts.closed
      (numbers_rise (λ (f : Finding). is_rejected f.status)) passes.counts.rising rejected_from rejected_to)

  -- The counts are those of the findings.
  pub are_counts : read.counts ≡ counts_of findings
  are_counts =
      let ranked : read.counts.ranked ≡ count is_ranked findings = passes.counts.ranked ∙ sym count_ranked in
      let unsettled : read.counts.unsettled ≡ count is_open findings = passes.counts.unsettled ∙ sym count_open in
      let rejected : read.counts.rejected ≡ count is_rejected findings = passes.counts.rejected ∙ sym count_rejected in
      let covered : read.counts.covered ≡ count is_covered findings =
      omega (arith, ranked, unsettled, rejected, passes.counts.all, four_counts findings, are.as_many) in
      λ i. record { ranked = ranked i; covered = covered i; rejected = rejected i; unsettled = unsettled i }
