-- A right round passes each test.
use Rattle.std.proofs.Common.{◌≡◌, not, ℕ, ◌<◌, Bool, true, false, eqb, List, [], length, map, filter, take, Some, slice_get, inl, inr, refl, sym, ap, subst, ◌∙◌, arith, append-nil}
use Rattle.std.specs.List.{AllPairs, Contains}
use Rattle.std.proofs.lemmas.Bool.{and_parts, and_from, cases_Bool, false≢true}
use Rattle.std.proofs.lemmas.List.{length-map}
use Rattle.std.proofs.lemmas.List.Kept.{AllPairs-filter}
use Rattle.std.proofs.lemmas.List.Sums.{length-filter}
use Rattle.std.proofs.lemmas.Option.{same_Some}
use Rattle.tfpg_base.specs.Hypothesis.{Hypothesis}
use Rattle.tfpg_base.proofs.lemmas.lists.Elements.{Contains-at}
use Rattle.tfpg_base.proofs.lemmas.lists.Images.{AllPairs-map, Contains-map, Contains-map_only, map-map}
use Rattle.tfpg_base.proofs.lemmas.lists.Passing.{Contains-filter, Contains-filter_only}
use Rattle.tfpg_log.specs.Explains.{Explains}
use Rattle.tfpg_evidence.specs.declared.finding.Finding.{Finding}
use Rattle.tfpg_evidence.specs.declared.finding.Status.{Status}
use Rattle.tfpg_evidence.specs.declared.finding.Status.TheVariants.{Ranked, Covered, Rejected, Open}
use Rattle.tfpg_evidence.specs.declared.round.Round.{Round}
use Rattle.tfpg_evidence.specs.declared.round.Counts.{Counts}
use Rattle.tfpg_evidence.specs.declared.step.Step.{Step}
use Rattle.tfpg_evidence.specs.RoundOf.{is_ranked, is_rejected, is_open}
use Rattle.tfpg_evidence.specs.Findings.{hypothesis_of, is_rejected_now, ranked_in_order, open_in}
use Rattle.tfpg_clause.specs.Trees.{split_count}
use Rattle.tfpg_clause.specs.Paths.{with_steps}
use Rattle.tfpg_hyp.specs.Ranking.{cost_of, robustness_of, IsRankedBefore}
use Rattle.tfpg_hyp.specs.Rounds.{HasRankedPart, counts_of}
use Rattle.tfpg_hyp.specs.Views.{IsReachOf, log_for}
use Rattle.tfpg_hyp.proofs.lemmas.FindingsOfRound.{HasFindingAt}
use Rattle.tfpg_report.specs.declared.read_round.NamedSet.{NamedSet}
use Rattle.tfpg_report.specs.declared.read_round.Part.{Part}
use Rattle.tfpg_report.specs.declared.read_round.RankedLine.{RankedLine}
use Rattle.tfpg_report.specs.declared.read_round.ReadRound.{ReadRound}
use Rattle.tfpg_report.specs.Blocks.{round_lines}
use Rattle.tfpg_report.specs.Reading.{IsReadFrom}
use Rattle.tfpg_check.specs.Judging.{RoundBasis, IsNumberOf, NumberedHypothesis, AreClosed, IsClosedByRound, WasClosed, MayBeOpen, AreNewlyClosed, EachHasStatus, HasStatus, AreRightCounts, BeginsWell, HasRankedPartIn, key_read, named_hypothesis}
use Rattle.tfpg_check.specs.Passing.{PartPasses, RankedPasses, RoundPasses}
use Rattle.tfpg_check.proofs.lemmas.passing.NamedFindings.{NumberedSteps, named_in, steps_in_finding, steps_in_part, has_steps}
use Rattle.tfpg_check.proofs.lemmas.passing.RightCounts.{count, four_counts}
use Rattle.tfpg_check.proofs.lemmas.completeness.MappedLists.{AllPairs-before_at, AllPairs-unmap}
use Rattle.tfpg_check.proofs.lemmas.completeness.RoundSayings.{RankingSaying, RoundSaying}
use Rattle.tfpg_check.proofs.lemmas.completeness.WhatIsSaid.{ranking_as, ranking_of, ranking_read, said_as_read, saying_of, saying_read}
use Rattle.tfpg_check.proofs.lemmas.completeness.RightRoundFacts.{IsRightBy, Reach, OwnEvidence, AreStepsOf, case_by, as_many, number_of, listed_of, reach_of, evidence_of, finding_for, steps_of_finding, no_steps_after, numbers_rise}
use Rattle.tfpg_check.proofs.lemmas.completeness.RankedFindings.{count_ordered, orders_ranked, ranked_before}
use Rattle.tfpg_check.proofs.lemmas.completeness.ReadLines.{no_steps, closed_read, rejected_read, finding_of_open, finding_of_part, finding_of_ranked, finding_of_rejected, open_of_finding, part_ranked, part_read, ranked_of_finding, rejected_of_finding, steps_are_read}

-- a finding with steps has some
steps_there : (finding : Finding) → has_steps finding ≡ true → finding.steps ≡ [] → ⊥
steps_there finding some none = false≢true (sym (ap (λ (steps : List Step). not (eqb (length steps) 0)) none) ∙ some)

-- a ranked or open status does not reject
ranked_not_rejected : (status : Status) → is_ranked status ≡ true → is_rejected status ≡ true → ⊥
ranked_not_rejected (Ranked trace cost alarmed monitored) ranked rejected = absurd cc
ranked_not_rejected (Covered by) ranked rejected = absurd cc
ranked_not_rejected Rejected ranked rejected = absurd cc
ranked_not_rejected Open ranked rejected = absurd cc

open_not_rejected : (status : Status) → is_open status ≡ true → is_rejected status ≡ true → ⊥
open_not_rejected (Ranked trace cost alarmed monitored) opened rejected = absurd cc
open_not_rejected (Covered by) opened rejected = absurd cc
open_not_rejected Rejected opened rejected = absurd cc
open_not_rejected Open opened rejected = absurd cc

open_not_ranked : (status : Status) → is_open status ≡ true → is_ranked status ≡ true → ⊥
open_not_ranked (Ranked trace cost alarmed monitored) opened ranked = absurd cc
open_not_ranked (Covered by) opened ranked = absurd cc
open_not_ranked Rejected opened ranked = absurd cc
open_not_ranked Open opened ranked = absurd cc

module _ (basis : RoundBasis) (line : ℕ) (round : Round) (right : IsRightBy basis line round) (read : ReadRound) (as_said : saying_read read ≡ saying_of round) where
  begins : BeginsWell basis line read
  begins = record {
    number = ap (λ (said : RoundSaying). said.number) as_said ∙ right.is_round.number;
    line_is = ap (λ (said : RoundSaying). said.line) as_said ∙ right.is_round.line_is;
    now = ap (λ (said : RoundSaying). said.now) as_said ∙ right.is_round.now_is;
  }

  -- ---- steps

  parts_rise : AllPairs (λ (a b : Part). a.number < b.number) read.parts
  parts_rise =
      AllPairs-unmap (λ (a b : NumberedSteps). a.number < b.number) steps_in_part read.parts
      (subst (AllPairs (λ (a b : NumberedSteps). a.number < b.number)) (sym (ap (λ (said : RoundSaying). said.parts) as_said))
      (AllPairs-map (λ (a b : NumberedSteps). a.number < b.number) steps_in_finding (filter has_steps round.findings)
      (AllPairs-filter (λ (a b : Finding). a.number < b.number) has_steps round.findings (numbers_rise basis line round right))))

  part_passes : (index : ℕ) (part : Part) → slice_get read.parts index ≡ Some part → PartPasses basis (take index read.parts) part
  part_passes index part at =
      let own = finding_of_part basis line round right read as_said part (Contains-at read.parts index part at) in
      let finding : Finding = own.0 in
      let reach : List ℕ = Reach basis line round right part.number finding own.1.at in
      let are : AreStepsOf (case_by basis (hypothesis_of finding) reach) (with_steps (basis.steps part.number) basis.log part.steps) (is_rejected finding.status) =
      subst (λ (steps : List Step). AreStepsOf (case_by basis (hypothesis_of finding) reach) (with_steps (basis.steps part.number) basis.log steps) (is_rejected finding.status)) own.1.steps
      (steps_of_finding basis line round right part.number finding own.1.at) in
      record {
        may = record {
          rising = AllPairs-before_at (λ (a b : Part). a.number < b.number) read.parts parts_rise index part at;
          hypothesis = hypothesis_of finding;
          listed = listed_of basis line round right part.number finding own.1.at;
          not_closed = λ closed. steps_there finding own.1.some (no_steps_after basis line round right part.number finding own.1.at closed);
        };
        reach = reach;
        reach_is = reach_of basis line round right part.number finding own.1.at;
        steps = elim (cases_Bool (is_rejected finding.status)) [
          | inl rejected ↦ inr (are.0 rejected)
          | inr partial ↦ inl (are.1 partial)
        ];
      }

  -- ---- ranked ones

  -- What is said of a ranked hypothesis is right.
  record IsRightRanking (said : RankingSaying) : Type 0 where
    listed : IsNumberOf basis said.key.number said.hypothesis
    cost : said.key.cost ≡ cost_of basis.graph said.hypothesis
    reach : List ℕ
    reach_is : IsReachOf basis.graph said.hypothesis reach
    robust : robustness_of basis.graph basis.log reach said.hypothesis.doubts ≡ said.key.robust
    no_part : HasRankedPartIn basis read said.hypothesis → ⊥
    explains : Explains basis.graph (log_for basis.log said.hypothesis) said.hypothesis.set said.trace

  right_ranking : (number : ℕ) (finding : Finding) (at : HasFindingAt round number finding) (status : Status) → OwnEvidence basis line round right number finding at status
      → is_ranked status ≡ true → IsRightRanking (ranking_as finding status)
  right_ranking number finding at (Ranked trace cost alarmed monitored) is ranked = record {
    listed = ap (slice_get basis.hypotheses) (number_of basis line round right number finding at) ∙ listed_of basis line round right number finding at;
    cost = is.3;
    reach = Reach basis line round right number finding at;
    reach_is = reach_of basis line round right number finding at;
    robust = is.4;
    no_part = λ has. is.2 (part_ranked basis line round right read as_said (hypothesis_of finding) has);
    explains = is.1;
  }
  right_ranking number finding at (Covered by) is ranked = absurd cc
  right_ranking number finding at Rejected is ranked = absurd cc
  right_ranking number finding at Open is ranked = absurd cc

  rankings_in_order : AllPairs (λ (a b : RankedLine). IsRankedBefore (key_read a) (key_read b)) read.ranked
  rankings_in_order =
      AllPairs-unmap IsRankedBefore key_read read.ranked
      (subst (AllPairs IsRankedBefore)
      (sym (map-map (λ (said : RankingSaying). said.key) ranking_of (ranked_in_order round))
      ∙ ap (map (λ (said : RankingSaying). said.key)) (sym (ap (λ (said : RoundSaying). said.ranked) as_said))
      ∙ map-map (λ (said : RankingSaying). said.key) ranking_read read.ranked)
      (ranked_before basis line round right))

  ranked_passes : (index : ℕ) (r : RankedLine) → slice_get read.ranked index ≡ Some r → RankedPasses basis read (take index read.ranked) r
  ranked_passes index r at =
      let own = finding_of_ranked basis line round right read as_said r (Contains-at read.ranked index r at) in
      let is : IsRightRanking (ranking_read r) =
      subst IsRightRanking (sym own.1.says)
      (right_ranking r.number own.0 own.1.at own.0.status (evidence_of basis line round right r.number own.0 own.1.at) own.1.ranked) in
      record {
        may = record {
          listed = is.listed;
          not_closed = λ closed. ranked_not_rejected own.0.status own.1.ranked (rejected_read basis line round right read as_said r.number own.0 own.1.at closed);
          cost = is.cost;
          reach = is.reach;
          reach_is = is.reach_is;
          robust = is.robust;
          in_order = AllPairs-before_at (λ (a b : RankedLine). IsRankedBefore (key_read a) (key_read b)) read.ranked rankings_in_order index r at;
          no_part = is.no_part;
        };
        explains = is.explains;
      }

  -- ---- open ones

  open_evidence : (number : ℕ) (finding : Finding) (at : HasFindingAt round number finding) (status : Status) → OwnEvidence basis line round right number finding at status
      → is_open status ≡ true → (HasRankedPart round.findings (hypothesis_of finding) → ⊥) × (split_count finding.steps ≡ basis.terms.budget)
  open_evidence number finding at (Ranked trace cost alarmed monitored) is opened = absurd cc
  open_evidence number finding at (Covered by) is opened = absurd cc
  open_evidence number finding at Rejected is opened = absurd cc
  open_evidence number finding at Open is opened = (is.1, is.2)

  names_rise : (test : Finding → Bool) → AllPairs (λ (a b : NumberedHypothesis). a.number < b.number) (map named_in (filter test round.findings))
  names_rise test =
      AllPairs-map (λ (a b : NumberedHypothesis). a.number < b.number) named_in (filter test round.findings)
      (AllPairs-filter (λ (a b : Finding). a.number < b.number) test round.findings (numbers_rise basis line round right))

  open_rise : AllPairs (λ (a b : NamedSet). a.number < b.number) read.unsettled
  open_rise =
      AllPairs-unmap (λ (a b : NumberedHypothesis). a.number < b.number) named_hypothesis read.unsettled
      (subst (AllPairs (λ (a b : NumberedHypothesis). a.number < b.number)) (sym (ap (λ (said : RoundSaying). said.unsettled) as_said)) (names_rise (λ (f : Finding). is_open f.status)))

  open_passes : (index : ℕ) (named : NamedSet) → slice_get read.unsettled index ≡ Some named → MayBeOpen basis read (take index read.unsettled) named
  open_passes index named at =
      let own = finding_of_open basis line round right read as_said named (Contains-at read.unsettled index named at) in
      let is = open_evidence named.number own.0 own.1.at own.0.status (evidence_of basis line round right named.number own.0 own.1.at) own.1.passes in
      record {
        rising = AllPairs-before_at (λ (a b : NamedSet). a.number < b.number) read.unsettled open_rise index named at;
        listed = listed_of basis line round right named.number own.0 own.1.at ∙ ap Some own.1.hypothesis_is;
        not_closed = λ closed. open_not_rejected own.0.status own.1.passes (rejected_read basis line round right read as_said named.number own.0 own.1.at closed);
        not_ranked = λ ranked. (
            let other = finding_of_ranked basis line round right read as_said ranked.0 ranked.1 in
            let same : other.0 ≡ own.0 = same_Some other.0 own.0 (sym other.1.at ∙ ap (slice_get round.findings) ranked.2 ∙ own.1.at) in
            open_not_ranked own.0.status own.1.passes (sym (ap (λ (f : Finding). is_ranked f.status) same) ∙ other.1.ranked)
            );
        no_part = λ has.
            is.0 (part_ranked basis line round right read as_said (hypothesis_of own.0) (subst (HasRankedPartIn basis read) (sym own.1.hypothesis_is) has));
        spent = ap split_count (steps_are_read basis line round right read as_said named.number own.0 own.1.at) ∙ is.1;
      }

  -- ---- rejected ones

  newly_closed : (number : ℕ) (hypothesis : Hypothesis) → Contains (map named_hypothesis read.rejected) (record { number = number; hypothesis = hypothesis })
      → IsNumberOf basis number hypothesis × IsClosedByRound basis read number × (WasClosed basis number → ⊥)
  newly_closed number hypothesis member =
      let own = finding_of_rejected basis line round right read as_said number hypothesis member in
      let both = and_parts (is_rejected own.0.status) (has_steps own.0) own.1.passes in (
        listed_of basis line round right number own.0 own.1.at ∙ ap Some own.1.hypothesis_is,
        closed_read basis line round right read as_said number own.0 own.1.at both.0,
        λ closed. steps_there own.0 both.1 (no_steps_after basis line round right number own.0 own.1.at closed),
      )

  named_where_closed : (number : ℕ) (hypothesis : Hypothesis) → IsNumberOf basis number hypothesis → IsClosedByRound basis read number → (WasClosed basis number → ⊥)
      → Contains (map named_hypothesis read.rejected) (record { number = number; hypothesis = hypothesis })
  named_where_closed number hypothesis listed closed not_before =
      let own = finding_for basis line round right number hypothesis listed in
      let rejected = rejected_read basis line round right read as_said number own.0 own.1 closed in
      subst (λ (h : Hypothesis). Contains (map named_hypothesis read.rejected) (record { number = number; hypothesis = h })) own.2
      (rejected_of_finding basis line round right read as_said number own.0 own.1
      (and_from (is_rejected own.0.status) (has_steps own.0) rejected (some own.0 own.1 (has_steps own.0) refl)))
    where
      some : (finding : Finding) → HasFindingAt round number finding → (has : Bool) → has_steps finding ≡ has → has_steps finding ≡ true
      some finding at true is = is
      some finding at false is =
          absurd (not_before
          (subst (AreClosed basis number)
          (ap (with_steps (basis.steps number) basis.log) (steps_are_read basis line round right read as_said number finding at ∙ no_steps finding.steps is) ∙ append-nil (basis.steps number))
          closed))

  rejected_passes : AreNewlyClosed basis read (map named_hypothesis read.rejected)
  rejected_passes = record {
    rising = subst (AllPairs (λ (a b : NumberedHypothesis). a.number < b.number)) (sym (ap (λ (said : RoundSaying). said.rejected) as_said)) (names_rise is_rejected_now);
    exact = λ number hypothesis. (newly_closed number hypothesis, λ is. named_where_closed number hypothesis is.0 is.1 is.2);
  }

  -- ---- statuses

  status_there : (number : ℕ) (finding : Finding) (at : HasFindingAt round number finding) (status : Status) → finding.status ≡ status
      → OwnEvidence basis line round right number finding at status → HasStatus basis read number (hypothesis_of finding)
  status_there number finding at (Ranked trace cost alarmed monitored) same is =
      inr (inl (ranked_of_finding basis line round right read as_said number finding at (ap is_ranked same)))
  status_there number finding at (Covered by) same is =
      inr (inr (inr (
        steps_are_read basis line round right read as_said number finding at ∙ is.1,
        part_read basis line round right read as_said (hypothesis_of finding) (by, is.2.part),
      )))
  status_there number finding at Rejected same is = inl (closed_read basis line round right read as_said number finding at (ap is_rejected same))
  status_there number finding at Open same is = inr (inr (inl (open_of_finding basis line round right read as_said number finding at (ap is_open same))))

  each_has_status : EachHasStatus basis read
  each_has_status number hypothesis listed =
      let own = finding_for basis line round right number hypothesis listed in
      subst (HasStatus basis read number) own.2 (status_there number own.0 own.1 own.0.status refl (evidence_of basis line round right number own.0 own.1))

  -- ---- counts

  counts_are : read.counts ≡ counts_of round.findings
  counts_are = ap (λ (said : RoundSaying). said.counts) as_said ∙ right.is_round.counts

  right_counts : AreRightCounts basis read
  right_counts =
      let ranked : length read.ranked ≡ count is_ranked round.findings =
      sym (length-map read.ranked ranking_read) ∙ ap (λ (said : RoundSaying). length said.ranked) as_said ∙ length-map (ranked_in_order round) ranking_of
      ∙ count_ordered basis line round right in
      let opened : length read.unsettled ≡ count is_open round.findings =
      sym (length-map read.unsettled named_hypothesis) ∙ ap (λ (said : RoundSaying). length said.unsettled) as_said ∙ length-map (open_in round) named_in
      ∙ length-filter (λ (f : Finding). is_open f.status) round.findings in
      record {
        ranked = ap (λ (c : Counts). c.ranked) counts_are ∙ sym ranked;
        unsettled = ap (λ (c : Counts). c.unsettled) counts_are ∙ sym opened;
        closed = map (λ (f : Finding). f.number) (filter (λ (f : Finding). is_rejected f.status) round.findings);
        rising = AllPairs-map ◌<◌ (λ (f : Finding). f.number) (filter (λ (f : Finding). is_rejected f.status) round.findings)
            (AllPairs-filter (λ (a b : Finding). a.number < b.number) (λ (f : Finding). is_rejected f.status) round.findings (numbers_rise basis line round right));
        exact = λ number. (to number, back number);
        rejected = ap (λ (c : Counts). c.rejected) counts_are
            ∙ sym (length-map (filter (λ (f : Finding). is_rejected f.status) round.findings) (λ (f : Finding). f.number) ∙ length-filter (λ (f : Finding). is_rejected f.status) round.findings);
        all = omega (
          arith,
          ap (λ (c : Counts). c.ranked) counts_are,
          ap (λ (c : Counts). c.covered) counts_are,
          ap (λ (c : Counts). c.rejected) counts_are,
          ap (λ (c : Counts). c.unsettled) counts_are,
          four_counts round.findings,
          as_many basis line round right,
        );
      }
    where
      to : (number : ℕ) → Contains (map (λ (f : Finding). f.number) (filter (λ (f : Finding). is_rejected f.status) round.findings)) number → IsClosedByRound basis read number
      to number member =
          let from = Contains-map_only (λ (f : Finding). f.number) (filter (λ (f : Finding). is_rejected f.status) round.findings) number member in
          let at = Contains-filter_only (λ (f : Finding). is_rejected f.status) round.findings from.0 from.1 in
          subst (IsClosedByRound basis read) (sym (number_of basis line round right at.0 from.0 at.1) ∙ from.2) (closed_read basis line round right read as_said at.0 from.0 at.1 at.2)

      back : (number : ℕ) → IsClosedByRound basis read number → Contains (map (λ (f : Finding). f.number) (filter (λ (f : Finding). is_rejected f.status) round.findings)) number
      back number closed =
          let own = finding_for basis line round right number closed.hypothesis closed.listed in
          subst (Contains (map (λ (f : Finding). f.number) (filter (λ (f : Finding). is_rejected f.status) round.findings))) (number_of basis line round right number own.0 own.1)
          (Contains-map (λ (f : Finding). f.number) (filter (λ (f : Finding). is_rejected f.status) round.findings) own.0
          (Contains-filter (λ (f : Finding). is_rejected f.status) round.findings number own.0 own.1 (rejected_read basis line round right read as_said number own.0 own.1 closed)))

  -- No test of the round fails.
  pub passes_by_saying : RoundPasses basis line read
  passes_by_saying = record {
    begins = begins;
    parts = part_passes;
    ranked = ranked_passes;
    unsettled = open_passes;
    rejected = rejected_passes;
    statuses = each_has_status;
    counts = right_counts;
  }

-- A right round passes each test, by what was read from its lines.
pub right_round_passes : (basis : RoundBasis) (line : ℕ) (round : Round) (first : ℕ) (read : ReadRound) → IsRightBy basis line round → IsReadFrom first (round_lines round) read → RoundPasses basis line read
right_round_passes basis line round first read right from =
    passes_by_saying basis line round right read (said_as_read first round read (orders_ranked basis line round right) from)
