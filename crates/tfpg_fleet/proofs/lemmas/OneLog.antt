-- Rounds of one log, with no open hypothesis, find the same.
use Rattle.std.proofs.Common.{◌≡◌, ℕ, ◌+◌, ◌≤◌, true, false, Bool, List, length, Some, refl, sym, ap, subst, ◌∙◌}
use Rattle.std.specs.Prelude.{slice_get}
use Rattle.tfpg_base.specs.declared.terms.Terms.{Terms}
use Rattle.tfpg_base.specs.Hypothesis.{Hypothesis}
use Rattle.tfpg_base.proofs.lemmas.lists.Elements.{slice_get-same_length, All-at, Contains-at}
use Rattle.tfpg_base.proofs.lemmas.lists.Elements.{All-list_any_none}
use Rattle.std.proofs.lemmas.Option.{same_Some}
use Rattle.tfpg_graph.specs.Graph.{Tfpg}
use Rattle.tfpg_graph.specs.Valid.{IsValid}
use Rattle.tfpg_log.specs.Log.{Logbook, IsLogOf, IsOrdered}
use Rattle.tfpg_evidence.specs.declared.finding.Finding.{Finding}
use Rattle.tfpg_evidence.specs.declared.round.Round.{Round}
use Rattle.tfpg_evidence.specs.Findings.{hypothesis_of}
use Rattle.tfpg_evidence.specs.RoundOf.{is_open}
use Rattle.tfpg_hyp.specs.Table.{IsHypothesis, IsTable}
use Rattle.tfpg_hyp.specs.Views.{HypothesisFits}
use Rattle.tfpg_hyp.specs.Fitting.{HasFittingPart, AreStatusesOfMinimalSets}
use Rattle.tfpg_hyp.specs.Rounds.{IsRound, HasNoneOpen}
use Rattle.tfpg_fleet.specs.Alone.{FindTheSame, RoundsFindTheSame}

-- what a round without an open hypothesis says of its statuses
abbrev pub SaysMinimal : Type 0
SaysMinimal =
    (graph : Tfpg) (terms : Terms) (line : ℕ) (rounds : List Round) (log : Logbook) (round : Round)
    → IsValid graph → IsLogOf graph log → IsOrdered log → IsRound graph terms rounds log line round
    → HasNoneOpen round → AreStatusesOfMinimalSets graph log terms round.findings

-- a graph has one table
abbrev pub HasOneTable : Type 0
HasOneTable =
    (graph : Tfpg) (terms : Terms) (hypotheses others : List Hypothesis) → IsTable graph terms hypotheses → IsTable graph terms others
    → hypotheses ≡ others

-- tests that hold of the same are equal
same_tests : (one other : Bool) → (one ≡ true → other ≡ true) → (other ≡ true → one ≡ true) → one ≡ other
same_tests true true to from = refl
same_tests true false to from = sym (to refl)
same_tests false true to from = from refl
same_tests false false to from = refl

-- ---- terms that differ in the budget alone

module _ (graph : Tfpg) (terms alone : Terms) (same_k : terms.k ≡ alone.k) (same_doubt : terms.doubt ≡ alone.doubt) where
  hypothesis_also : (hypothesis : Hypothesis) → IsHypothesis graph terms hypothesis → IsHypothesis graph alone hypothesis
  hypothesis_also hypothesis is = record {
    of_graph = is.of_graph;
    doubts_of_graph = is.doubts_of_graph;
    size = subst (λ k. length hypothesis.set + length hypothesis.doubts ≤ k) same_k is.size;
    few_doubts = subst (λ doubt. length hypothesis.doubts ≤ doubt) same_doubt is.few_doubts;
  }

  part_also : (log : Logbook) (hypothesis : Hypothesis) → HasFittingPart graph log terms hypothesis → HasFittingPart graph log alone hypothesis
  part_also log hypothesis has = record { part = has.part; is_one = hypothesis_also has.part has.is_one; proper = has.proper; fits = has.fits }

table_also : (graph : Tfpg) (terms alone : Terms) → terms.k ≡ alone.k → terms.doubt ≡ alone.doubt → (hypotheses : List Hypothesis) → IsTable graph alone hypotheses → IsTable graph terms hypotheses
table_also graph terms alone same_k same_doubt hypotheses is = record {
  exact = λ hypothesis. (
    λ has. hypothesis_also graph alone terms (sym same_k) (sym same_doubt) hypothesis ((is.exact hypothesis).0 has),
    λ one. (is.exact hypothesis).1 (hypothesis_also graph terms alone same_k same_doubt hypothesis one),
  );
  in_order = is.in_order;
}

-- ---- two rounds

-- the hypothesis of a number
finding_on : (graph : Tfpg) (terms : Terms) (rounds : List Round) (log : Logbook) (line : ℕ) (round : Round) (is : IsRound graph terms rounds log line round) (number : ℕ) (finding : Finding)
    → slice_get round.findings number ≡ Some finding → slice_get is.hypotheses number ≡ Some (hypothesis_of finding)
finding_on graph terms rounds log line round is number finding at =
    let there = slice_get-same_length is.hypotheses round.findings number finding is.complete at in
    there.1 ∙ ap Some (sym (is.findings number there.0 finding there.1 at).hypothesis_is)

module _ (minimal : SaysMinimal) (one_table : HasOneTable) (graph : Tfpg) (terms alone : Terms) (same_k : terms.k ≡ alone.k) (same_doubt : terms.doubt ≡ alone.doubt) (valid : IsValid graph) (log : Logbook)
    (of : IsLogOf graph log) (ordered : IsOrdered log) (rounds others : List Round) (line place : ℕ) (round other : Round)
    (is : IsRound graph terms rounds log line round) (its : IsRound graph alone others log place other)
    (none_open : HasNoneOpen round) (none_left : HasNoneOpen other) where
  -- both are on one table
  same_hypotheses : is.hypotheses ≡ its.hypotheses
  same_hypotheses = one_table graph terms is.hypotheses its.hypotheses is.table (table_also graph terms alone same_k same_doubt its.hypotheses its.table)

  statuses : AreStatusesOfMinimalSets graph log terms round.findings
  statuses = minimal graph terms line rounds log round valid of ordered is none_open

  other_statuses : AreStatusesOfMinimalSets graph log alone other.findings
  other_statuses = minimal graph alone place others log other valid of ordered its none_left

  module _ (number : ℕ) (finding found : Finding) (at : slice_get round.findings number ≡ Some finding) (there : slice_get other.findings number ≡ Some found) where
    same_hypothesis : hypothesis_of finding ≡ hypothesis_of found
    same_hypothesis =
        let both : Some (hypothesis_of finding) ≡ Some (hypothesis_of found) =
        sym (finding_on graph terms rounds log line round is number finding at) ∙ ap (λ hypotheses. slice_get hypotheses number) same_hypotheses ∙ finding_on graph alone others log place other its number found there in
        same_Some (hypothesis_of finding) (hypothesis_of found) both

    fits_also : HypothesisFits graph log (hypothesis_of finding) → HypothesisFits graph log (hypothesis_of found)
    fits_also = subst (HypothesisFits graph log) same_hypothesis

    fits_before : HypothesisFits graph log (hypothesis_of found) → HypothesisFits graph log (hypothesis_of finding)
    fits_before = subst (HypothesisFits graph log) (sym same_hypothesis)

    part_there : HasFittingPart graph log terms (hypothesis_of finding) → HasFittingPart graph log alone (hypothesis_of found)
    part_there has = subst (HasFittingPart graph log alone) same_hypothesis (part_also graph terms alone same_k same_doubt log (hypothesis_of finding) has)

    part_back : HasFittingPart graph log alone (hypothesis_of found) → HasFittingPart graph log terms (hypothesis_of finding)
    part_back has = subst (HasFittingPart graph log terms) (sym same_hypothesis) (part_also graph alone terms (sym same_k) (sym same_doubt) log (hypothesis_of found) has)

    find_the_same : FindTheSame finding found
    find_the_same =
        let here = Contains-at round.findings number finding at in
        let also = Contains-at other.findings number found there in
        let ranked = statuses.ranked finding here in
        let ranked_there = other_statuses.ranked found also in
        let covered = statuses.covered finding here in
        let covered_there = other_statuses.covered found also in
        let rejected = statuses.rejected finding here in
        let rejected_there = other_statuses.rejected found also in
        record {
          hypothesis = same_hypothesis;
          ranked = same_tests _ _
              (λ holds. let is = ranked.0 holds in ranked_there.1 (fits_also is.0, λ has. is.1 (part_back has)))
              (λ holds. let is = ranked_there.0 holds in ranked.1 (fits_before is.0, λ has. is.1 (part_there has)));
          covered = same_tests _ _
              (λ holds. let is = covered.0 holds in covered_there.1 (fits_also is.0, part_there is.1))
              (λ holds. let is = covered_there.0 holds in covered.1 (fits_before is.0, part_back is.1));
          rejected = same_tests _ _
              (λ holds. rejected_there.1 (λ fits. rejected.0 holds (fits_before fits)))
              (λ holds. rejected.1 (λ fits. rejected_there.0 holds (fits_also fits)));
          left_open =
              All-at (λ (f : Finding). is_open f.status ≡ false) round.findings number finding (All-list_any_none (λ (f : Finding). is_open f.status) round.findings none_open) at
              ∙ sym (All-at (λ (f : Finding). is_open f.status ≡ false) other.findings number found (All-list_any_none (λ (f : Finding). is_open f.status) other.findings none_left) there);
        }

  pub find_one_thing : RoundsFindTheSame round other
  find_one_thing = record {
    as_many = is.complete ∙ ap length same_hypotheses ∙ sym its.complete;
    each = find_the_same;
  }
