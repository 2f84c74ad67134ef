-- The findings of a round that passes are findings of a round, and their order is the ranking order.
use Rattle.std.proofs.Common.{◌≡◌, ℕ, true, List, [], ◌∷◌, ◌++◌, length, map, take, Option, Some, None, slice_get, refl, sym, ap, subst, subst₂, ◌∙◌}
use Rattle.std.specs.List.{Contains}
use Rattle.std.specs.Prelude.{option_and_then}
use Rattle.tfpg_base.specs.Hypothesis.{Hypothesis, IsProperPart}
use Rattle.tfpg_base.proofs.lemmas.lists.Elements.{All-from_members}
use Rattle.tfpg_base.proofs.lemmas.lists.Images.{AllPairs-map, Contains-map, map-map}
use Rattle.tfpg_graph.proofs.lemmas.reach.Reaches.{reach_is_one}
use Rattle.tfpg_log.specs.Explains.{Explains}
use Rattle.tfpg_evidence.specs.declared.finding.Finding.{Finding}
use Rattle.tfpg_evidence.specs.declared.finding.Status.{Status}
use Rattle.tfpg_evidence.specs.declared.finding.Status.TheVariants.{Ranked, Covered, Rejected, Open}
use Rattle.tfpg_evidence.specs.declared.round.Round.{Round}
use Rattle.tfpg_evidence.specs.RoundOf.{is_ranked}
use Rattle.tfpg_evidence.specs.Findings.{hypothesis_of}
use Rattle.tfpg_clause.specs.Trees.{Judged, IsPartial, split_count}
use Rattle.tfpg_clause.specs.Paths.{with_steps}
use Rattle.tfpg_hyp.specs.Ranking.{cost_of, robustness_of, IsRankedBefore}
use Rattle.tfpg_hyp.specs.Rounds.{IsFinding, HasEvidence, IsRankedPart, HasRankedPart, IsOrder, key_of_status, key_at, steps_so_far}
use Rattle.tfpg_hyp.specs.Views.{IsReachOf, case_for, log_for}
use Rattle.tfpg_hyp.specs.declared.place.Place.{Place}
use Rattle.tfpg_hyp.proofs.lemmas.FindingsOfRound.{steps_so_far-push}
use Rattle.tfpg_report.specs.declared.read_round.RankedLine.{RankedLine}
use Rattle.tfpg_report.specs.declared.read_round.ReadRound.{ReadRound}
use Rattle.tfpg_report.specs.ReadRounds.{hypothesis_ranked}
use Rattle.tfpg_check.specs.Judging.{RoundBasis, IsNumberOf, HasRankedPartIn, key_read, steps_read}
use Rattle.tfpg_check.specs.Passing.{RankedPasses, RoundPasses}
use Rattle.tfpg_check.proofs.lemmas.passing.ByNumber.{AllPairs-from_before, map-same}
use Rattle.tfpg_check.proofs.lemmas.passing.PartSteps.{steps_now}
use Rattle.tfpg_check.proofs.lemmas.passing.ReadFindings.{Reached, HasRead, IsRankedPartIn, HasRankedPartIn-from, IsReadFinding, AreReadFindings, status_read}
use Rattle.tfpg_check.proofs.lemmas.passing.OneStatus.{ranked_passes, open_passes, ranked_names, ranked_alone, open_alone, ranked_exactly, finding_there, hypothesis_there, ranked_finding}

-- the round of what was read, with these findings
abbrev pub round_read : ReadRound → List Finding → Round
round_read read findings =
    record {
      number = read.number;
      line = read.line;
      now = read.now;
      findings = findings;
      order = map (λ (r : RankedLine). r.number) read.ranked;
      counts = read.counts;
    }

-- a status with a key ranks
has_key : (number : ℕ) (status : Status) (key : Place) → key_of_status number status ≡ Some key → is_ranked status ≡ true
has_key number (Ranked trace cost alarmed monitored) key is = refl
has_key number (Covered by) key is = cc
has_key number Rejected key is = cc
has_key number Open key is = cc

module _ (basis : RoundBasis) (line : ℕ) (read : ReadRound) (passes : RoundPasses basis line read) (findings : List Finding) (are : AreReadFindings basis read findings) where
  -- ---- evidence

  module _ (number : ℕ) (hypothesis : Hypothesis) (at : IsNumberOf basis number hypothesis) (finding : Finding) (is : IsReadFinding basis read number hypothesis finding) where
    -- a ranked part among the findings has a ranked line
    part_read : (other : ℕ) → IsRankedPart findings (hypothesis_of finding) other → IsRankedPartIn basis read hypothesis other
    part_read other part =
        let there = hypothesis_there basis line read passes findings are other part.finding part.numbered in
        let ranked = (ranked_exactly basis line read passes other there.0 there.1 part.finding there.2).0 part.ranked in
        (ranked, (there.0, there.1, subst₂ IsProperPart there.2.hypothesis_is is.hypothesis_is part.part))

    -- and the other way round
    part_found : (other : ℕ) → IsRankedPartIn basis read hypothesis other → IsRankedPart findings (hypothesis_of finding) other
    part_found other part =
        let there = finding_there basis line read passes findings are other part.1.0 part.1.1 in
        record {
          finding = there.0;
          numbered = there.1;
          ranked = (ranked_exactly basis line read passes other part.1.0 part.1.1 there.0 there.2).1 part.0;
          part = subst₂ IsProperPart (sym there.2.hypothesis_is) (sym is.hypothesis_is) part.1.2;
        }

    -- no proper part is ranked where none has a line
    alone : (HasRankedPartIn basis read hypothesis → ⊥) → HasRankedPart findings (hypothesis_of finding) → ⊥
    alone none has = none (HasRankedPartIn-from basis read hypothesis has.0 (part_read has.0 has.1))

    abbrev Own : Reached
    Own = record { number = number; hypothesis = hypothesis; reach = is.reach }

    -- it has the evidence of this status
    abbrev Evidence : Status → Type 0
    Evidence status = HasEvidence (case_for basis.graph basis.log hypothesis is.reach) basis.terms.budget findings (steps_now basis read number) finding status

    ranked_evidence : (r : RankedLine) → Contains read.ranked r → r.number ≡ number → IsPartial (case_for basis.graph basis.log hypothesis is.reach) (steps_now basis read number)
        → Evidence (status_read r)
    ranked_evidence r stands numbered partial = (
      partial,
      subst (λ (h : Hypothesis). Explains basis.graph (log_for basis.log hypothesis) h.set r.trace) (sym is.hypothesis_is)
          (subst (λ (h : Hypothesis). Explains basis.graph (log_for basis.log h) h.set r.trace) names passed.explains),
      alone (ranked_alone basis line read passes number hypothesis at (r, stands, numbered)),
      passed.may.cost ∙ ap (cost_of basis.graph) (names ∙ sym is.hypothesis_is),
      sym (λ i. robustness_of basis.graph basis.log (same_reach i) ((names ∙ sym is.hypothesis_is) i).doubts) ∙ passed.may.robust,
    )
      where
        passed : RankedPasses basis read (take stands.0 read.ranked) r
        passed = ranked_passes basis line read passes r stands

        names : hypothesis_ranked r ≡ hypothesis
        names = ranked_names basis line read passes number hypothesis at r stands numbered

        same_reach : passed.may.reach ≡ is.reach
        same_reach =
            reach_is_one basis.graph hypothesis.set passed.may.reach (subst (λ (h : Hypothesis). IsReachOf basis.graph h passed.may.reach) names passed.may.reach_is) is.reach is.reach_is

    evidence_by : (status : Status) → HasRead basis read Own status → Evidence status
    evidence_by Rejected has = has
    evidence_by (Ranked trace cost alarmed monitored) has = subst Evidence (sym has.1.3) (ranked_evidence has.1.0 has.1.1 has.1.2 has.0)
    evidence_by (Covered by) has = (
      has.0,
      is.steps_are ∙ has.1,
      record { part = part_found by has.2.part; least = λ other part. has.2.least other (part_read other part) },
    )
    evidence_by Open has = (
      has.0,
      alone (open_alone basis line read passes number hypothesis at has.1),
      ap split_count is.steps_are ∙ ap (λ (n : ℕ). split_count (steps_read read n)) (sym has.1.2) ∙ (open_passes basis line read passes has.1.0 has.1.1).spent,
    )

    evidence_read : Evidence finding.status
    evidence_read = evidence_by finding.status is.has

  -- Each is a finding of the round, after rounds with the steps so far.
  pub are_findings : (rounds : List Round) → ((number : ℕ) → basis.steps number ≡ steps_so_far number rounds) → (number : ℕ) (hypothesis : Hypothesis) (finding : Finding)
      → IsNumberOf basis number hypothesis → slice_get findings number ≡ Some finding
      → IsFinding (record { graph = basis.graph; log = basis.log; terms = basis.terms }) (rounds ++ round_read read findings ∷ []) findings number hypothesis finding
  are_findings rounds steps number hypothesis finding at found =
      let is = are.each number hypothesis finding at found in
      let same : steps_so_far number (rounds ++ round_read read findings ∷ []) ≡ steps_now basis read number =
      steps_so_far-push number rounds (round_read read findings) (length basis.log.events) finding passes.begins.number found
      ∙ (λ i. with_steps (sym (steps number) i) basis.log (is.steps_are i)) in
      record {
        number_is = is.number_is;
        hypothesis_is = is.hypothesis_is;
        reach = is.reach;
        reach_is = is.reach_is;
        evidence = subst (λ (all : List Judged). HasEvidence (case_for basis.graph basis.log hypothesis is.reach) basis.terms.budget findings all finding finding.status) (sym same)
            (evidence_read number hypothesis at finding is);
      }

  -- ---- the order

  -- the finding of the number of a ranked line has its key
  key_of_line : (r : RankedLine) → Contains read.ranked r → key_at findings r.number ≡ Some (key_read r)
  key_of_line r stands =
      let found = ranked_finding basis line read passes findings are r stands in
      ap (option_and_then (λ (f : Finding). key_of_status r.number f.status)) found.1 ∙ ap (key_of_status r.number) found.3

  each_ranked : (number : ℕ) (key : Place) → key_at findings number ≡ Some key → Contains (map (λ (r : RankedLine). r.number) read.ranked) number
  each_ranked number key is = by (slice_get findings number) refl is
    where
      by : (found : Option Finding) → slice_get findings number ≡ found → option_and_then (λ (f : Finding). key_of_status number f.status) found ≡ Some key
          → Contains (map (λ (r : RankedLine). r.number) read.ranked) number
      by None none key_is = cc
      by (Some finding) there key_is =
          let own = hypothesis_there basis line read passes findings are number finding there in
          let ranked = (ranked_exactly basis line read passes number own.0 own.1 finding own.2).0 (has_key number finding.status key key_is) in
          subst (Contains (map (λ (r : RankedLine). r.number) read.ranked)) ranked.2 (Contains-map (λ (r : RankedLine). r.number) read.ranked ranked.0 ranked.1)

  -- The numbers of the ranked lines are the order of the findings.
  pub is_order : IsOrder findings (map (λ (r : RankedLine). r.number) read.ranked)
  is_order = record {
    keys = map key_read read.ranked;
    all_ranked =
        map-map (key_at findings) (λ (r : RankedLine). r.number) read.ranked
        ∙ map-same (λ (r : RankedLine). key_at findings r.number) (λ (r : RankedLine). Some (key_read r)) read.ranked
        (All-from_members (λ (r : RankedLine). key_at findings r.number ≡ Some (key_read r)) read.ranked key_of_line)
        ∙ sym (map-map Some key_read read.ranked);
    each_ranked = each_ranked;
    in_order = AllPairs-map IsRankedBefore key_read read.ranked
        (AllPairs-from_before (λ (a b : RankedLine). IsRankedBefore (key_read a) (key_read b)) read.ranked (λ index r at. (passes.ranked index r at).may.in_order));
  }
