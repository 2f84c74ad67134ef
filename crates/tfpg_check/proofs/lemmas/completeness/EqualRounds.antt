-- Right rounds with equal lines are equal.
use Rattle.std.proofs.Common.{◌≡◌, ℕ, ◌≤◌, true, List, [], length, get_or, map, slice_get, refl, sym, ap, subst, ◌∙◌, arith}
use Rattle.std.proofs.lemmas.List.{same_lists}
use Rattle.std.proofs.lemmas.Option.{same_Some, slice_get-get_or}
use Rattle.tfpg_base.specs.declared.terms.Terms.{Terms}
use Rattle.tfpg_base.specs.Hypothesis.{Hypothesis, IsProperPart}
use Rattle.tfpg_base.proofs.lemmas.lists.Elements.{slice_get-same_length}
use Rattle.tfpg_base.proofs.lemmas.lists.Images.{map-map}
use Rattle.tfpg_graph.specs.Graph.{Tfpg}
use Rattle.tfpg_log.specs.Log.{Logbook}
use Rattle.tfpg_evidence.specs.declared.finding.Finding.{Finding}
use Rattle.tfpg_evidence.specs.declared.finding.Status.{Status}
use Rattle.tfpg_evidence.specs.declared.finding.Status.TheVariants.{Ranked, Covered, Rejected, Open}
use Rattle.tfpg_evidence.specs.declared.round.Round.{Round}
use Rattle.tfpg_evidence.specs.RoundOf.{is_ranked, is_rejected, is_open}
use Rattle.tfpg_evidence.specs.Findings.{hypothesis_of, ranked_in_order}
use Rattle.tfpg_hyp.specs.Rounds.{IsRound, IsLeastPart, IsRankedPart, steps_so_far}
use Rattle.tfpg_hyp.proofs.lemmas.FindingsOfRound.{HasFindingAt}
use Rattle.tfpg_report.specs.declared.read_round.NamedSet.{NamedSet}
use Rattle.tfpg_report.specs.declared.read_round.Part.{Part}
use Rattle.tfpg_report.specs.declared.read_round.RankedLine.{RankedLine}
use Rattle.tfpg_report.specs.declared.read_round.ReadRound.{ReadRound}
use Rattle.tfpg_report.specs.Blocks.{round_lines}
use Rattle.tfpg_check.specs.Judging.{RoundBasis, NumberedHypothesis, named_hypothesis}
use Rattle.tfpg_check.proofs.lemmas.SameStatuses.{same_test}
use Rattle.tfpg_check.proofs.lemmas.passing.ByNumber.{map-same}
use Rattle.tfpg_check.proofs.lemmas.passing.NamedFindings.{NumberedSteps, steps_in_part}
use Rattle.tfpg_check.proofs.lemmas.completeness.MappedLists.{map-undone}
use Rattle.tfpg_check.proofs.lemmas.completeness.RoundSayings.{RankingSaying, RoundSaying}
use Rattle.tfpg_check.proofs.lemmas.completeness.WhatIsSaid.{ranking_as, ranking_of, ranking_read, said_alike, saying_of, saying_read}
use Rattle.tfpg_check.proofs.lemmas.completeness.RightRoundFacts.{IsRightBy, OwnEvidence, as_many, evidence_of, listed_of, number_of}
use Rattle.tfpg_check.proofs.lemmas.completeness.RankedFindings.{order_is, orders_ranked}
use Rattle.tfpg_check.proofs.lemmas.completeness.ReadLines.{closed_read, finding_of_open, finding_of_ranked, open_of_finding, ranked_of_finding, ranking_number, rejected_read, steps_are_read}

-- ---- what might have been read

abbrev part_that_says : NumberedSteps → Part
part_that_says numbered = record { first_line = 0; number = numbered.number; steps = numbered.steps; step_lines = [] }

abbrev line_that_says : RankingSaying → RankedLine
line_that_says said =
    record {
      first_line = 0;
      number = said.key.number;
      cost = said.key.cost;
      alarmed = said.key.robust.alarmed;
      monitored = said.key.robust.monitored;
      set = said.hypothesis.set;
      doubts = said.hypothesis.doubts;
      trace = said.trace;
    }

abbrev name_that_says : NumberedHypothesis → NamedSet
name_that_says named = record { first_line = 0; number = named.number; set = named.hypothesis.set; doubts = named.hypothesis.doubts }

-- something to read that says what a round says
abbrev read_that_says : RoundSaying → ReadRound
read_that_says said =
    record {
      number = said.number;
      line = said.line;
      now = said.now;
      first_line = 0;
      parts = map part_that_says said.parts;
      ranked = map line_that_says said.ranked;
      unsettled = map name_that_says said.unsettled;
      rejected = map name_that_says said.rejected;
      counts = said.counts;
      counts_line = 0;
    }

says_so : (said : RoundSaying) → saying_read (read_that_says said) ≡ said
says_so said = λ i. record {
  number = said.number;
  line = said.line;
  now = said.now;
  parts = map-undone part_that_says steps_in_part (λ x. refl) said.parts i;
  ranked = map-undone line_that_says ranking_read (λ x. refl) said.ranked i;
  unsettled = map-undone name_that_says named_hypothesis (λ x. refl) said.unsettled i;
  rejected = map-undone name_that_says named_hypothesis (λ x. refl) said.rejected i;
  counts = said.counts;
}

-- ---- two rounds that say the same

module _ (basis : RoundBasis) (line : ℕ) (read : ReadRound) where
  -- The round is right, and says what was read.
  record IsReadAs (round : Round) : Type 0 where
    right : IsRightBy basis line round
    as_said : saying_read read ≡ saying_of round

  -- what is ranked, open or rejected in the one is so in the other
  module _ (one other : Round) (is_one : IsReadAs one) (is_other : IsReadAs other) (number : ℕ) (finding found : Finding) (at : HasFindingAt one number finding) (also : HasFindingAt other number found) where
    same_hypothesis : hypothesis_of finding ≡ hypothesis_of found
    same_hypothesis =
        same_Some (hypothesis_of finding) (hypothesis_of found) (sym (listed_of basis line one is_one.right number finding at) ∙ listed_of basis line other is_other.right number found also)

    rankings_alike : is_ranked finding.status ≡ true → (is_ranked found.status ≡ true) × (ranking_of finding ≡ ranking_of found)
    rankings_alike ranked =
        let r = ranked_of_finding basis line one is_one.right read is_one.as_said number finding at ranked in
        let first = finding_of_ranked basis line one is_one.right read is_one.as_said r.0 r.1 in
        let second = finding_of_ranked basis line other is_other.right read is_other.as_said r.0 r.1 in
        let is_finding : first.0 ≡ finding = same_Some first.0 finding (sym first.1.at ∙ ap (slice_get one.findings) r.2 ∙ at) in
        let is_found : second.0 ≡ found = same_Some second.0 found (sym second.1.at ∙ ap (slice_get other.findings) r.2 ∙ also) in (
          sym (ap (λ (f : Finding). is_ranked f.status) is_found) ∙ second.1.ranked,
          ap ranking_of (sym is_finding) ∙ sym first.1.says ∙ second.1.says ∙ ap ranking_of is_found,
        )

    open_too : is_open finding.status ≡ true → is_open found.status ≡ true
    open_too opened =
        let named = open_of_finding basis line one is_one.right read is_one.as_said number finding at opened in
        let second = finding_of_open basis line other is_other.right read is_other.as_said named.0 named.1 in
        let is_found : second.0 ≡ found = same_Some second.0 found (sym second.1.at ∙ ap (slice_get other.findings) named.2 ∙ also) in
        sym (ap (λ (f : Finding). is_open f.status) is_found) ∙ second.1.passes

    rejected_too : is_rejected finding.status ≡ true → is_rejected found.status ≡ true
    rejected_too rejected =
        rejected_read basis line other is_other.right read is_other.as_said number found also (closed_read basis line one is_one.right read is_one.as_said number finding at rejected)

    -- a ranked part in the one is one in the other
    part_too : (hypothesis : Hypothesis) → is_ranked finding.status ≡ true → IsProperPart (hypothesis_of finding) hypothesis → IsRankedPart other.findings hypothesis number
    part_too hypothesis ranked part = record {
      finding = found;
      numbered = also;
      ranked = (rankings_alike ranked).0;
      part = subst (λ (h : Hypothesis). IsProperPart h hypothesis) same_hypothesis part;
    }

  finding_too : (one other : Round) → IsReadAs one → IsReadAs other → (number : ℕ) (finding : Finding) → HasFindingAt one number finding → (found : Finding) × HasFindingAt other number found
  finding_too one other is_one is_other number finding at =
      slice_get-same_length other.findings one.findings number finding (as_many basis line one is_one.right ∙ sym (as_many basis line other is_other.right)) at

  part_moved : (one other : Round) → IsReadAs one → IsReadAs other → (hypothesis : Hypothesis) (number : ℕ) → IsRankedPart one.findings hypothesis number → IsRankedPart other.findings hypothesis number
  part_moved one other is_one is_other hypothesis number part =
      let found = finding_too one other is_one is_other number part.finding part.numbered in
      part_too one other is_one is_other number part.finding found.0 part.numbered found.1 hypothesis part.ranked part.part

  module _ (one other : Round) (is_one : IsReadAs one) (is_other : IsReadAs other) where
    module _ (number : ℕ) (finding found : Finding) (at : HasFindingAt one number finding) (also : HasFindingAt other number found) where
      Hypotheses : hypothesis_of finding ≡ hypothesis_of found
      Hypotheses = same_hypothesis one other is_one is_other number finding found at also

      -- the covering hypothesis has the same number
      no_later : (by least : ℕ) → IsLeastPart one.findings (hypothesis_of finding) by → IsLeastPart other.findings (hypothesis_of found) least → by ≤ least
      no_later by least is too =
          is.least least
          (part_moved other one is_other is_one (hypothesis_of finding) least (subst (λ (h : Hypothesis). IsRankedPart other.findings h least) (sym Hypotheses) too.part))

      no_earlier : (by least : ℕ) → IsLeastPart one.findings (hypothesis_of finding) by → IsLeastPart other.findings (hypothesis_of found) least → least ≤ by
      no_earlier by least is too =
          too.least by (part_moved one other is_one is_other (hypothesis_of found) by (subst (λ (h : Hypothesis). IsRankedPart one.findings h by) Hypotheses is.part))

      status_alike : (s t : Status) → OwnEvidence basis line one is_one.right number finding at s → OwnEvidence basis line other is_other.right number found also t
          → is_ranked s ≡ is_ranked t → is_rejected s ≡ is_rejected t → is_open s ≡ is_open t → (is_ranked s ≡ true → ranking_as finding s ≡ ranking_as found t) → s ≡ t
      status_alike (Ranked trace cost alarmed monitored) (Ranked others c a m) is too ranked rejected opened rankings =
          let same = rankings refl in
          λ i. Ranked (same i).trace (same i).key.cost (same i).key.robust.alarmed (same i).key.robust.monitored
      status_alike (Covered by) (Covered least) is too ranked rejected opened rankings =
          let low = no_later by least is.2 too.2 in
          let high = no_earlier by least is.2 too.2 in
          let numbers : by ≡ least = omega (arith, low, high) in
          ap (λ (n : ℕ). Covered n) numbers
      status_alike Rejected Rejected is too ranked rejected opened rankings = refl
      status_alike Open Open is too ranked rejected opened rankings = refl
      status_alike _ _ is too ranked rejected opened rankings = absurd cc

      statuses_alike : finding.status ≡ found.status
      statuses_alike =
          status_alike finding.status found.status (evidence_of basis line one is_one.right number finding at) (evidence_of basis line other is_other.right number found also)
          (same_test (is_ranked finding.status) (is_ranked found.status)
          (λ ranked. (rankings_alike one other is_one is_other number finding found at also ranked).0)
          (λ ranked. (rankings_alike other one is_other is_one number found finding also at ranked).0))
          (same_test (is_rejected finding.status) (is_rejected found.status) (rejected_too one other is_one is_other number finding found at also)
          (rejected_too other one is_other is_one number found finding also at))
          (same_test (is_open finding.status) (is_open found.status) (open_too one other is_one is_other number finding found at also)
          (open_too other one is_other is_one number found finding also at))
          (λ ranked. (rankings_alike one other is_one is_other number finding found at also ranked).1)

      finding_alike : finding ≡ found
      finding_alike =
          let numbers : finding.number ≡ found.number = number_of basis line one is_one.right number finding at ∙ sym (number_of basis line other is_other.right number found also) in
          let steps : finding.steps ≡ found.steps =
          sym (steps_are_read basis line one is_one.right read is_one.as_said number finding at) ∙ steps_are_read basis line other is_other.right read is_other.as_said number found also in
          λ i. record { number = numbers i; set = (Hypotheses i).set; doubts = (Hypotheses i).doubts; steps = steps i; status = statuses_alike i }

    findings_alike : one.findings ≡ other.findings
    findings_alike =
        let many : length one.findings ≡ length other.findings = as_many basis line one is_one.right ∙ sym (as_many basis line other is_other.right) in
        same_lists one.findings other.findings many
        (λ number d within. finding_alike number (get_or one.findings number d) (get_or other.findings number d) (slice_get-get_or one.findings number d within)
        (slice_get-get_or other.findings number d (omega (arith, many, within))))

    order_read : (round : Round) (is : IsReadAs round) → map (λ (said : RankingSaying). said.key.number) (map ranking_read read.ranked) ≡ round.order
    order_read round is =
        ap (λ (said : RoundSaying). map (λ (s : RankingSaying). s.key.number) said.ranked) is.as_said
        ∙ map-map (λ (s : RankingSaying). s.key.number) ranking_of (ranked_in_order round)
        ∙ map-same (λ (f : Finding). (ranking_of f).key.number) (λ (f : Finding). f.number) (ranked_in_order round)
        (λ k d within. ranking_number (get_or (ranked_in_order round) k d) (get_or (ranked_in_order round) k d).status)
        ∙ order_is basis line round is.right

    -- They are equal.
    rounds_alike : one ≡ other
    rounds_alike =
        let said : saying_of one ≡ saying_of other = sym is_one.as_said ∙ is_other.as_said in
        let order : one.order ≡ other.order = sym (order_read one is_one) ∙ order_read other is_other in
        λ i. record {
          number = (said i).number;
          line = (said i).line;
          now = (said i).now;
          findings = findings_alike i;
          order = order i;
          counts = (said i).counts;
        }

-- Two rounds that are right by one basis, with equal lines, are equal.
pub one_round : (basis : RoundBasis) (line : ℕ) (one other : Round) → IsRightBy basis line one → IsRightBy basis line other → round_lines one ≡ round_lines other → one ≡ other
one_round basis line one other right also same =
    let said = says_so (saying_of one) in
    rounds_alike basis line (read_that_says (saying_of one)) one other (record { right = right; as_said = said })
    (record { right = also; as_said = said ∙ said_alike one other (orders_ranked basis line one right) (orders_ranked basis line other also) same })

-- Two rounds of one log, after the same rounds, with equal lines are equal.
pub same_round : (graph : Tfpg) (terms : Terms) (rounds : List Round) (log : Logbook) (line : ℕ) (one other : Round) → IsRound graph terms rounds log line one
    → IsRound graph terms rounds log line other → round_lines one ≡ round_lines other → one ≡ other
same_round graph terms rounds log line one other is_one is_other same =
    one_round basis line one other (right one is_one) (right other is_other) same
  where
    basis : RoundBasis
    basis = record { graph = graph; terms = terms; hypotheses = is_one.hypotheses; steps = λ number. steps_so_far number rounds; log = log }

    right : (round : Round) → IsRound graph terms rounds log line round
        → IsRightBy (record { graph = graph; terms = terms; hypotheses = is_one.hypotheses; steps = λ number. steps_so_far number rounds; log = log }) line round
    right round is = record { rounds = rounds; steps = λ number. refl; table = is_one.table; is_round = is }
