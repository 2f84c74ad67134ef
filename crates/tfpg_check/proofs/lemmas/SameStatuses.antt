-- Rounds of one log in which the same hypotheses are open, and in which each that both rank has the same trace, have the same statuses.
use Rattle.std.proofs.Common.{◌≡◌, ◌⊎◌, ℕ, ◌<◌, ◌≤◌, zero, suc, Bool, true, false, List, [], ◌∷◌, ◌++◌, length, Some, slice_get, inl, inr, ⊎_elim, refl, sym, ap, subst, ◌∙◌, arith}
use Rattle.std.proofs.lemmas.Bool.{true_from_ne_false, false≢true}
use Rattle.std.proofs.lemmas.Option.{same_Some}
use Rattle.tfpg_base.specs.declared.activation.Activation.{Activation}
use Rattle.tfpg_base.specs.declared.terms.Terms.{Terms}
use Rattle.tfpg_base.specs.Hypothesis.{Hypothesis, IsProperPart}
use Rattle.tfpg_base.proofs.lemmas.lists.Elements.{Contains-at, slice_get-same_length}
use Rattle.tfpg_graph.specs.Graph.{Tfpg}
use Rattle.tfpg_graph.specs.Reach.{IsReach}
use Rattle.tfpg_graph.proofs.lemmas.reach.Reaches.{reach_is_one}
use Rattle.tfpg_log.specs.Log.{Logbook}
use Rattle.tfpg_evidence.specs.declared.finding.Finding.{Finding}
use Rattle.tfpg_evidence.specs.declared.finding.Status.{Status}
use Rattle.tfpg_evidence.specs.declared.finding.Status.TheVariants.{Ranked, Covered, Rejected, Open}
use Rattle.tfpg_evidence.specs.declared.round.Round.{Round}
use Rattle.tfpg_evidence.specs.RoundOf.{is_ranked, is_covered, is_rejected, is_open}
use Rattle.tfpg_evidence.specs.Findings.{hypothesis_of}
use Rattle.tfpg_hyp.specs.declared.place.Fraction.{Fraction}
use Rattle.tfpg_hyp.specs.Fitting.{SayWhichSetsFit}
use Rattle.tfpg_hyp.specs.Ranking.{cost_of, robustness_of}
use Rattle.tfpg_hyp.specs.Rounds.{IsRound, HasEvidence, IsRankedPart, HasRankedPart, IsLeastPart, steps_so_far}
use Rattle.tfpg_hyp.specs.Views.{HypothesisFits, case_for}
use Rattle.tfpg_hyp.proofs.lemmas.FindingsOfRound.{HasFindingAt, evidence}
use Rattle.tfpg_hyp.specs.Table.{IsTable}
use Rattle.tfpg_hyp.proofs.lemmas.Tables.{one_table}

-- ---- statuses

-- one that does not rank covers, rejects or is open
other_status : (status : Status) → is_ranked status ≡ false → (is_covered status ≡ true) ⊎ ((is_rejected status ≡ true) ⊎ (is_open status ≡ true))
other_status (Ranked trace cost alarmed monitored) not_ranked = cc
other_status (Covered by) not_ranked = inl refl
other_status Rejected not_ranked = inr (inl refl)
other_status Open not_ranked = inr (inr refl)

-- one that ranks does neither of the last two
ranked_alone : (status : Status) → is_ranked status ≡ true → (is_rejected status ≡ false) × (is_open status ≡ false)
ranked_alone (Ranked trace cost alarmed monitored) ranked = (refl, refl)
ranked_alone (Covered by) ranked = cc
ranked_alone Rejected ranked = cc
ranked_alone Open ranked = cc

-- one that rejects is not open
rejected_alone : (status : Status) → is_rejected status ≡ true → is_open status ≡ false
rejected_alone (Ranked trace cost alarmed monitored) rejected = refl
rejected_alone (Covered by) rejected = refl
rejected_alone Rejected rejected = refl
rejected_alone Open rejected = cc

-- the trace of a status, where it has one
abbrev pub trace_in : Status → List Activation
trace_in (Ranked trace cost alarmed monitored) = trace
trace_in (Covered by) = []
trace_in Rejected = []
trace_in Open = []

-- the fraction of two counts
abbrev fraction : ℕ → ℕ → Fraction
fraction alarmed monitored = record { alarmed = alarmed; monitored = monitored }

-- two tests that pass together are the same
pub same_test : (one two : Bool) → (one ≡ true → two ≡ true) → (two ≡ true → one ≡ true) → one ≡ two
same_test true true to from = refl
same_test true false to from = sym (to refl)
same_test false true to from = from refl
same_test false false to from = refl

-- That a proper part has the lesser number is a law of hypotheses.
abbrev pub PartsStandBefore : Type 0
PartsStandBefore =
    (graph : Tfpg) (terms : Terms) (hypotheses : List Hypothesis) → IsTable graph terms hypotheses → (number other : ℕ) (part whole : Hypothesis)
    → slice_get hypotheses number ≡ Some part → slice_get hypotheses other ≡ Some whole → IsProperPart part whole → number < other

module _ (parts_first : PartsStandBefore) (graph : Tfpg) (terms : Terms) (log : Logbook) where
  -- The round is one of the log, whose statuses say which sets fit.
  pub record IsRoundHere (round : Round) : Type 0 where
    pub line : ℕ
    pub rounds : List Round
    pub is_round : IsRound graph terms rounds log line round
    pub fitting : SayWhichSetsFit graph log terms round.findings

  -- ---- what the round has on a finding

  module _ (round : Round) (here : IsRoundHere round) (number : ℕ) (finding : Finding) (at : HasFindingAt round number finding) where
    abbrev Reached : List ℕ
    Reached = (evidence here.is_round number finding at).2.reach

    -- its evidence, if this is its status
    abbrev pub Own : Status → Type 0
    Own status =
        HasEvidence (case_for graph log (hypothesis_of finding) Reached) terms.budget round.findings (steps_so_far number (here.rounds ++ round ∷ [])) finding status

    pub own : Own finding.status
    own =
        let is = (evidence here.is_round number finding at).2 in
        subst (λ (h : Hypothesis). HasEvidence (case_for graph log h Reached) terms.budget round.findings (steps_so_far number (here.rounds ++ round ∷ [])) finding finding.status)
        (sym is.hypothesis_is) is.evidence

    reach_is : IsReach graph (hypothesis_of finding).set Reached
    reach_is =
        let is = (evidence here.is_round number finding at).2 in
        subst (λ (h : Hypothesis). IsReach graph h.set Reached) (sym is.hypothesis_is) is.reach_is

    hypothesis_at : slice_get here.is_round.hypotheses number ≡ Some (hypothesis_of finding)
    hypothesis_at = (evidence here.is_round number finding at).1 ∙ ap Some (sym (evidence here.is_round number finding at).2.hypothesis_is)

    no_part : (status : Status) → Own status → is_ranked status ≡ true → HasRankedPart round.findings (hypothesis_of finding) → ⊥
    no_part (Ranked trace cost alarmed monitored) is ranked part = is.2 part
    no_part (Covered by) is ranked part = cc
    no_part Rejected is ranked part = cc
    no_part Open is ranked part = cc

    some_part : (status : Status) → Own status → is_covered status ≡ true → (by : ℕ) × IsRankedPart round.findings (hypothesis_of finding) by
    some_part (Ranked trace cost alarmed monitored) is covered = cc
    some_part (Covered by) is covered = (by, is.2.part)
    some_part Rejected is covered = cc
    some_part Open is covered = cc

  -- ---- two rounds

  module _ (one two : Round) (is_one : IsRoundHere one) (is_two : IsRoundHere two) where
    same_table : is_one.is_round.hypotheses ≡ is_two.is_round.hypotheses
    same_table = one_table graph terms is_one.is_round.hypotheses is_two.is_round.hypotheses is_one.is_round.table is_two.is_round.table

    -- they have as many findings
    pub same_count : length one.findings ≡ length two.findings
    same_count = is_one.is_round.complete ∙ ap length same_table ∙ sym is_two.is_round.complete

    -- on the same hypotheses
    pub same_hypothesis : (number : ℕ) (finding found : Finding) → HasFindingAt one number finding → HasFindingAt two number found → hypothesis_of finding ≡ hypothesis_of found
    same_hypothesis number finding found at also =
        same_Some (hypothesis_of finding) (hypothesis_of found)
        (sym (hypothesis_at one is_one number finding at) ∙ ap (λ (hypotheses : List Hypothesis). slice_get hypotheses number) same_table ∙ hypothesis_at two is_two number found also)

    -- The two rank the same hypotheses of this number.
    abbrev RankTheSame : ℕ → Type 0
    RankTheSame number = (finding found : Finding) → HasFindingAt one number finding → HasFindingAt two number found → is_ranked finding.status ≡ is_ranked found.status

    -- then a ranked part of this number in the one is a ranked part in the other
    part_there : (hypothesis : Hypothesis) (number : ℕ) → RankTheSame number → IsRankedPart one.findings hypothesis number → IsRankedPart two.findings hypothesis number
    part_there hypothesis number same part =
        let there = slice_get-same_length two.findings one.findings number part.finding same_count part.numbered in
        record {
          finding = there.0;
          numbered = there.1;
          ranked = sym (same part.finding there.0 part.numbered there.1) ∙ part.ranked;
          part = subst (λ (h : Hypothesis). IsProperPart h hypothesis) (same_hypothesis number part.finding there.0 part.numbered there.1) part.part;
        }

    -- a hypothesis that the one rejects and the other leaves not open the other rejects
    rejected_too : (number : ℕ) (finding found : Finding) → HasFindingAt one number finding → HasFindingAt two number found → is_open finding.status ≡ false → is_open found.status ≡ false
        → is_rejected finding.status ≡ true → is_rejected found.status ≡ true
    rejected_too number finding found at also closed closed_too rejected =
        (is_two.fitting.rejected found (Contains-at two.findings number found also) closed_too).1
        (subst (λ (h : Hypothesis). HypothesisFits graph log h → ⊥) (same_hypothesis number finding found at also) ((is_one.fitting.rejected finding (Contains-at one.findings number finding at) closed).0 rejected))

  -- where the first ranks a hypothesis, so does the second, if they rank the same ones before it
  ranked_too : (one two : Round) (is_one : IsRoundHere one) (is_two : IsRoundHere two) (number : ℕ) (finding found : Finding) → HasFindingAt one number finding → HasFindingAt two number found
      → is_open finding.status ≡ is_open found.status → ((lesser : ℕ) → lesser < number → RankTheSame two one is_two is_one lesser) → is_ranked finding.status ≡ true → is_ranked found.status ≡ true
  ranked_too one two is_one is_two number finding found at also same_open before ranked =
      true_from_ne_false (is_ranked found.status) (λ not_ranked. ⊎_elim covered (λ rest. ⊎_elim rejected opened rest) (other_status found.status not_ranked))
    where
      closed : is_open finding.status ≡ false
      closed = (ranked_alone finding.status ranked).1

      covered : is_covered found.status ≡ true → ⊥
      covered is =
          let part = some_part two is_two number found also found.status (own two is_two number found also) is in
          let less : part.0 < number =
          parts_first graph terms is_two.is_round.hypotheses is_two.is_round.table part.0 number (hypothesis_of part.1.finding) (hypothesis_of found)
          (hypothesis_at two is_two part.0 part.1.finding part.1.numbered) (hypothesis_at two is_two number found also) part.1.part in
          no_part one is_one number finding at finding.status (own one is_one number finding at) ranked (
            part.0,
            part_there two one is_two is_one (hypothesis_of finding) part.0 (before part.0 less)
                (subst (λ (h : Hypothesis). IsRankedPart two.findings h part.0) (sym (same_hypothesis one two is_one is_two number finding found at also)) part.1),
          )

      rejected : is_rejected found.status ≡ true → ⊥
      rejected is =
          false≢true (sym (ranked_alone finding.status ranked).0 ∙ rejected_too two one is_two is_one number found finding also at (sym same_open ∙ closed) closed is)

      opened : is_open found.status ≡ true → ⊥
      opened is = false≢true (sym closed ∙ same_open ∙ is)

  -- ---- the same hypotheses are open in both

  module _ (one two : Round) (is_one : IsRoundHere one) (is_two : IsRoundHere two)
      (same_open : (number : ℕ) (finding found : Finding) → HasFindingAt one number finding → HasFindingAt two number found → is_open finding.status ≡ is_open found.status) where
    ranks_below : (end number : ℕ) → number < end → RankTheSame one two is_one is_two number
    ranks_below zero number below finding found at also = absurd (omega (arith, below))
    ranks_below (suc end) number below finding found at also =
        same_test (is_ranked finding.status) (is_ranked found.status)
        (ranked_too one two is_one is_two number finding found at also (same_open number finding found at also)
        (λ lesser less x y at_x at_y. sym (ranks_below end lesser (omega (arith, less, below)) y x at_y at_x)))
        (ranked_too two one is_two is_one number found finding also at (sym (same_open number finding found at also))
        (λ lesser less. ranks_below end lesser (omega (arith, less, below))))

    -- the two rank the same ones
    pub same_ranked : (number : ℕ) → RankTheSame one two is_one is_two number
    same_ranked number = ranks_below (suc number) number (omega arith)

    -- and reject the same ones
    same_rejected : (number : ℕ) (finding found : Finding) → HasFindingAt one number finding → HasFindingAt two number found → is_rejected finding.status ≡ is_rejected found.status
    same_rejected number finding found at also =
        let open_too = same_open number finding found at also in
        same_test (is_rejected finding.status) (is_rejected found.status)
        (λ rejected. (let closed = rejected_alone finding.status rejected in rejected_too one two is_one is_two number finding found at also closed (sym open_too ∙ closed) rejected))
        (λ rejected. (let closed = rejected_alone found.status rejected in rejected_too two one is_two is_one number found finding also at closed (open_too ∙ closed) rejected))

    module _ (number : ℕ) (finding found : Finding) (at : HasFindingAt one number finding) (also : HasFindingAt two number found) where
      abbrev Hypotheses : hypothesis_of finding ≡ hypothesis_of found
      Hypotheses = same_hypothesis one two is_one is_two number finding found at also

      same_robustness : robustness_of graph log (Reached one is_one number finding at) finding.doubts ≡ robustness_of graph log (Reached two is_two number found also) found.doubts
      same_robustness =
          ap (λ (reach : List ℕ). robustness_of graph log reach finding.doubts)
          (reach_is_one graph (hypothesis_of found).set (Reached one is_one number finding at)
          (subst (λ (h : Hypothesis). IsReach graph h.set (Reached one is_one number finding at)) Hypotheses (reach_is one is_one number finding at))
          (Reached two is_two number found also) (reach_is two is_two number found also))
          ∙ ap (λ (h : Hypothesis). robustness_of graph log (Reached two is_two number found also) h.doubts) Hypotheses

      -- no covering hypothesis has a greater number than that of the other round
      no_later : (by other : ℕ) → IsLeastPart one.findings (hypothesis_of finding) by → IsLeastPart two.findings (hypothesis_of found) other → by ≤ other
      no_later by other least too =
          least.least other
          (part_there two one is_two is_one (hypothesis_of finding) other (λ x y at_x at_y. sym (same_ranked other y x at_y at_x))
          (subst (λ (h : Hypothesis). IsRankedPart two.findings h other) (sym Hypotheses) too.part))

      no_earlier : (by other : ℕ) → IsLeastPart one.findings (hypothesis_of finding) by → IsLeastPart two.findings (hypothesis_of found) other → other ≤ by
      no_earlier by other least too =
          too.least by
          (part_there one two is_one is_two (hypothesis_of found) by (same_ranked by)
          (subst (λ (h : Hypothesis). IsRankedPart one.findings h by) Hypotheses least.part))

      same_status : (s t : Status) → Own one is_one number finding at s → Own two is_two number found also t → is_ranked s ≡ is_ranked t → is_rejected s ≡ is_rejected t → is_open s ≡ is_open t
          → trace_in s ≡ trace_in t → s ≡ t
      same_status (Ranked trace cost alarmed monitored) (Ranked other c a m) is too ranked rejected opened traces =
          let costs : cost ≡ c = is.3 ∙ ap (cost_of graph) Hypotheses ∙ sym too.3 in
          let robust : fraction alarmed monitored ≡ fraction a m = sym is.4 ∙ same_robustness ∙ too.4 in
          λ i. Ranked (traces i) (costs i) (robust i).alarmed (robust i).monitored
      same_status (Covered by) (Covered other) is too ranked rejected opened traces =
          let low = no_later by other is.2 too.2 in
          let high = no_earlier by other is.2 too.2 in
          let numbers : by ≡ other = omega (arith, low, high) in
          ap (λ (n : ℕ). Covered n) numbers
      same_status Rejected Rejected is too ranked rejected opened traces = refl
      same_status Open Open is too ranked rejected opened traces = refl
      same_status _ _ is too ranked rejected opened traces = cc

      -- The status is the same, where the trace is.
      pub statuses : trace_in finding.status ≡ trace_in found.status → finding.status ≡ found.status
      statuses traces =
          same_status finding.status found.status (own one is_one number finding at) (own two is_two number found also) (same_ranked number finding found at also)
          (same_rejected number finding found at also) (same_open number finding found at also) traces
