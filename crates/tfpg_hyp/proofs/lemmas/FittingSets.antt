-- What the statuses of a round say of the hypotheses.
use Rattle.std.proofs.Common.{◌≡◌, ◌↔◌, ℕ, ◌<◌, List, [], ◌∷◌, ◌++◌, false, Some, refl, sym, ap, subst, ◌∙◌, arith}
use Rattle.std.specs.Prelude.{Contains, IsTrue, slice_get}
use Rattle.std.proofs.lemmas.List.{append-nil}
use Rattle.std.proofs.lemmas.Option.{same_Some}
use Rattle.std.proofs.lemmas.List.Elements.{All-weaker, All-contains}
use Rattle.tfpg_base.specs.declared.terms.Terms.{Terms}
use Rattle.tfpg_base.specs.Hypothesis.{Hypothesis, IsProperPart}
use Rattle.tfpg_base.proofs.lemmas.lists.Elements.{All-at, Contains-at, slice_get-contains, slice_get-same_length, All-list_any_none}
use Rattle.tfpg_graph.specs.Graph.{Tfpg}
use Rattle.tfpg_graph.specs.Valid.{IsValid}
use Rattle.tfpg_log.specs.Log.{Logbook, IsLogOf, IsOrdered, GoesOn}
use Rattle.tfpg_log.specs.Explains.{Fits}
use Rattle.tfpg_evidence.specs.declared.finding.Finding.{Finding}
use Rattle.tfpg_evidence.specs.declared.finding.Status.{Status}
use Rattle.tfpg_evidence.specs.declared.finding.Status.TheVariants.{Ranked, Covered, Rejected, Open}
use Rattle.tfpg_evidence.specs.declared.round.Round.{Round}
use Rattle.tfpg_evidence.specs.RoundOf.{is_ranked, is_covered, is_rejected, is_open}
use Rattle.tfpg_graph.specs.Reach.{IsReach}
use Rattle.tfpg_evidence.specs.Findings.{hypothesis_of}
use Rattle.tfpg_clause.specs.Case.{case_of}
use Rattle.tfpg_clause.specs.Trees.{Judged, IsRefutation}
use Rattle.tfpg_hyp.specs.Table.{IsHypothesis}
use Rattle.tfpg_hyp.specs.Views.{log_for, IsReachOf, HypothesisFits, case_for}
use Rattle.tfpg_hyp.specs.Rounds.{IsRound, HasEvidence, IsRankedPart, HasRankedPart, HasNoneOpen, steps_so_far}
use Rattle.tfpg_hyp.specs.Fitting.{HasFittingPart, AreNoneOpenBelow, SayWhichSetsFit}
use Rattle.tfpg_hyp.proofs.lemmas.IgnoredMore.{whole_fits}
use Rattle.tfpg_hyp.proofs.lemmas.FindingsOfRound.{HasFindingAt, evidence}
use Rattle.tfpg_hyp.proofs.lemmas.Subsets.{part_first, once}

-- ---- what a hypothesis sees of a log

-- the log that a hypothesis sees is one of the graph
pub of_view : (graph : Tfpg) (log : Logbook) (terms : Terms) (hypothesis : Hypothesis) → IsLogOf graph log → IsHypothesis graph terms hypothesis → IsLogOf graph (log_for log hypothesis)
of_view graph log terms hypothesis of is = record { own = of.own; ignored = is.doubts_of_graph.monitored }

-- and its times are those of the log
ordered_view : (log : Logbook) (hypothesis : Hypothesis) → IsOrdered log → IsOrdered (log_for log hypothesis)
ordered_view log hypothesis ordered = record { in_order = ordered.in_order; in_range = ordered.in_range }

-- ---- what a round says of a hypothesis that it rejects

rejected_not_open : (status : Status) → IsTrue (is_rejected status) → is_open status ≡ false
rejected_not_open (Ranked trace cost alarmed monitored) rejected = refl
rejected_not_open (Covered by) rejected = refl
rejected_not_open Rejected rejected = refl
rejected_not_open Open rejected = cc

-- it does not fit
pub says_misfit : {graph : Tfpg} {log : Logbook} {terms : Terms} {findings : List Finding} → SayWhichSetsFit graph log terms findings → (number : ℕ) (finding : Finding) → slice_get findings number ≡ Some finding
    → HypothesisFits graph log (hypothesis_of finding) → IsTrue (is_rejected finding.status) → ⊥
says_misfit says number finding at fits rejected = (says.rejected finding (Contains-at _ number finding at) (rejected_not_open finding.status rejected)).0 rejected fits

-- ---- the findings of a round

-- That a refutation leaves no trace is a law of facts, clauses and trees.
abbrev pub LeavesNoTrace : Type 0
LeavesNoTrace =
    (graph : Tfpg) (earlier log : Logbook) (set reach : List ℕ) (steps : List Judged) → IsValid graph → IsLogOf graph log → IsOrdered log → IsReach graph set reach
    → GoesOn earlier log → IsRefutation (case_of graph earlier reach) steps → Fits graph log set → ⊥

module _ (leaves_none : LeavesNoTrace) (graph : Tfpg) (terms : Terms) (line : ℕ) (rounds : List Round) (log : Logbook) (round : Round) (valid : IsValid graph) (of : IsLogOf graph log) (ordered : IsOrdered log)
    (is_round : IsRound graph terms rounds log line round) where
  -- ---- what each status says of the hypothesis

  module _ (number : ℕ) (finding : Finding) (at : HasFindingAt round number finding) where
    -- its hypothesis stands in the table
    hypothesis_at : slice_get is_round.hypotheses number ≡ Some (hypothesis_of finding)
    hypothesis_at = (evidence is_round number finding at).1 ∙ ap Some (sym (evidence is_round number finding at).2.hypothesis_is)

    is_hypothesis : IsHypothesis graph terms (hypothesis_of finding)
    is_hypothesis =
        (is_round.table.exact (hypothesis_of finding)).0
        (Contains-at is_round.hypotheses number (hypothesis_of finding) hypothesis_at)

    abbrev Evidence : Status → Type 0
    Evidence status =
        HasEvidence (case_for graph log (hypothesis_of finding) (evidence is_round number finding at).2.reach) terms.budget round.findings (steps_so_far number (rounds ++ round ∷ [])) finding status

    evidence_of : Evidence finding.status
    evidence_of = subst
        (λ (h : Hypothesis). HasEvidence (case_for graph log h (evidence is_round number finding at).2.reach) terms.budget round.findings (steps_so_far number (rounds ++ round ∷ [])) finding finding.status)
        (sym (evidence is_round number finding at).2.hypothesis_is) (evidence is_round number finding at).2.evidence

    ranked_fits_by : (status : Status) → Evidence status → IsTrue (is_ranked status) → HypothesisFits graph log (hypothesis_of finding)
    ranked_fits_by (Ranked trace cost alarmed monitored) own holds = (trace, own.1)
    ranked_fits_by (Covered by) own holds = cc
    ranked_fits_by Rejected own holds = cc
    ranked_fits_by Open own holds = cc

    ranked_fits : IsTrue (is_ranked finding.status) → HypothesisFits graph log (hypothesis_of finding)
    ranked_fits holds = ranked_fits_by finding.status evidence_of holds

    alone_by : (status : Status) → Evidence status → IsTrue (is_ranked status) → HasRankedPart round.findings (hypothesis_of finding) → ⊥
    alone_by (Ranked trace cost alarmed monitored) own holds part = own.2 part
    alone_by (Covered by) own holds part = cc
    alone_by Rejected own holds part = cc
    alone_by Open own holds part = cc

    alone : IsTrue (is_ranked finding.status) → HasRankedPart round.findings (hypothesis_of finding) → ⊥
    alone holds part = alone_by finding.status evidence_of holds part

    -- a rejected hypothesis does not fit
    rejected_not_by : (status : Status) → Evidence status → IsTrue (is_rejected status) → HypothesisFits graph log (hypothesis_of finding) → ⊥
    rejected_not_by Rejected own holds fits =
        let view = log_for log (hypothesis_of finding) in
        leaves_none graph view view finding.set (evidence is_round number finding at).2.reach (steps_so_far number (rounds ++ round ∷ [])) valid
        (of_view graph log terms (hypothesis_of finding) of is_hypothesis) (ordered_view log (hypothesis_of finding) ordered)
        (subst (λ (h : Hypothesis). IsReachOf graph h (evidence is_round number finding at).2.reach) (sym (evidence is_round number finding at).2.hypothesis_is) (evidence is_round number finding at).2.reach_is)
        (record { more = []; events = sym (append-nil log.events); ignored = refl }) own fits
    rejected_not_by (Ranked trace cost alarmed monitored) own holds fits = cc
    rejected_not_by (Covered by) own holds fits = cc
    rejected_not_by Open own holds fits = cc

    rejected_not : IsTrue (is_rejected finding.status) → HypothesisFits graph log (hypothesis_of finding) → ⊥
    rejected_not holds fits = rejected_not_by finding.status evidence_of holds fits

  -- ---- ranked parts

  part_fits : (hypothesis : Hypothesis) (number : ℕ) → IsRankedPart round.findings hypothesis number → HasFittingPart graph log terms hypothesis
  part_fits hypothesis number part = record {
    part = hypothesis_of part.finding;
    is_one = is_hypothesis number part.finding part.numbered;
    proper = part.part;
    fits = ranked_fits number part.finding part.numbered part.ranked;
  }

  fits_by_part : (hypothesis : Hypothesis) → HasFittingPart graph log terms hypothesis → HypothesisFits graph log hypothesis
  fits_by_part hypothesis part = whole_fits graph log part.part hypothesis part.proper.set part.proper.doubts part.fits

  covered_part : (number : ℕ) (finding : Finding) (at : HasFindingAt round number finding) (status : Status) → Evidence number finding at status → IsTrue (is_covered status)
      → (by : ℕ) × IsRankedPart round.findings (hypothesis_of finding) by
  covered_part number finding at (Covered by) own holds = (by, own.2.part)
  covered_part number finding at (Ranked trace cost alarmed monitored) own holds = cc
  covered_part number finding at Rejected own holds = cc
  covered_part number finding at Open own holds = cc

  covered_has : (number : ℕ) (finding : Finding) → HasFindingAt round number finding → IsTrue (is_covered finding.status) → HasFittingPart graph log terms (hypothesis_of finding)
  covered_has number finding at holds =
      let part = covered_part number finding at finding.status (evidence_of number finding at) holds in
      part_fits (hypothesis_of finding) part.0 part.1

  -- ---- a hypothesis that is not open is rejected exactly where it does not fit

  rejected_where : (number : ℕ) (finding : Finding) (at : HasFindingAt round number finding) (status : Status) → finding.status ≡ status → is_open status ≡ false → (HypothesisFits graph log (hypothesis_of finding) → ⊥) → IsTrue (is_rejected status)
  rejected_where number finding at (Ranked trace cost alarmed monitored) is not_open none = absurd (none (ranked_fits number finding at (subst (λ (s : Status). IsTrue (is_ranked s)) (sym is) refl)))
  rejected_where number finding at (Covered by) is not_open none =
      absurd (none (fits_by_part (hypothesis_of finding) (covered_has number finding at (subst (λ (s : Status). IsTrue (is_covered s)) (sym is) refl))))
  rejected_where number finding at Rejected is not_open none = refl
  rejected_where number finding at Open is not_open none = cc

  pub rejected_exactly : (number : ℕ) (finding : Finding) → HasFindingAt round number finding → is_open finding.status ≡ false → IsTrue (is_rejected finding.status) ↔ (HypothesisFits graph log (hypothesis_of finding) → ⊥)
  rejected_exactly number finding at not_open = (
    λ holds fits. rejected_not number finding at holds fits,
    λ none. rejected_where number finding at finding.status refl not_open none,
  )

  -- ---- a ranked hypothesis is minimal

  -- a proper part of a proper part is a proper part, since the hypotheses stand in the table in order
  deeper : (least middle greatest : ℕ) (a b c : Hypothesis) → slice_get is_round.hypotheses least ≡ Some a → slice_get is_round.hypotheses middle ≡ Some b → slice_get is_round.hypotheses greatest ≡ Some c
      → IsProperPart a b → IsProperPart b c → IsProperPart a c
  deeper least middle greatest a b c at_a at_b at_c first second = record {
    set = All-weaker (Contains b.set) (Contains c.set) (λ key has. All-contains (Contains c.set) b.set key second.set has) a.set first.set;
    doubts = All-weaker (Contains b.doubts) (Contains c.doubts) (λ key has. All-contains (Contains c.doubts) b.doubts key second.doubts has) a.doubts first.doubts;
    proper = λ same. (
        let lower : least < middle = part_first graph terms is_round.hypotheses is_round.table least middle a b at_a at_b first in
        let upper : middle < greatest = part_first graph terms is_round.hypotheses is_round.table middle greatest b c at_b at_c second in
        let one : least ≡ greatest = once graph terms is_round.hypotheses is_round.table least greatest c (at_a ∙ ap Some same) at_c in
        omega (arith, lower, upper, one)
        );
  }

  module _ (number : ℕ) (finding : Finding) (at : HasFindingAt round number finding) (ranked : IsTrue (is_ranked finding.status)) (none_open : AreNoneOpenBelow round.findings (hypothesis_of finding)) where
    no_part_by : (other : ℕ) (f : Finding) (there : HasFindingAt round other f) → IsProperPart (hypothesis_of f) (hypothesis_of finding) → HypothesisFits graph log (hypothesis_of f) → (status : Status) → f.status ≡ status → ⊥
    no_part_by other f there proper fits (Ranked trace cost alarmed monitored) is =
        alone number finding at ranked (other, record { finding = f; numbered = there; ranked = subst (λ (s : Status). IsTrue (is_ranked s)) (sym is) refl; part = proper })
    no_part_by other f there proper fits (Covered by_number) is =
        let part = covered_part other f there f.status (evidence_of other f there) (subst (λ (s : Status). IsTrue (is_covered s)) (sym is) refl) in
        alone number finding at ranked (
          part.0,
          record {
            finding = part.1.finding;
            numbered = part.1.numbered;
            ranked = part.1.ranked;
            part =
                deeper part.0 other number (hypothesis_of part.1.finding) (hypothesis_of f) (hypothesis_of finding) (hypothesis_at part.0 part.1.finding part.1.numbered) (hypothesis_at other f there) (hypothesis_at number finding at) part.1.part proper;
          },
        )
    no_part_by other f there proper fits Rejected is = rejected_not other f there (subst (λ (s : Status). IsTrue (is_rejected s)) (sym is) refl) fits
    no_part_by other f there proper fits Open is =
        let not_open : is_open f.status ≡ false = none_open f (Contains-at round.findings other f there) proper in
        let is_not : is_open Open ≡ false = sym (ap is_open is) ∙ not_open in
        cc

    pub no_fitting_part : HasFittingPart graph log terms (hypothesis_of finding) → ⊥
    no_fitting_part part =
        let key = (is_round.table.exact part.part).1 part.is_one in
        let there = slice_get-same_length round.findings is_round.hypotheses key.0 part.part (sym is_round.complete) (slice_get-contains is_round.hypotheses part.part key) in
        let same : hypothesis_of there.0 ≡ part.part =
        same_Some (hypothesis_of there.0) part.part (sym (hypothesis_at key.0 there.0 there.1) ∙ slice_get-contains is_round.hypotheses part.part key) in
        no_part_by key.0 there.0 there.1 (subst (λ (h : Hypothesis). IsProperPart h (hypothesis_of finding)) (sym same) part.proper)
        (subst (λ (h : Hypothesis). HypothesisFits graph log h) (sym same) part.fits) there.0.status refl

  -- ---- a round without an open hypothesis

  module _ (none_open : HasNoneOpen round) where
    not_open : (number : ℕ) (finding : Finding) → HasFindingAt round number finding → is_open finding.status ≡ false
    not_open number finding at =
        All-at (λ (f : Finding). is_open f.status ≡ false) round.findings number finding (All-list_any_none (λ (f : Finding). is_open f.status) round.findings none_open) at

    pub rejected_of : (number : ℕ) (finding : Finding) → HasFindingAt round number finding → IsTrue (is_rejected finding.status) ↔ (HypothesisFits graph log (hypothesis_of finding) → ⊥)
    rejected_of number finding at = rejected_exactly number finding at (not_open number finding at)

    minimal : (number : ℕ) (finding : Finding) → HasFindingAt round number finding → IsTrue (is_ranked finding.status) → HasFittingPart graph log terms (hypothesis_of finding) → ⊥
    minimal number finding at ranked part = no_fitting_part number finding at ranked (λ f member proper. not_open member.0 f (slice_get-contains round.findings f member)) part

    ranked_where : (number : ℕ) (finding : Finding) (at : HasFindingAt round number finding) (status : Status) → finding.status ≡ status → HypothesisFits graph log (hypothesis_of finding) → (HasFittingPart graph log terms (hypothesis_of finding) → ⊥)
        → IsTrue (is_ranked status)
    ranked_where number finding at (Ranked trace cost alarmed monitored) is fits none = refl
    ranked_where number finding at (Covered by) is fits none = absurd (none (covered_has number finding at (subst (λ (s : Status). IsTrue (is_covered s)) (sym is) refl)))
    ranked_where number finding at Rejected is fits none = absurd (rejected_not number finding at (subst (λ (s : Status). IsTrue (is_rejected s)) (sym is) refl) fits)
    ranked_where number finding at Open is fits none = (let is_not : is_open Open ≡ false = sym (ap is_open is) ∙ not_open number finding at in cc)

    pub ranked_of : (number : ℕ) (finding : Finding) → HasFindingAt round number finding
        → IsTrue (is_ranked finding.status) ↔ (HypothesisFits graph log (hypothesis_of finding) × (HasFittingPart graph log terms (hypothesis_of finding) → ⊥))
    ranked_of number finding at = (
      λ ranked. (ranked_fits number finding at ranked, λ part. minimal number finding at ranked part),
      λ both. ranked_where number finding at finding.status refl both.0 both.1,
    )

    covered_where : (number : ℕ) (finding : Finding) (at : HasFindingAt round number finding) (status : Status) → finding.status ≡ status → HypothesisFits graph log (hypothesis_of finding) → HasFittingPart graph log terms (hypothesis_of finding)
        → IsTrue (is_covered status)
    covered_where number finding at (Ranked trace cost alarmed monitored) is fits part = absurd (minimal number finding at (subst (λ (s : Status). IsTrue (is_ranked s)) (sym is) refl) part)
    covered_where number finding at (Covered by) is fits part = refl
    covered_where number finding at Rejected is fits part = absurd (rejected_not number finding at (subst (λ (s : Status). IsTrue (is_rejected s)) (sym is) refl) fits)
    covered_where number finding at Open is fits part = (let is_not : is_open Open ≡ false = sym (ap is_open is) ∙ not_open number finding at in cc)

    pub covered_of : (number : ℕ) (finding : Finding) → HasFindingAt round number finding → IsTrue (is_covered finding.status) ↔ (HypothesisFits graph log (hypothesis_of finding) × HasFittingPart graph log terms (hypothesis_of finding))
    covered_of number finding at = (
      λ covered. (fits_by_part (hypothesis_of finding) (covered_has number finding at covered), covered_has number finding at covered),
      λ both. covered_where number finding at finding.status refl both.0 both.1,
    )
