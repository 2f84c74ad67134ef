-- What a round that passes finds of each hypothesis.
use Rattle.std.proofs.Common.{◌≡◌, ℕ, ◌+◌, ◌≤◌, List, [], Option, Some, None, slice_get, inl, inr, refl, sym, ap, subst, ◌∙◌, arith}
use Rattle.std.specs.List.{Contains}
use Rattle.std.proofs.lemmas.Bool.{cases_lt}
use Rattle.std.proofs.lemmas.Bool.Decides.{eqb_tells}
use Rattle.std.proofs.lemmas.Option.{same_Some}
use Rattle.tfpg_base.specs.Hypothesis.{Hypothesis, IsProperPart}
use Rattle.tfpg_base.proofs.lemmas.lists.Decided.{IsDecided, first_below, both_decided, some_member_decided}
use Rattle.tfpg_graph.specs.Valid.{IsValid}
use Rattle.tfpg_graph.proofs.lemmas.reach.Reaches.{reach_is_one}
use Rattle.tfpg_evidence.specs.declared.finding.Finding.{Finding}
use Rattle.tfpg_evidence.specs.declared.finding.Status.{Status}
use Rattle.tfpg_evidence.specs.declared.finding.Status.TheVariants.{Ranked, Covered, Rejected, Open}
use Rattle.tfpg_evidence.specs.Findings.{hypothesis_of}
use Rattle.tfpg_clause.specs.Trees.{IsRefutation, IsPartial}
use Rattle.tfpg_clause.proofs.lemmas.trees.LedPaths.{no_partial}
use Rattle.tfpg_hyp.specs.Views.{IsReachOf, case_for}
use Rattle.tfpg_report.specs.declared.read_round.RankedLine.{RankedLine}
use Rattle.tfpg_report.specs.declared.read_round.ReadRound.{ReadRound}
use Rattle.tfpg_check.specs.Judging.{RoundBasis, IsNumberOf, IsClosedByRound, IsRankedLine, IsOpenLine, HasRankedPartIn, HasStatus, steps_read}
use Rattle.tfpg_check.specs.Passing.{RoundPasses}
use Rattle.tfpg_check.proofs.lemmas.passing.DecidedParts.{part_decided}
use Rattle.tfpg_check.proofs.lemmas.passing.EachReach.{reach_there}
use Rattle.tfpg_check.proofs.lemmas.passing.OneForEach.{AreOneForEach, one_for_each}
use Rattle.tfpg_check.proofs.lemmas.passing.StepsSoFar.{EachHasRightSteps}
use Rattle.tfpg_check.proofs.lemmas.passing.PartSteps.{steps_now, right_now}

-- ---- the covering hypothesis

-- The hypothesis of the number is a proper part.
abbrev pub IsPartAt : RoundBasis → Hypothesis → ℕ → Type 0
IsPartAt basis hypothesis number = (part : Hypothesis) × IsNumberOf basis number part × IsProperPart part hypothesis

-- It also has a ranked line.
abbrev pub IsRankedPartIn : RoundBasis → ReadRound → Hypothesis → ℕ → Type 0
IsRankedPartIn basis read hypothesis number = IsRankedLine read number × IsPartAt basis hypothesis number

-- The number is the least of those of ranked lines on proper parts.
pub record IsLeastPartIn (basis : RoundBasis) (read : ReadRound) (hypothesis : Hypothesis) (by : ℕ) : Type 0 where
  pub part : IsRankedPartIn basis read hypothesis by
  pub least : (other : ℕ) → IsRankedPartIn basis read hypothesis other → by ≤ other

-- a ranked line on a proper part is a ranked part, by its number
pub HasRankedPartIn-from : (basis : RoundBasis) (read : ReadRound) (hypothesis : Hypothesis) (number : ℕ) → IsRankedPartIn basis read hypothesis number → HasRankedPartIn basis read hypothesis
HasRankedPartIn-from basis read hypothesis number is = record {
  other = is.0.0;
  ranked = is.0.1;
  part = is.1.0;
  listed = ap (slice_get basis.hypotheses) is.0.2 ∙ is.1.1;
  proper = is.1.2;
}

module _ (basis : RoundBasis) (read : ReadRound) (hypothesis : Hypothesis) where
  ranked_line_decided : (number : ℕ) → IsDecided (IsRankedLine read number)
  ranked_line_decided number =
      some_member_decided (λ (r : RankedLine). r.number ≡ number)
      (λ r. elim (eqb_tells r.number number) [
        | inl same ↦ inl same.1
        | inr apart ↦ inr apart.1
      ]) read.ranked

  part_at_decided : (number : ℕ) → IsDecided (IsPartAt basis hypothesis number)
  part_at_decided number = by (slice_get basis.hypotheses number) refl
    where
      by : (found : Option Hypothesis) → slice_get basis.hypotheses number ≡ found → IsDecided (IsPartAt basis hypothesis number)
      by None none = inr (λ is. (let at = is.1 in absurd cc))
      by (Some part) there = elim (part_decided part hypothesis) [
        | inl proper ↦ inl (part, there, proper)
        | inr not_proper ↦ inr (λ is. not_proper (subst (λ (h : Hypothesis). IsProperPart h hypothesis) (same_Some is.0 part (sym is.1 ∙ there)) is.2))
      ]

  -- where some proper part is ranked, one has the least number
  pub least_part : HasRankedPartIn basis read hypothesis → (by : ℕ) × IsLeastPartIn basis read hypothesis by
  least_part has = elim
      (first_below (IsRankedPartIn basis read hypothesis) (λ number. IsRankedPartIn basis read hypothesis number → ⊥)
      (λ number. both_decided (IsRankedLine read number) (IsPartAt basis hypothesis number) (ranked_line_decided number) (part_at_decided number)) (has.other.number + 1)) [
        | inl found ↦ (
          found.0,
          record {
            part = found.1.holds;
            least = λ other is. elim (cases_lt other found.0) [
              | inl less ↦ absurd (found.1.before other less is)
              | inr no_less ↦ no_less
            ];
          },
        )
        | inr none ↦ absurd (none has.other.number (omega arith) ((has.other, has.ranked, refl), (has.part, has.listed, has.proper)))
      ]

-- ---- findings

-- the status that a ranked line says
abbrev pub status_read : RankedLine → Status
status_read r = Ranked r.trace r.cost r.alarmed r.monitored

-- A ranked line of the number says this status.
abbrev pub IsRankedAs : ReadRound → ℕ → Status → Type 0
IsRankedAs read number status = (r : RankedLine) × Contains read.ranked r × (r.number ≡ number) × (status ≡ status_read r)

-- a hypothesis with its number and what it reaches
pub record Reached : Type 0 where
  pub number : ℕ
  pub hypothesis : Hypothesis
  pub reach : List ℕ

-- its steps are a partial tree
abbrev pub IsPartialNow : RoundBasis → ReadRound → Reached → Type 0
IsPartialNow basis read own = IsPartial (case_for basis.graph basis.log own.hypothesis own.reach) (steps_now basis read own.number)

-- its steps are a refutation
abbrev pub IsRefutedNow : RoundBasis → ReadRound → Reached → Type 0
IsRefutedNow basis read own = IsRefutation (case_for basis.graph basis.log own.hypothesis own.reach) (steps_now basis read own.number)

-- What the round says of a hypothesis for each status.
abbrev pub HasRead : RoundBasis → ReadRound → Reached → Status → Type 0
HasRead basis read own Rejected = IsRefutedNow basis read own
HasRead basis read own (Covered by) = IsPartialNow basis read own × (steps_read read own.number ≡ []) × IsLeastPartIn basis read own.hypothesis by
HasRead basis read own (Ranked trace cost alarmed monitored) = IsPartialNow basis read own × IsRankedAs read own.number (Ranked trace cost alarmed monitored)
HasRead basis read own Open = IsPartialNow basis read own × IsOpenLine read own.number

-- The finding says of the hypothesis of the number what the round says.
pub record IsReadFinding (basis : RoundBasis) (read : ReadRound) (number : ℕ) (hypothesis : Hypothesis) (finding : Finding) : Type 0 where
  pub number_is : finding.number ≡ number
  pub hypothesis_is : hypothesis_of finding ≡ hypothesis
  pub steps_are : finding.steps ≡ steps_read read number
  pub reach : List ℕ
  pub reach_is : IsReachOf basis.graph hypothesis reach
  pub has : HasRead basis read (record { number = number; hypothesis = hypothesis; reach = reach }) finding.status

-- The findings are one for each hypothesis of the table.
abbrev pub AreReadFindings : RoundBasis → ReadRound → List Finding → Type 0
AreReadFindings basis read findings = AreOneForEach (IsReadFinding basis read) basis.hypotheses findings

-- a closed tree is no partial one
pub closed_not_partial : (basis : RoundBasis) (read : ReadRound) (own : Reached) → IsNumberOf basis own.number own.hypothesis → IsReachOf basis.graph own.hypothesis own.reach
    → IsClosedByRound basis read own.number → IsPartialNow basis read own → ⊥
closed_not_partial basis read own at reach_is closed partial =
    let same : closed.hypothesis ≡ own.hypothesis = same_Some closed.hypothesis own.hypothesis (sym closed.listed ∙ at) in
    let same_reach : closed.reach ≡ own.reach =
    reach_is_one basis.graph own.hypothesis.set closed.reach (subst (λ (h : Hypothesis). IsReachOf basis.graph h closed.reach) same closed.reach_is) own.reach reach_is in
    no_partial (case_for basis.graph basis.log own.hypothesis own.reach) (steps_now basis read own.number)
    (subst (λ (nodes : List ℕ). IsRefutation (case_for basis.graph basis.log own.hypothesis nodes) (steps_now basis read own.number)) same_reach
    (subst (λ (h : Hypothesis). IsRefutation (case_for basis.graph basis.log h closed.reach) (steps_now basis read own.number)) same closed.refutation))
    partial

module _ (basis : RoundBasis) (line : ℕ) (read : ReadRound) (passes : RoundPasses basis line read) (valid : IsValid basis.graph)
    (before : EachHasRightSteps basis.graph basis.log basis.hypotheses basis.steps) where
  module _ (number : ℕ) (hypothesis : Hypothesis) (at : IsNumberOf basis number hypothesis) where
    abbrev Own : Reached
    Own = record { number = number; hypothesis = hypothesis; reach = (reach_there basis.graph valid hypothesis.set).0 }

    -- a finding of a status for which the round has what it says
    made : (status : Status) → HasRead basis read Own status → (finding : Finding) × IsReadFinding basis read number hypothesis finding
    made status has = (
      record { number = number; set = hypothesis.set; doubts = hypothesis.doubts; steps = steps_read read number; status = status },
      record {
        number_is = refl;
        hypothesis_is = refl;
        steps_are = refl;
        reach = Own.reach;
        reach_is = (reach_there basis.graph valid hypothesis.set).1;
        has = has;
      },
    )

    -- a hypothesis whose tree is not closed is ranked, open or covered
    not_rejected : IsPartialNow basis read Own → HasStatus basis read number hypothesis → (finding : Finding) × IsReadFinding basis read number hypothesis finding
    not_rejected partial (inl closed) = absurd (closed_not_partial basis read Own at (reach_there basis.graph valid hypothesis.set).1 closed partial)
    not_rejected partial (inr (inl ranked)) = made (status_read ranked.0) (partial, (ranked.0, ranked.1, ranked.2, refl))
    not_rejected partial (inr (inr (inl unsettled))) = made Open (partial, unsettled)
    not_rejected partial (inr (inr (inr covered))) =
        let least = least_part basis read hypothesis covered.1 in
        made (Covered least.0) (partial, covered.0, least.1)

    finding_read : (finding : Finding) × IsReadFinding basis read number hypothesis finding
    finding_read = elim (right_now basis line read passes before number hypothesis at Own.reach (reach_there basis.graph valid hypothesis.set).1) [
      | inl partial ↦ not_rejected partial (passes.statuses number hypothesis at)
      | inr refutation ↦ made Rejected refutation
    ]

  -- A round that passes has a finding on each hypothesis.
  pub findings_read : (findings : List Finding) × AreReadFindings basis read findings
  findings_read = one_for_each (IsReadFinding basis read) basis.hypotheses finding_read
