-- How many counted calls the findings of a round take at most, by what was kept of the hypotheses before.
use Rattle.std.specs.Prelude.{◌≡◌, ℕ, ◌+◌, ◌≤◌, List, length, sum_by, Bool, Some, slice_get}
use Rattle.std.specs.Bool.{MatchBool}
use Rattle.tfpg_base.specs.Hypothesis.{Hypothesis}
use Rattle.tfpg_evidence.specs.declared.finding.Finding.{Finding}
use Rattle.tfpg_clause.specs.Case.{Case}
use Rattle.tfpg_hyp.specs.Hypotheses.{Hypotheses, IsRowOf}
use Rattle.tfpg_hyp.specs.Views.{case_for}
use Rattle.tfpg_hyp.specs.Rounds.{Inquiry}
use Rattle.tfpg_engine.specs.declared.slot.Slot.{Slot}
use Rattle.tfpg_engine.specs.EngineState.{is_rejected_slot, events_seen}
use Rattle.tfpg_search.specs.Work.{IsWorkLimit}
use Rattle.tfpg_engine.specs.Work.{is_worked_on}

-- The limit for a hypothesis: that of its search where the round works on it, and else 0. The search saw so many events before, and
-- it appends so many steps.
abbrev pub IsLimitWhere : Bool → Case → ℕ → ℕ → ℕ → Type 0
IsLimitWhere worked_on case seen steps limit = MatchBool worked_on (IsWorkLimit case seen steps limit) (limit ≡ 0)

-- There is one limit for each of the findings, and each is a limit of this kind, by the number of its finding.
pub record AreLimits (IsLimit : ℕ → Finding → ℕ → Type 0) (findings : List Finding) (limits : List ℕ) : Type 0 where
  pub one_each : length limits ≡ length findings
  pub each : (number : ℕ) (finding : Finding) (limit : ℕ) → slice_get findings number ≡ Some finding
      → slice_get limits number ≡ Some limit → IsLimit number finding limit

-- the limit for a finding, by what was kept before
abbrev pub IsSlotLimit : Case → Slot → Finding → ℕ → Type 0
IsSlotLimit case slot finding limit =
    IsLimitWhere (is_worked_on (is_rejected_slot slot) finding.status) case (events_seen slot) (length finding.steps) limit

-- For the finding the count went from one number to the other, by at most its limit.
abbrev pub IsSlotWithin : Case → Slot → ℕ → ℕ → Finding → Type 0
IsSlotWithin case slot before after finding = (limit : ℕ) × IsSlotLimit case slot finding limit × (after ≤ before + limit)

-- the limit for the finding of a number, where these slots were kept before
abbrev pub IsLimitBySlots : Inquiry → Hypotheses → List Slot → ℕ → Finding → ℕ → Type 0
IsLimitBySlots inquiry table old number finding limit =
    (hypothesis : Hypothesis) (reach : List ℕ) (slot : Slot) →
    IsRowOf table (record { number = number; hypothesis = hypothesis; reach = reach }) →
    slice_get old number ≡ Some slot →
    IsSlotLimit (case_for inquiry.graph inquiry.log hypothesis reach) slot finding limit

-- The count of calls went from one number to the other, by at most the sum of such limits for these findings.
pub record IsWithin (IsLimit : ℕ → Finding → ℕ → Type 0) (findings : List Finding) (before after : ℕ) : Type 0 where
  pub limits : List ℕ
  pub are : AreLimits IsLimit findings limits
  pub within : after ≤ before + sum_by (λ limit. limit) limits

-- For these findings the count went from one number to the other, by at most the sum of their limits.
abbrev pub AreSlotsWithin : Inquiry → Hypotheses → List Slot → List Finding → ℕ → ℕ → Type 0
AreSlotsWithin inquiry table old findings before after = IsWithin (IsLimitBySlots inquiry table old) findings before after
