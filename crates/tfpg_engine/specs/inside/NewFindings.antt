-- What a round finds of one hypothesis after the other, whatever the earlier rounds were.
use Rattle.std.specs.Prelude.{◌≡◌, ℕ, ◌+◌, ◌≤◌, List, length, take, All, true, false, IsTrue, Some, slice_get}
use Rattle.tfpg_base.specs.Hypothesis.{Hypothesis, IsProperPart}
use Rattle.tfpg_graph.specs.Graph.{Tfpg, AreFailures, is_monitored}
use Rattle.tfpg_log.specs.Log.{now_of}
use Rattle.tfpg_evidence.specs.declared.finding.Finding.{Finding}
use Rattle.tfpg_evidence.specs.declared.finding.Status.{Status}
use Rattle.tfpg_evidence.specs.declared.round.Round.{Round}
use Rattle.tfpg_evidence.specs.declared.finding.Status.TheVariants as status
use Rattle.tfpg_evidence.specs.RoundOf.{is_open}
use Rattle.tfpg_evidence.specs.Findings.{hypothesis_of}
use Rattle.tfpg_clause.specs.Trees.{Judged}
use Rattle.tfpg_hyp.specs.Hypotheses.{Hypotheses, Row, IsRowOf, AreReaches}
use Rattle.tfpg_hyp.specs.declared.place.Fraction.{Fraction}
use Rattle.tfpg_hyp.specs.declared.place.Place.{Place}
use Rattle.tfpg_hyp.specs.Rounds.{Inquiry, HasEvidence, IsOrder, counts_of, key_of_status}
use Rattle.tfpg_search.specs.Enough.{IsEnough}
use Rattle.tfpg_search.specs.SearchState.{SearchState, calls_of_search}
use Rattle.tfpg_clause.specs.Paths.{with_steps}
use Rattle.tfpg_search.specs.declared.found.Found.{Found}
use Rattle.tfpg_search.specs.declared.found.Found.TheVariants as found
use Rattle.tfpg_engine.specs.declared.slot.Slot.{Slot}
use Rattle.tfpg_engine.specs.declared.slot.Slot.TheVariants.{Searched, Rejected}
use Rattle.tfpg_engine.specs.EngineState.{SlotRepresents, is_rejected_slot, events_seen}
use Rattle.tfpg_engine.specs.Earned.{IsEarned}
use Rattle.tfpg_engine.specs.inside.Inquiries.{case_of_row}
use Rattle.tfpg_engine.specs.inside.RankedKeys.{HasFraction}

-- what is kept of a search that found this
abbrev pub kept : SearchState → Found → Slot
kept search (found.Shown trace) = Searched search
kept search found.Closed = Rejected (record { number = calls_of_search search })
kept search found.Spent = Searched search

-- the status by the cost and the robustness of a hypothesis, and by what was found
abbrev pub status_by : ℕ → Fraction → Found → Status
status_by cost robust (found.Shown trace) = status.Ranked trace cost robust.alarmed robust.monitored
status_by cost robust found.Closed = status.Rejected
status_by cost robust found.Spent = status.Open

-- A search that is kept on has seen so many events.
pub record IsSearchedOn (events : ℕ) (old new : Slot) : Type 0 where
  pub not_before : is_rejected_slot old ≡ false
  pub not_now : is_rejected_slot new ≡ false
  pub seen : events_seen new ≡ events

-- What was kept of a hypothesis before and is kept now, after a round with so many events in which it has this status.
abbrev pub IsKeptAfter : ℕ → Status → Slot → Slot → Type 0
IsKeptAfter events (status.Ranked trace cost alarmed monitored) old new = IsSearchedOn events old new
IsKeptAfter events (status.Covered by) old new = new ≡ old
IsKeptAfter events status.Rejected old new = is_rejected_slot new ≡ true
IsKeptAfter events status.Open old new = IsSearchedOn events old new

-- Where the status ranks, its robustness is a fraction.
abbrev pub RanksByFraction : ℕ → Status → Type 0
RanksByFraction number status = (key : Place) → key_of_status number status ≡ Some key → HasFraction key

-- The finding goes on from these steps: what is kept represents the steps with those of the finding, which are its evidence
-- and are earned.
pub record GoesOnFrom (inquiry : Inquiry) (row : Row) (findings : List Finding) (earlier : List Judged)
    (slot : Slot) (finding : Finding) : Type 0 where
  pub represents : SlotRepresents (case_of_row inquiry row) row.hypothesis slot
      (with_steps earlier inquiry.log finding.steps)
  pub evidence : HasEvidence (case_of_row inquiry row) inquiry.terms.budget findings
      (with_steps earlier inquiry.log finding.steps) finding finding.status
  pub earned : IsEarned (case_of_row inquiry row) inquiry.terms.budget earlier finding

-- The finding on the hypothesis of a row, after these findings, and what was kept of it before and is kept now.
pub record IsNewFinding (inquiry : Inquiry) (row : Row) (findings : List Finding) (old new : Slot)
    (finding : Finding) : Type 0 where
  pub number_is : finding.number ≡ row.number
  pub hypothesis_is : hypothesis_of finding ≡ row.hypothesis
  pub whole : RanksByFraction row.number finding.status
  pub none_open : IsEnough inquiry.graph inquiry.log inquiry.terms.budget → is_open finding.status ≡ false
  pub kept_is : IsKeptAfter (length inquiry.log.events) finding.status old new
  pub goes_on : (earlier : List Judged)
      → SlotRepresents (case_of_row inquiry row) row.hypothesis old earlier
      → GoesOnFrom inquiry row findings earlier new finding

-- The finding on a row is new after the findings before it.
abbrev pub HasNewFinding : Inquiry → Row → List Slot → List Slot → List Finding → Type 0
HasNewFinding inquiry row old new findings =
    (before now : Slot) (finding : Finding) → slice_get old row.number ≡ Some before →
    slice_get new row.number ≡ Some now → slice_get findings row.number ≡ Some finding →
    IsNewFinding inquiry row (take row.number findings) before now finding

-- These are the findings on the first hypotheses of the table, each after those before it.
abbrev pub AreNewFindings : Inquiry → Hypotheses → List Slot → List Slot → List Finding → Type 0
AreNewFindings inquiry table old new findings =
    (row : Row) → IsRowOf table row → HasNewFinding inquiry row old new findings

-- The same, where the slots of the hypotheses after those are as they were.
pub record AreFirstFindings (inquiry : Inquiry) (table : Hypotheses) (old new : List Slot)
    (findings : List Finding) (count : ℕ) : Type 0 where
  pub counted : length findings ≡ count
  pub one_each : length new ≡ length old
  pub each : AreNewFindings inquiry table old new findings
  pub same : (number : ℕ) → count ≤ number → slice_get new number ≡ slice_get old number

-- From a hypothesis with as many members as this one on, none is a proper part of it.
abbrev pub PartsStandFirst : List Hypothesis → Hypothesis → Type 0
PartsStandFirst hypotheses whole =
    (number other : ℕ) (hypothesis part : Hypothesis) → slice_get hypotheses number ≡ Some hypothesis →
    slice_get hypotheses other ≡ Some part → number ≤ other →
    length whole.set + length whole.doubts ≤ length hypothesis.set + length hypothesis.doubts → IsProperPart part whole → ⊥

-- a table of hypotheses of failure modes and monitors of the graph, with what each reaches, in which parts stand first
pub record IsOfGraph (graph : Tfpg) (table : Hypotheses) : Type 0 where
  pub members : All (λ hypothesis. AreFailures graph hypothesis.set) table.hypotheses
  pub doubts : All (λ hypothesis. All (λ node. IsTrue (is_monitored graph node)) hypothesis.doubts) table.hypotheses
  pub reached : AreReaches graph table.hypotheses table.reaches
  pub parts_first : All (PartsStandFirst table.hypotheses) table.hypotheses

-- A finding on each hypothesis was made, they were put in order and counted.
pub record MakesRound (inquiry : Inquiry) (table : Hypotheses) (old new : List Slot) (line : ℕ)
    (round : Round) : Type 0 where
  pub number : round.number ≡ length inquiry.log.events
  pub line_is : round.line ≡ line
  pub now_is : round.now ≡ now_of inquiry.log
  pub complete : length round.findings ≡ length table.hypotheses
  pub each : AreNewFindings inquiry table old new round.findings
  pub order : IsOrder round.findings round.order
  pub counts : round.counts ≡ counts_of round.findings
