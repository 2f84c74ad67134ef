-- What a further line would show of hypotheses.
use Rattle.std.specs.Prelude.{◌≡◌, ℕ, ◌≤◌, List, [], length, Bool, true, false, Some, slice_get}
use Rattle.std.specs.List.{list_any}
use Rattle.tfpg_base.specs.declared.terms.Terms.{Terms}
use Rattle.tfpg_base.specs.Hypothesis.{Hypothesis}
use Rattle.tfpg_graph.specs.Graph.{Tfpg}
use Rattle.tfpg_log.specs.declared.event.Event.{Event}
use Rattle.tfpg_log.specs.declared.event.Offered.TheVariants.{Accepted}
use Rattle.tfpg_log.specs.Log.{Logbook, with_event}
use Rattle.tfpg_log.specs.Accepted.{reply_to}
use Rattle.tfpg_log.specs.Explains.{Explains}
use Rattle.tfpg_evidence.specs.declared.step.Step.{Step}
use Rattle.tfpg_clause.specs.Case.{Case}
use Rattle.tfpg_clause.specs.Trees.{IsRefutation, split_count}
use Rattle.tfpg_clause.specs.Paths.{with_steps}
use Rattle.tfpg_hyp.specs.Views.{IsReachOf, case_for, HypothesisFits}
use Rattle.tfpg_search.specs.Live.{AllowsReuse, IsUnsettled}
use Rattle.tfpg_search.specs.Searched.{AreSearchSteps}
use Rattle.tfpg_search.specs.Enough.{IsEnough}
use Rattle.tfpg_engine.specs.EngineState.{EngineState}
use Rattle.tfpg_whatif.specs.declared.outcome.Outcome.{Outcome}
use Rattle.tfpg_whatif.specs.declared.outcome.Outcome.TheVariants.{Fits, Out, Unknown}

-- The line lengthens the log: it is accepted, and its event is the last.
pub record Lengthens (graph : Tfpg) (log : Logbook) (line : List ℕ) (lengthened : Logbook) : Type 0 where
  pub event : Event
  pub accepted : reply_to graph log line ≡ Accepted event
  pub is : lengthened ≡ with_event log event

-- The hypothesis keeps after the line: it fits the lengthened log. Where it does not, it falls.
pub record Keeps (graph : Tfpg) (log : Logbook) (line : List ℕ) (hypothesis : Hypothesis) : Type 0 where
  pub lengthened : Logbook
  pub by : Lengthens graph log line lengthened
  pub fits : HypothesisFits graph lengthened hypothesis

-- The budget was spent on these steps: each split is live, there are as many as the budget, the tree is unsettled, and no subtree is
-- reusable after them. The budget is not one that is always enough.
pub record AreSpent (case : Case) (budget : ℕ) (steps : List Step) : Type 0 where
  pub right : AreSearchSteps case [] steps
  pub spent : split_count steps ≡ budget
  pub unsettled : IsUnsettled case (with_steps [] case.log steps)
  pub none_reusable : AllowsReuse case (with_steps [] case.log steps) → ⊥
  pub not_enough : IsEnough case.graph case.log budget → ⊥

-- What an outcome shows of a set of failure modes: a trace that explains the log from the set; steps that are a refutation with no
-- more splits than the budget; or that the budget was spent.
abbrev pub HasOutcomeEvidence : Case → List ℕ → ℕ → Outcome → Type 0
HasOutcomeEvidence case set budget (Fits trace) = Explains case.graph case.log set trace
HasOutcomeEvidence case set budget (Out steps) = IsRefutation case (with_steps [] case.log steps) × (split_count steps ≤ budget)
HasOutcomeEvidence case set budget (Unknown steps) = AreSpent case budget steps

-- An outcome of a hypothesis at a log. It is shown by the log as the hypothesis sees it.
pub record IsOutcome (graph : Tfpg) (log : Logbook) (hypothesis : Hypothesis) (budget : ℕ) (outcome : Outcome) : Type 0 where
  pub reach : List ℕ
  pub reach_is : IsReachOf graph hypothesis reach
  pub evidence : HasOutcomeEvidence (case_for graph log hypothesis reach) hypothesis.set budget outcome

-- whether the hypothesis is shown to fall
abbrev pub is_out : Outcome → Bool
is_out (Out steps) = true
is_out _ = false

-- whether the budget did not suffice
abbrev pub is_unknown : Outcome → Bool
is_unknown (Unknown steps) = true
is_unknown _ = false

-- none of the outcomes is unknown
abbrev pub HasNoneUnknown : List Outcome → Type 0
HasNoneUnknown outcomes = list_any is_unknown outcomes ≡ false

-- What is asked at a log: the hypotheses on some terms, those among them that are asked about, by their numbers, and the greatest
-- number of splits of each.
pub record Asked : Type 0 where
  pub graph : Tfpg
  pub log : Logbook
  pub terms : Terms
  pub hypotheses : List Hypothesis
  pub among : List ℕ
  pub budget : ℕ

-- what is asked at the log of an engine
abbrev pub asked_of : EngineState → List ℕ → ℕ → Asked
asked_of engine among budget = record {
  graph = engine.graph;
  log = engine.log;
  terms = engine.terms;
  hypotheses = engine.table.hypotheses;
  among = among;
  budget = budget;
}

-- the same at another log
abbrev pub asked_at : Asked → Logbook → Asked
asked_at asked log = record asked { log = log }

-- There is one outcome for each hypothesis that is asked about, in their order.
pub record AreOutcomes (asked : Asked) (outcomes : List Outcome) : Type 0 where
  pub one_each : length outcomes ≡ length asked.among
  pub each : (index number : ℕ) (outcome : Outcome) → slice_get asked.among index ≡ Some number
      → slice_get outcomes index ≡ Some outcome → (hypothesis : Hypothesis) → slice_get asked.hypotheses number ≡ Some hypothesis
      → IsOutcome asked.graph asked.log hypothesis asked.budget outcome

-- The outcomes are those after this line.
pub record AreOutcomesAfter (asked : Asked) (line : List ℕ) (outcomes : List Outcome) : Type 0 where
  pub lengthened : Logbook
  pub by : Lengthens asked.graph asked.log line lengthened
  pub are : AreOutcomes (asked_at asked lengthened) outcomes
