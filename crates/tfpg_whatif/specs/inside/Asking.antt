-- What the code asks, and what it has found so far.
use Rattle.std.specs.Prelude.{◌≡◌, ℕ, ◌<◌, ◌≤◌, List, [], ◌∷◌, ◌++◌, length, All, false, Option, Some, None, IfSome, slice_get}
use Rattle.tfpg_base.specs.Hypothesis.{Hypothesis}
use Rattle.tfpg_base.specs.declared.activation.Activation.{Activation}
use Rattle.tfpg_graph.specs.Graph.{Tfpg, AreFailures}
use Rattle.tfpg_graph.specs.Reach.{IsReach}
use Rattle.tfpg_log.specs.declared.event.Event.{Event}
use Rattle.tfpg_log.specs.Log.{Logbook, IsEventOf, IsLogOf, now_of, time_of_event}
use Rattle.tfpg_evidence.specs.declared.step.Step.{Step}
use Rattle.tfpg_clause.specs.Case.{Case, case_of}
use Rattle.tfpg_search.specs.declared.found.Found.{Found}
use Rattle.tfpg_search.specs.declared.found.Found.TheVariants.{Shown, Closed, Spent}
use Rattle.tfpg_search.specs.Enough.{IsEnough}
use Rattle.tfpg_search.specs.SearchState.{SearchState}
use Rattle.tfpg_search.specs.Represents.{RepresentsSome}
use Rattle.tfpg_whatif.specs.declared.outcome.Outcome.{Outcome}
use Rattle.tfpg_whatif.specs.declared.outcome.Outcome.TheVariants.{Fits, Out, Unknown}
use Rattle.tfpg_whatif.specs.declared.asking.Asking.{Asking}
use Rattle.tfpg_whatif.specs.declared.asking.LastEvent.{LastEvent}
use Rattle.tfpg_whatif.specs.declared.asking.Subject.{Subject}
use Rattle.tfpg_whatif.specs.Outcomes.{Asked, asked_of, asked_at, HasOutcomeEvidence, IsOutcome, Lengthens, is_unknown}
use Rattle.tfpg_whatif.specs.Laws.{IsWellAsked}

-- what the code asks at the log of the engine
abbrev pub asked_of_lent : Asking → Asked
asked_of_lent asking = asked_of asking.engine.now asking.among.now asking.budget

-- what the code asks at a log
abbrev pub asked_by : Asking → Logbook → Asked
asked_by asking log = asked_at (asked_of_lent asking) log

-- The numbers are those of hypotheses, and the budget is not 0.
pub record IsAsking (asking : Asking) : Type 0 where
  pub among : All (λ number. number < length asking.engine.now.table.hypotheses) asking.among.now
  pub budget : 1 ≤ asking.budget

-- The events of the later log begin with those of the earlier one, whatever the logs ignore.
abbrev pub HasEventsOf : Logbook → Logbook → Type 0
HasEventsOf earlier later = (more : List Event) × (later.events ≡ earlier.events ++ more)

-- The events of the log are of the graph, there is one, and the first ones are those of the engine's log.
pub record IsAskedAt (asking : Asking) (log : Logbook) : Type 0 where
  pub own : All (IsEventOf asking.engine.now.graph) log.events
  pub event : 1 ≤ length log.events
  pub goes_on : HasEventsOf asking.engine.now.log log

-- A search for this set, of which a copy can continue at the log.
pub record CanContinue (graph : Tfpg) (log : Logbook) (set : List ℕ) (search : SearchState) : Type 0 where
  pub set_is : search.set ≡ set
  pub represents : RepresentsSome graph log search

-- what the evidence on a hypothesis that is asked about is of
abbrev pub case_asked : Subject → Case
case_asked subject = case_of subject.graph.now subject.log.now subject.reach

-- The log is of the graph and has an event, the failure modes are of the graph and reach these nodes, a copy of the search that is kept can
-- continue at the log, and the budget is not 0.
pub record IsSubject (subject : Subject) : Type 0 where
  pub of : IsLogOf subject.graph.now subject.log.now
  pub event : 1 ≤ length subject.log.now.events
  pub members : AreFailures subject.graph.now subject.hypothesis.set
  pub reaches : IsReach subject.graph.now subject.hypothesis.set subject.reach
  pub kept : IfSome subject.kept (λ search. CanContinue subject.graph.now subject.log.now subject.hypothesis.set search.now)
  pub budget : 1 ≤ subject.budget

-- These are outcomes of the first hypotheses that are asked about.
abbrev pub AreKnown : Asked → List Outcome → Type 0
AreKnown asked outcomes =
    (index number : ℕ) (outcome : Outcome) → slice_get asked.among index ≡ Some number
    → slice_get outcomes index ≡ Some outcome → (hypothesis : Hypothesis) → slice_get asked.hypotheses number ≡ Some hypothesis
    → IsOutcome asked.graph asked.log hypothesis asked.budget outcome

-- The event is the last of the log. What is known are outcomes at the log before it, and where some are, the event is at now.
pub record IsLastEvent (asking : Asking) (last : LastEvent) (log : Logbook) : Type 0 where
  pub earlier : Logbook
  pub events : log.events ≡ earlier.events ++ last.event ∷ []
  pub known : AreKnown (asked_by asking earlier) last.before.now
  pub at_now : (index : ℕ) (outcome : Outcome) → slice_get last.before.now index ≡ Some outcome
      → time_of_event last.event ≡ now_of earlier

-- the trace that was found, where one was
abbrev pub trace_found : Found → Option (List Activation)
trace_found (Shown trace) = Some trace
trace_found Closed = None
trace_found Spent = None

-- what was found with these steps, as an outcome
abbrev pub outcome_by : Found → List Step → Outcome
outcome_by (Shown trace) steps = Fits trace
outcome_by Closed steps = Out steps
outcome_by Spent steps = Unknown steps

-- An outcome for a set of failure modes in a case, which is not unknown if the budget is enough.
pub record IsShown (case : Case) (set : List ℕ) (budget : ℕ) (outcome : Outcome) : Type 0 where
  pub evidence : HasOutcomeEvidence case set budget outcome
  pub known : IsEnough case.graph case.log budget → is_unknown outcome ≡ false

-- An outcome of the hypothesis of a number, which is not unknown if the budget is enough.
pub record IsFound (asked : Asked) (number : ℕ) (outcome : Outcome) : Type 0 where
  pub outcome_of : (hypothesis : Hypothesis) → slice_get asked.hypotheses number ≡ Some hypothesis
      → IsOutcome asked.graph asked.log hypothesis asked.budget outcome
  pub known : IsEnough asked.graph asked.log asked.budget → is_unknown outcome ≡ false

-- These are the outcomes of the first so many that are asked about.
pub record AreFound (asked : Asked) (outcomes : List Outcome) (count : ℕ) : Type 0 where
  pub counted : length outcomes ≡ count
  pub each : (index number : ℕ) (outcome : Outcome) → slice_get asked.among index ≡ Some number
      → slice_get outcomes index ≡ Some outcome → IsFound asked number outcome

-- These are the outcomes of all that are asked about.
abbrev pub AreAllFound : Asked → List Outcome → Type 0
AreAllFound asked outcomes = AreFound asked outcomes (length asked.among)

-- All that is asked about was found after the line, and makes sense there.
pub record IsAnswer (asked : Asked) (line : List ℕ) (outcomes : List Outcome) : Type 0 where
  pub lengthened : Logbook
  pub by : Lengthens asked.graph asked.log line lengthened
  pub found : AreAllFound (asked_at asked lengthened) outcomes
  pub well : IsWellAsked (asked_at asked lengthened)
