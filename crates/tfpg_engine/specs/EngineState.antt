-- What contracts see of an engine, which rounds it represents, and what an event brings.
use Rattle.std.specs.Prelude.{◌≡◌, ℕ, List, [], ◌∷◌, ◌++◌, length, sum_by, Bool, true, false, if◌then◌else◌, Option, Some, None, slice_get, option_and_then, Result, Ok, Err}
use Rattle.tfpg_base.specs.declared.terms.Terms.{Terms}
use Rattle.tfpg_base.specs.Hypothesis.{Hypothesis}
use Rattle.tfpg_graph.specs.Graph.{Tfpg}
use Rattle.tfpg_log.specs.declared.event.Event.{Event}
use Rattle.tfpg_log.specs.declared.event.Offered.TheVariants.{Accepted, Refused}
use Rattle.tfpg_log.specs.Log.{Logbook, GoesOn, first_events, with_event}
use Rattle.tfpg_log.specs.Accepted.{reply_to}
use Rattle.tfpg_evidence.specs.declared.round.Round.{Round}
use Rattle.tfpg_clause.specs.Case.{Case}
use Rattle.tfpg_clause.specs.Trees.{Judged, IsRefutation}
use Rattle.tfpg_hyp.specs.Hypotheses.{Hypotheses, Row, IsRowOf}
use Rattle.tfpg_hyp.specs.Views.{case_for, log_for}
use Rattle.tfpg_hyp.specs.Rounds.{IsRound, HasNoneOpen, steps_so_far}
use Rattle.tfpg_search.specs.Enough.{IsEnough}
use Rattle.tfpg_search.specs.Live.{HasNoNameTwice}
use Rattle.tfpg_search.specs.Represents.{SearchRepresents, RepresentsSome}
use Rattle.tfpg_search.specs.SearchState.{SearchState, calls_of_search}
use Rattle.tfpg_engine.specs.declared.slot.Slot.{Slot}
use Rattle.tfpg_engine.specs.declared.slot.Slot.TheVariants.{Untouched, Searched, Rejected}
use Rattle.tfpg_engine.specs.declared.told.Told.{Told}
use Rattle.tfpg_engine.specs.declared.told.Told.TheVariants as told
use Rattle.tfpg_engine.specs.declared.told.EventFault.{EventFault}
use Rattle.tfpg_engine.specs.declared.told.EventFault.TheVariants.{NoMemory, Ended}
use Rattle.tfpg_engine.specs.Earned.{AreEarned}
use Rattle.tfpg_engine.specs.Work.{was_rejected, last_worked_on, IsRoundWithin}

-- An engine: its graph and its log, its terms, the table of hypotheses, what it keeps of each hypothesis, and whether it has ended.
pub record EngineState : Type 0 where
  pub graph : Tfpg
  pub log : Logbook
  pub terms : Terms
  pub table : Hypotheses
  pub slots : List Slot
  pub ended : Bool

-- What is kept of a hypothesis represents these steps of all rounds: none where it was never searched, those of its
-- search, or a refutation. On no path of the refutation does a clause name stand twice.
abbrev pub SlotRepresents : Case → Hypothesis → Slot → List Judged → Type 0
SlotRepresents case hypothesis Untouched steps = steps ≡ []
SlotRepresents case hypothesis (Searched search) steps =
    (search.set ≡ hypothesis.set) × (search.reach ≡ case.reach)
    × SearchRepresents case.graph (first_events case.log search.seen) search steps
SlotRepresents case hypothesis (Rejected calls) steps =
    IsRefutation case steps × HasNoNameTwice case steps

-- whether the hypothesis is rejected
abbrev pub is_rejected_slot : Slot → Bool
is_rejected_slot Untouched = false
is_rejected_slot (Searched search) = false
is_rejected_slot (Rejected calls) = true

-- how many events its search has seen; 0 where there is no search
abbrev pub events_seen : Slot → ℕ
events_seen Untouched = 0
events_seen (Searched search) = search.seen
events_seen (Rejected calls) = 0

-- how many counted calls there were for a hypothesis: those of the system of its search, and where it is rejected, those of the
-- search that it had
abbrev pub calls_of_slot : Slot → ℕ
calls_of_slot Untouched = 0
calls_of_slot (Searched search) = calls_of_search search
calls_of_slot (Rejected calls) = calls.number

-- how many there were for all hypotheses
abbrev pub calls_of_engine : EngineState → ℕ
calls_of_engine engine = sum_by calls_of_slot engine.slots

-- the search that is kept of a hypothesis, where it was searched and is not rejected
abbrev pub search_in : Slot → Option SearchState
search_in Untouched = None
search_in (Searched search) = Some search
search_in (Rejected calls) = None

-- the search that an engine lends for the hypothesis of a number: the one that it keeps of it, until it has ended
abbrev pub lent_search : EngineState → ℕ → Option SearchState
lent_search engine number = if engine.ended then None else option_and_then search_in (slice_get engine.slots number)

-- The search of a hypothesis that an engine lends: it is of the set of the hypothesis, and represents some steps at what the hypothesis
-- sees of each log that goes on from that of the engine. So a copy of it can continue there.
pub record IsLentSearch (engine : EngineState) (hypothesis : Hypothesis) (search : SearchState) : Type 0 where
  pub set_is : search.set ≡ hypothesis.set
  pub represents : (later : Logbook) → GoesOn engine.log later → RepresentsSome engine.graph (log_for later hypothesis) search

-- What is kept of the hypothesis of a number is as it was worked on in these rounds: it is rejected where it was in one of them, and
-- else its search has seen the events at the last one in which it was worked on.
pub record IsWorkedOn (number : ℕ) (rounds : List Round) (slot : Slot) : Type 0 where
  pub rejected : is_rejected_slot slot ≡ was_rejected number rounds
  pub seen : is_rejected_slot slot ≡ false → events_seen slot ≡ last_worked_on number rounds

-- The engine represents these rounds: there was one for each event, and what it keeps of each hypothesis represents the steps that
-- the hypothesis has in them.
pub record EngineRepresents (engine : EngineState) (rounds : List Round) : Type 0 where
  pub one_each : length rounds ≡ length engine.log.events
  pub running : engine.ended ≡ false
  pub slots : (row : Row) (slot : Slot) → IsRowOf engine.table row
      → slice_get engine.slots row.number ≡ Some slot
      → SlotRepresents (case_for engine.graph engine.log row.hypothesis row.reach) row.hypothesis slot
      (steps_so_far row.number rounds)
  pub worked_on : (row : Row) (slot : Slot) → IsRowOf engine.table row
      → slice_get engine.slots row.number ≡ Some slot → IsWorkedOn row.number rounds slot

-- An event was accepted, and brought a round for all events and all rounds so far, whose steps are earned. With a
-- budget that is enough no hypothesis of it is open.
pub record GivesRound (line : ℕ) (text : List ℕ) (rounds : List Round) (round : Round)
    (old new : EngineState) : Type 0 where
  pub event : Event
  pub accepted : reply_to old.graph old.log text ≡ Accepted event
  pub log : new.log ≡ with_event old.log event
  pub round_is : IsRound old.graph old.terms rounds new.log line round
  pub earned : AreEarned old.graph new.log old.terms rounds round
  pub none_open : IsEnough old.graph new.log old.terms.budget → HasNoneOpen round
  pub represents : EngineRepresents new (rounds ++ round ∷ [])

-- What an event brings, where the engine represented these rounds: a refusal, and then nothing changed; or a round. Where memory ran
-- out the engine has ended.
abbrev pub Brings : ℕ → List ℕ → List Round → EngineState → EngineState → Result Told EventFault → Type 0
Brings line text rounds old new (Ok (told.Refused refusal)) =
    (reply_to old.graph old.log text ≡ Refused refusal) × (new ≡ old)
Brings line text rounds old new (Ok (told.Round round)) = GivesRound line text rounds round old new
Brings line text rounds old new (Err NoMemory) = new.ended ≡ true
Brings line text rounds old new (Err Ended) = (old.ended ≡ true) × (new ≡ old)

-- How the count of calls goes from one number to the other at an event, where the engine represented these rounds and is this one
-- afterwards: a round keeps within its limits, and a refusal costs no call.
abbrev pub CountsCalls : EngineState → List Round → Result Told EventFault → ℕ → ℕ → Type 0
CountsCalls engine rounds (Ok (told.Refused refusal)) before after = after ≡ before
CountsCalls engine rounds (Ok (told.Round round)) before after = IsRoundWithin engine.graph engine.log rounds round before after
CountsCalls engine rounds (Err fault) before after = Unit {0}
