-- What an event brings, for an engine as contracts see it.
use Rattle.std.proofs.Common.{◌≡◌, ℕ, ◌+◌, ◌<◌, ◌≤◌, false, List, [], ◌∷◌, length, replicate, Some, refl, sym, ap, subst, ◌∙◌, arith, length-append}
use Rattle.std.specs.Prelude.{All, Contains, IsTrue, slice_get, ◌↔◌, Result, Err}
use Rattle.tfpg_hyp.specs.declared.table.TableFault.{TableFault}
use Rattle.tfpg_hyp.specs.declared.table.TableFault.TheVariants.{TooMany, NoMemory}
use Rattle.std.proofs.lemmas.List.{length-replicate}
use Rattle.std.proofs.lemmas.List.Elements.{All-replicate}
use Rattle.tfpg_base.specs.declared.terms.Terms.{Terms}
use Rattle.tfpg_base.proofs.lemmas.lists.Choices.{same_Err}
use Rattle.tfpg_base.proofs.lemmas.lists.Elements.{All-at, All-from_members, Contains-at}
use Rattle.tfpg_base.specs.Hypothesis.{Hypothesis, IsProperPart}
use Rattle.tfpg_graph.specs.Graph.{Tfpg, AreFailures, is_monitored}
use Rattle.tfpg_log.specs.declared.event.Event.{Event}
use Rattle.tfpg_log.specs.declared.event.Offered.{Offered}
use Rattle.tfpg_log.specs.declared.event.Offered.TheVariants.{Accepted, Refused}
use Rattle.tfpg_log.specs.declared.refusal.Refusal.{Refusal}
use Rattle.tfpg_log.specs.Log.{Logbook, IsLogOf, IsOrdered, GoesOn, with_event, ignoring}
use Rattle.tfpg_log.specs.Accepted.{reply_to}
use Rattle.tfpg_log.specs.LogOfLines.{new_log}
use Rattle.tfpg_evidence.specs.declared.round.Round.{Round}
use Rattle.tfpg_hyp.specs.Table.{IsHypothesis, IsTable}
use Rattle.tfpg_hyp.specs.Hypotheses.{Hypotheses, Row, IsRowOf, IsTableOf}
use Rattle.tfpg_hyp.specs.Views.{case_for}
use Rattle.tfpg_hyp.specs.Rounds.{Inquiry, steps_so_far}
use Rattle.tfpg_engine.specs.declared.slot.Slot.{Slot}
use Rattle.tfpg_engine.specs.declared.slot.Slot.TheVariants.{Untouched}
use Rattle.tfpg_engine.specs.EngineState.{EngineState, EngineRepresents, GivesRound, SlotRepresents, IsWorkedOn}
use Rattle.tfpg_engine.specs.Work.{IsRoundWithin}
use Rattle.tfpg_engine.specs.inside.SlotWork.{AreSlotsWithin}
use Rattle.tfpg_engine.proofs.lemmas.RoundWork.{never_worked_on}
use Rattle.tfpg_engine.specs.inside.Slots.{AllCanGoOn, IsEngine}
use Rattle.tfpg_engine.specs.inside.TreeLaws.{TreeLaws}
use Rattle.tfpg_engine.specs.inside.NewFindings.{PartsStandFirst, IsOfGraph, MakesRound}
use Rattle.tfpg_engine.proofs.lemmas.Ignoring.{own_log}
use Rattle.tfpg_engine.proofs.lemmas.FindingsMakeRound.{StandBefore, can_go_on, still_go_on, round_is, earned, none_open, represents, worked_on, within}

-- That none has fewer members than one before it is a law of the table.
abbrev pub StandBySize : Type 0
StandBySize =
    (graph : Tfpg) (terms : Terms) (hypotheses : List Hypothesis) → IsTable graph terms hypotheses → (number other : ℕ) (earlier later : Hypothesis) → slice_get hypotheses number ≡ Some earlier
    → slice_get hypotheses other ≡ Some later → number ≤ other → length earlier.set + length earlier.doubts ≤ length later.set + length later.doubts

-- So is that a proper part has fewer.
abbrev pub HaveFewer : Type 0
HaveFewer =
    (graph : Tfpg) (terms : Terms) (part whole : Hypothesis) → IsHypothesis graph terms part → IsHypothesis graph terms whole → IsProperPart part whole
    → length part.set + length part.doubts < length whole.set + length whole.doubts

-- parts of a hypothesis of a table stand first
parts_stand_first : StandBySize → HaveFewer → (graph : Tfpg) (terms : Terms) (hypotheses : List Hypothesis) → IsTable graph terms hypotheses → (whole : Hypothesis) → Contains hypotheses whole
    → PartsStandFirst hypotheses whole
parts_stand_first by_size fewer graph terms hypotheses table whole has number other hypothesis part at at_part before many proper =
    omega (
      arith,
      many,
      by_size graph terms hypotheses table number other hypothesis part at at_part before,
      fewer graph terms part whole ((table.exact part).0 (Contains-at hypotheses other part at_part)) ((table.exact whole).0 has) proper,
    )

-- the hypotheses of a table are of failure modes and monitors, and parts stand first
pub of_graph : StandBySize → HaveFewer → (graph : Tfpg) (terms : Terms) (table : Hypotheses) → IsTableOf graph terms table → IsOfGraph graph table
of_graph by_size fewer graph terms table is = record {
  members = All-from_members (λ (hypothesis : Hypothesis). AreFailures graph hypothesis.set) table.hypotheses (λ hypothesis has. ((is.hypotheses.exact hypothesis).0 has).of_graph.members);
  doubts = All-from_members (λ (hypothesis : Hypothesis). All (λ node. IsTrue (is_monitored graph node)) hypothesis.doubts) table.hypotheses
      (λ hypothesis has. ((is.hypotheses.exact hypothesis).0 has).doubts_of_graph.monitored);
  reached = is.reached;
  parts_first = All-from_members (PartsStandFirst table.hypotheses) table.hypotheses (parts_stand_first by_size fewer graph terms table.hypotheses is.hypotheses);
}

-- ---- an engine without events

module _ (graph : Tfpg) (terms : Terms) (table : Hypotheses) (log : Logbook) (slots : List Slot) (count : ℕ) (is_slots : slots ≡ replicate count Untouched) where
  untouched_at : (number : ℕ) (slot : Slot) → slice_get slots number ≡ Some slot → slot ≡ Untouched
  untouched_at number slot at =
      All-at (λ (s : Slot). s ≡ Untouched) slots number slot (subst (All (λ (s : Slot). s ≡ Untouched)) (sym is_slots) (All-replicate (λ (s : Slot). s ≡ Untouched) count Untouched refl)) at

  untouched_represents : (row : Row) (slot : Slot) → slot ≡ Untouched → SlotRepresents (case_for graph log row.hypothesis row.reach) row.hypothesis slot []
  untouched_represents row slot is = subst (λ (s : Slot). SlotRepresents (case_for graph log row.hypothesis row.reach) row.hypothesis s []) (sym is) refl

  pub new_engine : IsTableOf graph terms table → IsLogOf graph log → log ≡ new_log → 1 ≤ terms.budget → count ≡ length table.hypotheses
      → IsEngine (record { graph = graph; log = log; terms = terms; table = table; slots = slots; ended = false })
  new_engine is_table of empty some counted = record {
    table = is_table;
    of = of;
    ignores_none = ap (λ (l : Logbook). l.ignored) empty;
    budget = some;
    one_each = ap length is_slots ∙ length-replicate count Untouched ∙ counted;
    slots = λ running row slot is at. ([], untouched_represents row slot (untouched_at row.number slot at));
  }

  pub new_represents : log ≡ new_log → EngineRepresents (record { graph = graph; log = log; terms = terms; table = table; slots = slots; ended = false }) []
  new_represents empty = record {
    one_each = sym (ap (λ (l : Logbook). length l.events) empty);
    running = refl;
    slots = λ row slot is at. untouched_represents row slot (untouched_at row.number slot at);
    worked_on = λ row slot is at. never_worked_on row.number slot (untouched_at row.number slot at);
  }

-- ---- an event that is accepted

module _ (laws : TreeLaws) (view : EngineState) (engine : IsEngine view) (running : view.ended ≡ false) (event : Event) (log : Logbook) (log_is : log ≡ with_event view.log event) (ordered : IsOrdered log)
    (lent : List Slot) (lent_is : lent ≡ view.slots) where
  abbrev inquiry : Inquiry
  inquiry = record { graph = view.graph; log = log; terms = view.terms }

  goes_on : GoesOn view.log log
  goes_on = record {
    more = event ∷ [];
    events = ap (λ (l : Logbook). l.events) log_is;
    ignored = ap (λ (l : Logbook). l.ignored) log_is;
  }

  -- each slot can go on at the log with the event
  pub lent_go_on : AllCanGoOn view.graph log view.table lent
  lent_go_on = subst (AllCanGoOn view.graph log view.table) (sym lent_is) (can_go_on laws view.graph view.log log ordered goes_on view.table view.slots (engine.slots running))

  -- the log with the event ignores no monitor
  log_ignores_none : log.ignored ≡ []
  log_ignores_none = ap (λ (l : Logbook). l.ignored) log_is ∙ engine.ignores_none

  lent_each : length lent ≡ length view.table.hypotheses
  lent_each = ap length lent_is ∙ engine.one_each

  module _ (line : ℕ) (round : Round) (new back : List Slot) (made : MakesRound inquiry view.table lent new line round) (same_length : length new ≡ length lent) (back_is : back ≡ new)
      (back_log : Logbook) (back_log_is : back_log ≡ ignoring log []) where
    abbrev now_at : Logbook → EngineState
    now_at l = record view { log = l; slots = back }

    abbrev now : EngineState
    now = now_at log

    -- the log that comes back is the log with the event
    same_log : log ≡ back_log
    same_log = own_log log [] log_ignores_none ∙ sym back_log_is

    engine_then : IsLogOf view.graph log → IsEngine now
    engine_then of = record {
      table = engine.table;
      of = of;
      ignores_none = log_ignores_none;
      budget = engine.budget;
      one_each = ap length back_is ∙ same_length ∙ lent_each;
      slots = λ still. subst (AllCanGoOn view.graph log view.table) (sym back_is)
          (still_go_on inquiry view.table lent new round.findings made.each made.complete engine.table.reached.complete lent_each same_length lent_go_on);
    }

    pub engine_now : IsLogOf view.graph log → IsEngine (now_at back_log)
    engine_now of = subst (λ (l : Logbook). IsEngine (now_at l)) same_log (engine_then of)

    module _ (stand_before : StandBefore) (text : List ℕ) (accepted : reply_to view.graph view.log text ≡ Accepted event) (rounds : List Round) (represented : EngineRepresents view rounds) where
      lent_represents : (row : Row) (slot : Slot) → IsRowOf view.table row → slice_get lent row.number ≡ Some slot
          → SlotRepresents (case_for view.graph view.log row.hypothesis row.reach) row.hypothesis slot (steps_so_far row.number rounds)
      lent_represents row slot is at =
          represented.slots row slot is (sym (ap (λ (ss : List Slot). slice_get ss row.number) lent_is) ∙ at)

      lent_worked_on : (row : Row) (slot : Slot) → IsRowOf view.table row → slice_get lent row.number ≡ Some slot → IsWorkedOn row.number rounds slot
      lent_worked_on row slot is at = represented.worked_on row slot is (sym (ap (λ (ss : List Slot). slice_get ss row.number) lent_is) ∙ at)

      gives_round : GivesRound line text rounds round view now
      gives_round = record {
        event = event;
        accepted = accepted;
        log = log_is;
        round_is = round_is laws stand_before inquiry line rounds view.log view.table lent new round engine.table ordered goes_on made lent_each same_length lent_represents lent_worked_on;
        earned = earned laws stand_before inquiry line rounds view.log view.table lent new round engine.table ordered goes_on made lent_each same_length lent_represents lent_worked_on;
        none_open = none_open laws stand_before inquiry line rounds view.log view.table lent new round engine.table ordered goes_on made lent_each same_length lent_represents lent_worked_on;
        represents = record {
          one_each = omega (
            arith,
            length-append rounds (round ∷ []),
            represented.one_each,
            ap (λ (l : Logbook). length l.events) log_is,
            length-append view.log.events (event ∷ []),
          );
          running = running;
          slots = λ row slot is at.
              represents laws stand_before inquiry line rounds view.log view.table lent new round engine.table ordered goes_on made lent_each same_length lent_represents lent_worked_on row slot is
              (sym (ap (λ (ss : List Slot). slice_get ss row.number) back_is) ∙ at);
          worked_on = λ row slot is at.
              worked_on laws stand_before inquiry line rounds view.log view.table lent new round engine.table ordered goes_on made lent_each same_length lent_represents lent_worked_on row slot is
              (sym (ap (λ (ss : List Slot). slice_get ss row.number) back_is) ∙ at);
        };
      }

      -- the counted calls are within the limits of the round
      pub counts_from : (before after : ℕ) → AreSlotsWithin inquiry view.table lent round.findings before after → IsRoundWithin view.graph back_log rounds round before after
      counts_from before after is =
          subst (λ (l : Logbook). IsRoundWithin view.graph l rounds round before after) same_log
          (within laws stand_before inquiry line rounds view.log view.table lent new round engine.table ordered goes_on made lent_each same_length lent_represents lent_worked_on before after is)

      -- the same, where this is what contracts saw of the engine
      pub gives_from : (old : EngineState) → view ≡ old → GivesRound line text rounds round old (now_at back_log)
      gives_from old is =
          subst (λ (e : EngineState). GivesRound line text rounds round e (now_at back_log)) is (subst (λ (l : Logbook). GivesRound line text rounds round view (now_at l)) same_log gives_round)

-- ---- which fault there is

-- the fault is that of the table
pub too_many_by : {X Y P : Type 0} (result : Result X TableFault) (fault same : TableFault) (count : ℕ) → result ≡ Err fault → fault ≡ same → ◌≡◌ {A = Result Y TableFault} (Err same) (Err (TooMany count)) ↔ P
    → (result ≡ Err (TooMany count)) ↔ P
too_many_by result fault same count failed from is = (
  λ own. is.0 (ap Err (sym from ∙ same_Err fault (TooMany count) (sym failed ∙ own))),
  λ holds. failed ∙ ap Err (from ∙ same_Err same (TooMany count) (is.1 holds)),
)

no_fault : (count : ℕ) → NoMemory ≡ TooMany count → ⊥
no_fault count is = cc

-- the fault is that memory ran out
pub not_too_many : {X P : Type 0} (result : Result X TableFault) (fault : TableFault) (count : ℕ) → result ≡ Err fault → fault ≡ NoMemory → (P → ⊥) → (result ≡ Err (TooMany count)) ↔ P
not_too_many result fault count failed from never = (λ own. absurd (no_fault count (sym from ∙ same_Err fault (TooMany count) (sym failed ∙ own))), λ holds. absurd (never holds))

-- a refusal is the log's own
pub same_refusal : (text : List ℕ) (view old : EngineState) (reply : Offered) (mine refusal : Refusal) → view ≡ old → reply ≡ reply_to view.graph view.log text → reply ≡ Refused mine
    → reply_to old.graph old.log text ≡ Refused refusal → mine ≡ refusal
same_refusal text view old reply mine refusal same is refused h =
    let both : Refused mine ≡ Refused refusal = sym refused ∙ is ∙ ap (λ (e : EngineState). reply_to e.graph e.log text) same ∙ h in cc
