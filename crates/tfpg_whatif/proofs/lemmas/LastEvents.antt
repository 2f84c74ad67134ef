-- The last event of a log, and what is known before it.
use Rattle.std.proofs.Common.{◌≡◌, ℕ, zero, suc, List, [], ◌∷◌, ◌++◌, length, sym, ap, subst, ◌∙◌, arith}
use Rattle.std.specs.Prelude.{All, Some, slice_get}
use Rattle.std.proofs.lemmas.List.{append-nil, take_all}
use Rattle.std.proofs.lemmas.Option.{slice_get_within}
use Rattle.tfpg_base.proofs.lemmas.lists.Cuts.{take-item}
use Rattle.tfpg_log.specs.declared.event.Event.{Event}
use Rattle.tfpg_log.specs.declared.event.Offered.{Offered}
use Rattle.tfpg_log.specs.declared.event.Offered.TheVariants.{Accepted}
use Rattle.tfpg_log.specs.Log.{Logbook, IsEventOf, IsLogOf, event_at, first_events, now_of, time_of_event, with_event}
use Rattle.tfpg_log.specs.LogOfLines.{log_after_reply}
use Rattle.tfpg_whatif.specs.declared.asking.Asking.{Asking}
use Rattle.tfpg_whatif.specs.declared.asking.LastEvent.{LastEvent}
use Rattle.tfpg_whatif.specs.declared.outcome.Outcome.{Outcome}
use Rattle.tfpg_whatif.specs.Outcomes.{Asked}
use Rattle.tfpg_whatif.specs.inside.Asking.{asked_by, asked_of_lent, AreKnown, IsAskedAt, IsLastEvent}

-- It is the last event of each log of the same events.
pub last_same : (asking : Asking) (last : LastEvent) (log other : Logbook) → other.events ≡ log.events → IsLastEvent asking last log → IsLastEvent asking last other
last_same asking last log other same is = record { earlier = is.earlier; events = same ∙ is.events; known = is.known; at_now = is.at_now }

-- ---- nothing is known

pub none_known : (asked : Asked) (outcomes : List Outcome) → outcomes ≡ [] → AreKnown asked outcomes
none_known asked outcomes none index number outcome at there = absurd (let empty = sym (ap (λ (os : List Outcome). slice_get os index) none) ∙ there in cc)

module _ (asking : Asking) (last : LastEvent) (event : Event) (same_event : last.event ≡ event) (none : last.before.now ≡ []) where
  alone : (earlier log : Logbook) → log.events ≡ earlier.events ++ event ∷ [] → IsLastEvent asking last log
  alone earlier log ends = record {
    earlier = earlier;
    events = ends ∙ ap (λ (e : Event). earlier.events ++ e ∷ []) (sym same_event);
    known = none_known (asked_by asking earlier) last.before.now none;
    at_now = λ index outcome there. absurd (let empty = sym (ap (λ (os : List Outcome). slice_get os index) none) ∙ there in cc);
  }

  -- It is the event of a line that was accepted.
  pub alone_accepted : (old new : Logbook) (reply : Offered) → new ≡ log_after_reply old reply → reply ≡ Accepted event → IsLastEvent asking last new
  alone_accepted old new reply is accepted = alone old new (ap (λ (l : Logbook). l.events) (is ∙ ap (log_after_reply old) accepted))

  -- It is the event that a log ends with.
  pub alone_at_end : (lent copied : Logbook) (count : ℕ) → copied ≡ lent → count ≡ length lent.events → event_at lent count ≡ Some event → IsLastEvent asking last copied
  alone_at_end lent copied zero is_copy counted at = absurd cc
  alone_at_end lent copied (suc index) is_copy counted at =
      alone (first_events lent index) copied
      (ap (λ (l : Logbook). l.events) is_copy ∙ sym (take_all (suc index) lent.events (omega (arith, counted))) ∙ take-item lent.events index event at)

-- A log with an event can be asked about.
pub asked_at_end : (asking : Asking) (lent copied : Logbook) (count : ℕ) (event : Event) → copied ≡ lent → lent ≡ asking.engine.now.log → IsLogOf asking.engine.now.graph lent → event_at lent count ≡ Some event
    → IsAskedAt asking copied
asked_at_end asking lent copied zero event is_copy is_log of at = absurd cc
asked_at_end asking lent copied (suc index) event is_copy is_log of at = record {
  own = subst (λ (l : Logbook). All (IsEventOf asking.engine.now.graph) l.events) (sym is_copy) of.own;
  event = omega (arith, slice_get_within lent.events index event at, ap (λ (l : Logbook). length l.events) is_copy);
  goes_on = ([], ap (λ (l : Logbook). l.events) (is_copy ∙ is_log) ∙ sym (append-nil asking.engine.now.log.events));
}

-- An event that was added is at now, and these outcomes are known before it.
pub known_before : (asking : Asking) (last : LastEvent) (old new : Logbook) (event : Event) (before : List Outcome) → last.event ≡ event → last.before.now ≡ before → new ≡ with_event old event
    → old ≡ asking.engine.now.log → AreKnown (asked_of_lent asking) before → time_of_event event ≡ now_of asking.engine.now.log → IsLastEvent asking last new
known_before asking last old new event before same_event same_before longer is_log known at_now = record {
  earlier = old;
  events = ap (λ (l : Logbook). l.events) longer ∙ ap (λ (e : Event). old.events ++ e ∷ []) (sym same_event);
  known = subst (AreKnown (asked_by asking old)) (sym same_before) (subst (λ (l : Logbook). AreKnown (asked_by asking l) before) (sym is_log) known);
  at_now = λ index outcome there. ap time_of_event same_event ∙ at_now ∙ sym (ap now_of is_log);
}
