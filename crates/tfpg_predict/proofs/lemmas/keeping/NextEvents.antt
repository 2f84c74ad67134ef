-- Each event of a probed log may come next after those before it.
use Rattle.std.proofs.Common.{◌≡◌, ℕ, ◌+◌, ◌<◌, ◌≤◌, cond, List, ◌∷◌, ◌++◌, length, take, drop, get_or, All, sym, ap, ◌∙◌, subst, arith, length-append}
use Rattle.std.specs.Prelude.{AllPairs, count_by}
use Rattle.std.proofs.lemmas.List.{drop_more, take-append-drop}
use Rattle.std.proofs.lemmas.List.Sums.{sum_by-append, sum_by-cons}
use Rattle.tfpg_base.proofs.lemmas.lists.Elements.{AllPairs-middle, All-middle}
use Rattle.tfpg_base.specs.declared.limits.TheConstants.{MAX_TIME}
use Rattle.tfpg_graph.specs.Graph.{Tfpg}
use Rattle.tfpg_log.specs.declared.event.Event.{Event}
use Rattle.tfpg_log.specs.declared.limits.TheConstants.{MAX_EVENTS, MAX_MODE_CHANGES}
use Rattle.tfpg_log.specs.Log.{Logbook, IsEventOf, time_of_event, is_mode_change}
use Rattle.tfpg_log.specs.EventLines.{IsNextEvent, AreNextEvents}
use Rattle.tfpg_log.specs.LogOfLines.{log_of_events}
use Rattle.tfpg_log.proofs.lemmas.events.Order.{last_upto}

-- The events are of the graph, in order, not too late, and not too many.
pub record AreInOrder (graph : Tfpg) (events : List Event) : Type 0 where
  pub own : All (IsEventOf graph) events
  pub in_order : AllPairs (λ earlier later. time_of_event earlier ≤ time_of_event later) events
  pub in_range : All (λ event. time_of_event event ≤ MAX_TIME) events
  pub few : length events ≤ MAX_EVENTS
  pub few_changes : count_by is_mode_change events ≤ MAX_MODE_CHANGES

module _ (graph : Tfpg) (events : List Event) (are : AreInOrder graph events) (front back : List Event) (event : Event) (parts : events ≡ front ++ event ∷ back) where
  comes_next : IsNextEvent graph (log_of_events front) event
  comes_next = record {
    own = All-middle (IsEventOf graph) front event back (subst (All (IsEventOf graph)) parts are.own);
    not_back = last_upto front 0 (time_of_event event) (omega arith)
        (AllPairs-middle front event back (λ earlier later. time_of_event earlier ≤ time_of_event later)
        (subst (AllPairs (λ earlier later. time_of_event earlier ≤ time_of_event later)) parts are.in_order));
    in_range = All-middle (λ e. time_of_event e ≤ MAX_TIME) front event back (subst (All (λ e. time_of_event e ≤ MAX_TIME)) parts are.in_range);
    room = let few = are.few in omega (arith, length-append front (event ∷ back), ap length parts, few);
    mode_room = λ changes.
        let few = are.few_changes in
        omega (
          arith,
          ap (count_by is_mode_change) parts,
          sum_by-append (λ e. cond (is_mode_change e) 1 0) front (event ∷ back),
          sum_by-cons (λ e. cond (is_mode_change e) 1 0) event back,
          ap {B = ℕ} (λ b. cond b 1 0) changes,
          few,
        );
  }

-- The event at an index may come next in the log of those before it.
pub next_at : (graph : Tfpg) (events : List Event) → AreNextEvents graph events → (index : ℕ) (d : Event) → index < length events → (log : Logbook) → log ≡ log_of_events (take index events)
    → IsNextEvent graph log (get_or events index d)
next_at graph events next index d within log is =
    subst (λ (l : Logbook). IsNextEvent graph l (get_or events index d)) (sym is)
    (next (take index events) (drop (index + 1) events) (get_or events index d)
    (sym (take-append-drop index events) ∙ ap (λ (rest : List Event). take index events ++ rest) (drop_more events index d within)))

-- So each of them may come next.
pub are_next : (graph : Tfpg) (events : List Event) → AreInOrder graph events → AreNextEvents graph events
are_next graph events are front back event parts = comes_next graph events are front back event parts
