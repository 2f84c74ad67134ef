-- The horizons of the names on the path of a search are times of events.
use Rattle.std.proofs.Common.{◌≡◌, ℕ, ◌≤◌, List, [], ◌∷◌, length, take, drop, Option, Some, None, refl, sym, subst}
use Rattle.std.specs.Prelude.{All, Contains}
use Rattle.std.proofs.lemmas.List.{take-append-drop}
use Rattle.std.proofs.lemmas.List.Elements.{All-push, All-weaker, Contains-append_left}
use Rattle.tfpg_log.specs.declared.event.Event.{Event}
use Rattle.tfpg_log.specs.Log.{Logbook, now_of, time_of_event, first_events}
use Rattle.tfpg_evidence.specs.declared.step.Step.{Step}
use Rattle.tfpg_evidence.specs.declared.step.Step.TheVariants.{Split, Cycle, Again}
use Rattle.tfpg_clause.specs.Order.{horizon_of}
use Rattle.tfpg_clause.specs.Paths.{new_split, MovesTo}
use Rattle.tfpg_clause.specs.declared.path.PathSplit.{PathSplit}
use Rattle.tfpg_search.specs.Enough.{IsEventTime}
use Rattle.tfpg_search.specs.inside.Moves.{IsSearchStepAt, Leads}
use Rattle.tfpg_base.proofs.lemmas.lists.Elements.{fold-last}
use Rattle.tfpg_search.proofs.lemmas.steps.PathAfter.{moved_by, all_after}
use Rattle.tfpg_clause.specs.Trees.{split_count}
use Rattle.tfpg_clause.specs.Case.{Case}

-- ---- now is the time of an event

pub now_is_a_time : (log : Logbook) → 1 ≤ length log.events → IsEventTime log (now_of log)
now_is_a_time log some =
    let last = fold-last time_of_event 0 log.events some in
    record { event = last.0; accepted = last.1; at = last.2 }

-- ---- horizons

abbrev pub AtTimes : Logbook → List PathSplit → Type 0
AtTimes log path = All (λ (split : PathSplit). IsEventTime log (horizon_of split.name)) path

-- The times of the first events of a log are times of the log.
pub times_stay : (log : Logbook) (seen : ℕ) (path : List PathSplit) → AtTimes (first_events log seen) path → AtTimes log path
times_stay log seen path times =
    All-weaker (λ (split : PathSplit). IsEventTime (first_events log seen) (horizon_of split.name)) (λ (split : PathSplit). IsEventTime log (horizon_of split.name))
    (λ split is. record {
      event = is.event;
      accepted = subst (λ (events : List Event). Contains events is.event) (take-append-drop seen log.events) (Contains-append_left (take seen log.events) (drop seen log.events) is.event is.accepted);
      at = is.at;
    })
    path times

abbrev AtTimesWhere : Logbook → Option (List PathSplit) → Type 0
AtTimesWhere log None = Unit {0}
AtTimesWhere log (Some path) = AtTimes log path

module _ (case : Case) where
  abbrev At : PathSplit → Type 0
  At split = IsEventTime case.log (horizon_of split.name)

  after_closing : (path : List PathSplit) → AtTimes case.log path → (step : Step) (next : Option (List PathSplit)) → split_count (step ∷ []) ≡ 0 → MovesTo case path step next → AtTimesWhere case.log next
  after_closing path times step None closes moves = tt
  after_closing path times step (Some after) closes moves =
      all_after At (λ split cited time. time) (λ split more time. time) path after (moved_by case path after step closes moves) times

  module _ (now_is : IsEventTime case.log (now_of case.log)) where
    after_step : (path : List PathSplit) → AtTimes case.log path → (step : Step) (next : Option (List PathSplit)) → MovesTo case path step next → IsSearchStepAt case path step
        → AtTimesWhere case.log next
    after_step path times (Split name) next moves live =
        subst (AtTimesWhere case.log) (sym moves.2)
        (All-push At path (new_split name moves.0) times (subst (IsEventTime case.log) (sym live.0.first.at_now) now_is))
    after_step path times (Cycle reasons) next moves simple = after_closing path times (Cycle reasons) next refl moves
    after_step path times Again next moves reusable = after_closing path times Again next refl moves

    led : (steps : List Step) (start end : Option (List PathSplit)) → AtTimesWhere case.log start → Leads case start steps end → AtTimesWhere case.log end
    led [] start end times leads = subst (AtTimesWhere case.log) leads times
    led (step ∷ steps) None end times leads = absurd leads
    led (step ∷ steps) (Some path) end times leads = led steps leads.0 end (after_step path times step leads.0 leads.1 leads.2) leads.3

    -- Where steps lead to a leaf, the horizons on its path are times of events.
    pub times_after : (path after : List PathSplit) (steps : List Step) (end : Option (List PathSplit)) → AtTimes case.log path → Leads case (Some path) steps end → end ≡ Some after
        → AtTimes case.log after
    times_after path after steps end times leads is = subst (AtTimesWhere case.log) is (led steps (Some path) end times leads)
