-- The mode of an instant, and how many changes of mode there are, after one more event.
use Rattle.std.proofs.Common.{◌≡◌, ℕ, ◌+◌, ◌<◌, ◌≤◌, cond, ltb, List, [], ◌∷◌, ◌++◌, refl, ◌∙◌}
use Rattle.std.specs.Prelude.{count_by}
use Rattle.std.proofs.lemmas.Bool.{lt-ltb, le-ltb, cond-true, cond-false}
use Rattle.std.proofs.lemmas.List.Sums.{sum_by_push}
use Rattle.tfpg_log.specs.declared.event.Event.{Event}
use Rattle.tfpg_log.specs.declared.event.Event.TheVariants.{Alarm, Silent, Sweep, Tick, Mode}
use Rattle.tfpg_log.specs.Log.{is_mode_change, mode_after}

-- later events alone add to what the earlier ones say
pub mode_after-append : (held : ℕ) (events more : List Event) (instant : ℕ)
    → mode_after held (events ++ more) instant ≡ mode_after (mode_after held events instant) more instant
mode_after-append held [] more instant = refl
mode_after-append held (Alarm time node ∷ events) more instant = mode_after-append held events more instant
mode_after-append held (Silent time node ∷ events) more instant = mode_after-append held events more instant
mode_after-append held (Sweep time ∷ events) more instant = mode_after-append held events more instant
mode_after-append held (Tick time ∷ events) more instant = mode_after-append held events more instant
mode_after-append held (Mode time mode ∷ events) more instant = mode_after-append (cond (ltb time instant) mode held) events more instant

-- up to the time of a change of mode the modes are unchanged by it
pub mode_before_change : (events : List Event) (time mode instant : ℕ) → instant ≤ time
    → mode_after 0 (events ++ Mode time mode ∷ []) instant ≡ mode_after 0 events instant
mode_before_change events time mode instant by =
    mode_after-append 0 events (Mode time mode ∷ []) instant
    ∙ cond-false (ltb time instant) mode (mode_after 0 events instant) (le-ltb time instant by)

-- and from then on it is the change's
pub mode_after_change : (events : List Event) (time mode instant : ℕ) → time < instant
    → mode_after 0 (events ++ Mode time mode ∷ []) instant ≡ mode
mode_after_change events time mode instant after =
    mode_after-append 0 events (Mode time mode ∷ []) instant
    ∙ cond-true (ltb time instant) mode (mode_after 0 events instant) (lt-ltb time instant after)

-- One event more adds one change of mode if it is one, and none otherwise.
pub changes-push : (events : List Event) (event : Event)
    → count_by is_mode_change (events ++ event ∷ []) ≡ count_by is_mode_change events + cond (is_mode_change event) 1 0
changes-push events event = sum_by_push (λ x. cond (is_mode_change x) 1 0) events event
