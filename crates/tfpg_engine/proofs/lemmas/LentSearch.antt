-- The search that an engine lends is that of the hypothesis, and there is one exactly where it keeps one.
use Rattle.std.proofs.Common.{◌≡◌, ℕ, Bool, false, List, Option, Some, None, refl, sym, ap, ◌∙◌, subst}
use Rattle.std.specs.Prelude.{if◌then◌else◌, option_and_then, slice_get}
use Rattle.tfpg_base.specs.Hypothesis.{Hypothesis}
use Rattle.tfpg_base.proofs.lemmas.lists.Elements.{slice_get-same_length}
use Rattle.tfpg_log.specs.Log.{Logbook}
use Rattle.tfpg_log.proofs.lemmas.events.PastKept.{first_events_kept}
use Rattle.tfpg_hyp.specs.Hypotheses.{Row}
use Rattle.tfpg_hyp.specs.Views.{log_for, case_for}
use Rattle.tfpg_search.specs.SearchState.{SearchState}
use Rattle.tfpg_search.specs.Represents.{SearchRepresents}
use Rattle.tfpg_engine.specs.declared.slot.Slot.{Slot}
use Rattle.tfpg_engine.specs.declared.slot.Slot.TheVariants.{Searched}
use Rattle.tfpg_engine.specs.EngineState.{EngineState, IsLentSearch, lent_search, search_in}
use Rattle.tfpg_engine.specs.inside.Slots.{IsEngine, CanGoOn}

-- what is kept of a hypothesis can go on, while the engine runs
goes_on_at : (engine : EngineState) → IsEngine engine → engine.ended ≡ false → (number : ℕ) (hypothesis : Hypothesis) (reach : List ℕ) (slot : Slot)
    → slice_get engine.table.hypotheses number ≡ Some hypothesis → slice_get engine.table.reaches number ≡ Some reach → slice_get engine.slots number ≡ Some slot
    → CanGoOn (case_for engine.graph engine.log hypothesis reach) hypothesis slot
goes_on_at engine is running number hypothesis reach slot at reach_at slot_at =
    let row : Row = record { number = number; hypothesis = hypothesis; reach = reach } in
    is.slots running row slot (record { hypothesis = at; reach = reach_at }) slot_at

-- The search in the slot of a hypothesis is one that the engine may lend.
pub is_lent : (engine : EngineState) → IsEngine engine → engine.ended ≡ false → (number : ℕ) (hypothesis : Hypothesis) (search : SearchState)
    → slice_get engine.table.hypotheses number ≡ Some hypothesis → slice_get engine.slots number ≡ Some (Searched search) → IsLentSearch engine hypothesis search
is_lent engine is running number hypothesis search at slot_at =
    let reached = slice_get-same_length engine.table.reaches engine.table.hypotheses number hypothesis (sym is.table.reached.complete) at in
    let kept = goes_on_at engine is running number hypothesis reached.0 (Searched search) at reached.1 slot_at in
    record {
      set_is = kept.1.0;
      represents = λ later goes_on. (
        kept.0,
        subst (λ (log : Logbook). SearchRepresents engine.graph log search kept.0)
            (first_events_kept (log_for engine.log hypothesis) (log_for later hypothesis) (record { more = goes_on.more; events = goes_on.events; ignored = refl }) search.seen kept.1.2.seen) kept.1.2,
      );
    }

-- What it lends while it runs is the search in what it keeps.
pub lends : (engine old : EngineState) (number : ℕ) (found : Option Slot) → engine ≡ old → engine.ended ≡ false → slice_get engine.slots number ≡ found
    → option_and_then search_in found ≡ lent_search old number
lends engine old number found same running there =
    sym (ap (λ (b : Bool). if b then None else option_and_then search_in (slice_get engine.slots number)) running ∙ ap (option_and_then search_in) there)
    ∙ ap (λ (e : EngineState). lent_search e number) same
