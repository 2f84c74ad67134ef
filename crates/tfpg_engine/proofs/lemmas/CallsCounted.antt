-- What the systems of all searches have counted, as slots change.
use Rattle.std.proofs.Common.{◌≡◌, ℕ, ◌+◌, ◌*◌, ◌<◌, List, length, set, get_or, replicate, refl, ap, ◌∙◌, arith}
use Rattle.std.specs.Prelude.{sum_by}
use Rattle.std.proofs.lemmas.List.Sums.{sum_by-set}
use Rattle.std.proofs.lemmas.List.Folds.{sum_by-replicate}
use Rattle.tfpg_search.specs.SearchState.{SearchState, calls_of_search}
use Rattle.tfpg_search.specs.declared.found.Found.{Found}
use Rattle.tfpg_search.specs.declared.found.Found.TheVariants.{Shown, Closed, Spent}
use Rattle.tfpg_engine.specs.declared.slot.Slot.{Slot}
use Rattle.tfpg_engine.specs.declared.slot.Slot.TheVariants.{Untouched}
use Rattle.tfpg_engine.specs.EngineState.{EngineState, calls_of_slot, calls_of_engine}
use Rattle.tfpg_engine.specs.inside.NewFindings.{kept}

-- what is kept of a search has the calls of the search
pub kept_calls : (search : SearchState) (found : Found) → calls_of_slot (kept search found) ≡ calls_of_search search
kept_calls search (Shown trace) = refl
kept_calls search Closed = refl
kept_calls search Spent = refl

-- A search went on from what was kept in a slot, and this is kept of it now.
pub searched_calls : (old taken now : Slot) (before after : SearchState) (start end : ℕ) → taken ≡ old → calls_of_search before ≡ calls_of_slot taken
    → calls_of_slot now ≡ calls_of_search after → calls_of_search after + start ≡ calls_of_search before + end → calls_of_slot now + start ≡ calls_of_slot old + end
searched_calls old taken now before after start end same begun is counted =
    let was : calls_of_slot taken ≡ calls_of_slot old = ap calls_of_slot same in
    omega (arith, was, begun, is, counted)

-- One slot changed, as the count did.
pub calls_with : (slots : List Slot) (number : ℕ) (none new : Slot) (start before after total : ℕ) → number < length slots → sum_by calls_of_slot slots + start ≡ total + before
    → calls_of_slot new + before ≡ calls_of_slot (get_or slots number none) + after → sum_by calls_of_slot (set slots number new) + start ≡ total + after
calls_with slots number none new start before after total within so_far one =
    let changed = sum_by-set calls_of_slot slots number new none within in
    omega (arith, changed, so_far, one)

-- The slots changed as the count did, where these are what contracts saw of the engine and what it lends of it.
pub event_calls : (view old : EngineState) (lent new back : List Slot) (start end : ℕ) → view ≡ old → lent ≡ view.slots → back ≡ new
    → sum_by calls_of_slot new + start ≡ sum_by calls_of_slot lent + end → sum_by calls_of_slot back + start ≡ calls_of_engine old + end
event_calls view old lent new back start end same is_lent is_back counted =
    let back_is : sum_by calls_of_slot back ≡ sum_by calls_of_slot new = ap (sum_by calls_of_slot) is_back in
    let lent_is : sum_by calls_of_slot lent ≡ calls_of_engine old = ap (sum_by calls_of_slot) is_lent ∙ ap calls_of_engine same in
    omega (arith, back_is, lent_is, counted)

-- There were none for hypotheses that were never searched.
pub untouched_calls : (slots : List Slot) (count : ℕ) → slots ≡ replicate count Untouched → sum_by calls_of_slot slots ≡ 0
untouched_calls slots count is =
    let all : sum_by calls_of_slot slots ≡ count * 0 = ap (sum_by calls_of_slot) is ∙ sum_by-replicate calls_of_slot count Untouched in
    omega (arith, all)
