-- That a vehicle refuses a line where its log does.
use Rattle.std.proofs.Common.{◌≡◌, ℕ, false, List, Option, Some, sym, ap, subst, ◌∙◌}
use Rattle.std.specs.Prelude.{Result, Ok, is_none}
use Rattle.std.specs.Option.{ok_or}
use Rattle.std.proofs.lemmas.Option.{same_Some}
use Rattle.tfpg_base.proofs.lemmas.lists.Choices.{ok_or-ok}
use Rattle.tfpg_log.specs.declared.event.Offered.TheVariants.{Refused}
use Rattle.tfpg_log.specs.declared.refusal.Refusal.{Refusal}
use Rattle.tfpg_log.specs.Accepted.{reply_to}
use Rattle.tfpg_engine.specs.declared.told.Told.{Told}
use Rattle.tfpg_engine.specs.declared.told.Told.TheVariants as told
use Rattle.tfpg_engine.specs.declared.told.EventFault.{EventFault}
use Rattle.tfpg_engine.specs.declared.told.EventFault.TheVariants.{Ended}
use Rattle.tfpg_fleet.specs.FleetState.{Refuses, VehicleState}
use Rattle.tfpg_fleet.specs.inside.Vehicles.{IsVehicle}

-- what an engine brings where its log refuses the line
abbrev EngineRefuses : VehicleState → List ℕ → Told → Type 0
EngineRefuses vehicle text answer =
    (refusal : Refusal) → vehicle.engine.ended ≡ false → reply_to vehicle.engine.graph vehicle.engine.log text ≡ Refused refusal
    → ◌≡◌ {A = Result Told EventFault} (Ok answer) (Ok (told.Refused refusal))

-- the vehicle brings that, with the number of the line
pub refuses : (text : List ℕ) (vehicle seen : VehicleState) → vehicle ≡ seen → IsVehicle vehicle → (next : Option ℕ) → next ≡ vehicle.next
    → (own : ℕ) → ◌≡◌ {A = Result ℕ EventFault} (Ok own) (ok_or next Ended) → (answer : Told) → EngineRefuses vehicle text answer
    → (line : ℕ) (refusal : Refusal) → Refuses text seen line refusal → ◌≡◌ {A = Result (ℕ × Told) EventFault} (Ok (own, answer)) (Ok (line, told.Refused refusal))
refuses text vehicle seen same is_vehicle next next_is own taken answer engine line refusal is =
    let its = subst (λ (v : VehicleState). Refuses text v line refusal) (sym same) is in
    let both : Some own ≡ Some line = sym (ok_or-ok next Ended own (sym taken)) ∙ next_is ∙ its.next_is in
    let number : own ≡ line = same_Some own line both in
    let refused = engine refusal (is_vehicle (ap is_none its.next_is)) its.reply in
    let what : answer ≡ told.Refused refusal = cc in
    λ i. Ok (number i, what i)
