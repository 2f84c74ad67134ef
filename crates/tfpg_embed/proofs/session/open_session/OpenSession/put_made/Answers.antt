use Rattle.std.proofs.Common.{List, ℕ, ap, length, sym, refl, ◌∙◌}
use Rattle.tfpg_engine.specs.declared.told.EventFault.TheVariants.{Ended}
use Rattle.tfpg_embed.specs.Answers.{answer_of_text}
use Rattle.tfpg_embed.specs.Rooms.{room_after}
use Rattle.tfpg_embed.proofs.lemmas.SessionCalls.{ok_is_no_error, text_not_made, text_put, unkept_text}
use Rattle.tfpg_embed.proofs.session.open_session.OpenSession.put_made.Goals as goal

pub returns-in-Ok : goal.returns-in-Ok
returns-in-Ok c =
    text_put c.args.self.now c.args.room.now c.put_text.new.room c.put_text.result c.in-Ok.text.items (unkept_text c.args.self.now c.requires ∙ sym c.in-Ok.ensures.text)
    (λ none. ok_is_no_error c.in-Ok.text Ended (c.in-Ok.ensures.ended.1 none.1))
    (c.put_text.ensures.answer ∙ ap (λ (text : List ℕ). answer_of_text text (length c.args.room.now)) c.deref.ensures.value)
    (c.put_text.ensures.room ∙ ap (λ (text : List ℕ). room_after text c.args.room.now) c.deref.ensures.value)

pub returns-in-Err : goal.returns-in-Err
returns-in-Err c = text_not_made c.args.self.now c.args.room.now c.args.room.now c.of_event_fault.result c.in-Err.fault c.requires c.in-Err.ensures.ended c.of_event_fault.ensures refl
