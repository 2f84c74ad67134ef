use Rattle.std.proofs.Common.{List, ℕ, ap, length, sym, ◌∙◌}
use Rattle.std.specs.Prelude.{is_some}
use Rattle.std.specs.Option.{option_map_or}
use Rattle.std.proofs.lemmas.Bool.{false≢true}
use Rattle.tfpg_diagnose.specs.texts.Sessions.{latest_text}
use Rattle.tfpg_embed.specs.Answers.{answer_of_text}
use Rattle.tfpg_embed.specs.Rooms.{room_after}
use Rattle.tfpg_embed.proofs.lemmas.SessionCalls.{text_put}
use Rattle.tfpg_embed.proofs.session.open_session.OpenSession.put_text.Goals as goal

pub returns-in-Some : goal.returns-in-Some
returns-in-Some c =
    text_put c.args.self.now c.args.room.now c.put_text.new.room c.put_text.result c.in-Some.text.items (λ i. option_map_or (λ kept. kept.items) (c.in-Some.is i) (latest_text c.args.self.now.session))
    (λ none. false≢true (ap is_some (sym none.0 ∙ c.in-Some.is)))
    (c.put_text.ensures.answer ∙ ap (λ (text : List ℕ). answer_of_text text (length c.args.room.now)) c.deref.ensures.value)
    (c.put_text.ensures.room ∙ ap (λ (text : List ℕ). room_after text c.args.room.now) c.deref.ensures.value)
