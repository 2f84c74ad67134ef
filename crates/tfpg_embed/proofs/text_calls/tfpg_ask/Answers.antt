use Rattle.std.proofs.Common.{◌∙◌, List, ℕ, Ok, Err, ap, length, refl}
use Rattle.tfpg_answers.specs.declared.texts.fault.AskTextsFault.TheVariants.{NoMemory}
use Rattle.tfpg_answers.specs.texts.AskedTexts.{CanAskTexts, HasQuestionsOfTexts, IsAskTextsFault}
use Rattle.tfpg_embed.specs.TextCalls.{terms_of}
use Rattle.tfpg_embed.specs.Answers.{answer_of_text}
use Rattle.tfpg_embed.specs.Rooms.{room_after}
use Rattle.tfpg_embed.proofs.lemmas.MadeTexts.{made_none, made_text}
use Rattle.tfpg_embed.proofs.text_calls.tfpg_ask.Goals as goal

pub returns-in-Ok : goal.returns-in-Ok
returns-in-Ok c =
    let graph = c.args.graph.now in
    let terms = terms_of c.args.k c.args.doubt c.args.budget in
    let log = c.args.log.now in (
      Ok c.in-Ok.questions.items,
      made_text (HasQuestionsOfTexts graph terms log) (IsAskTextsFault graph terms log) (CanAskTexts graph terms log) NoMemory c.in-Ok.questions c.in-Ok.questions.items c.in-Ok.ensures.questions c.in-Ok.ensures.refuses,
      record {
        answer_is = c.put_text.ensures.answer ∙ ap (λ (text : List ℕ). answer_of_text text (length c.args.room.now)) c.deref.ensures.value;
        room_is = c.put_text.ensures.room ∙ ap (λ (text : List ℕ). room_after text c.args.room.now) c.deref.ensures.value;
      },
    )

pub returns-in-Err : goal.returns-in-Err
returns-in-Err c =
    let graph = c.args.graph.now in
    let terms = terms_of c.args.k c.args.doubt c.args.budget in
    let log = c.args.log.now in (
      Err c.in-Err.fault,
      made_none (HasQuestionsOfTexts graph terms log) (IsAskTextsFault graph terms log) (CanAskTexts graph terms log) NoMemory c.in-Err.fault c.in-Err.ensures.fault c.in-Err.ensures.completes c.in-Err.ensures.refuses,
      record { answer_is = c.of_ask_fault.ensures; room_is = refl },
    )
