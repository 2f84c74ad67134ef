use Rattle.std.proofs.Common.{◌∙◌, List, ℕ, Ok, Err, ap, length, refl}
use Rattle.tfpg_answers.specs.declared.texts.fault.ExplainTextsFault.TheVariants.{NoMemory}
use Rattle.tfpg_answers.specs.texts.ExplainedTexts.{CanExplainTexts, HasVerdictOfTexts, IsExplainTextsFault, explained_texts}
use Rattle.tfpg_embed.specs.Answers.{answer_of_text}
use Rattle.tfpg_embed.specs.Rooms.{room_after}
use Rattle.tfpg_embed.proofs.lemmas.MadeTexts.{made_none, made_text}
use Rattle.tfpg_embed.proofs.text_calls.tfpg_explain.Goals as goal

pub returns-in-Ok : goal.returns-in-Ok
returns-in-Ok c =
    let texts = explained_texts c.args.graph.now c.args.log.now c.args.map.now in (
      Ok c.in-Ok.verdict.items,
      made_text (HasVerdictOfTexts texts) (IsExplainTextsFault texts) (CanExplainTexts texts) NoMemory c.in-Ok.verdict c.in-Ok.verdict.items c.in-Ok.ensures.verdict c.in-Ok.ensures.refuses,
      record {
        answer_is = c.put_text.ensures.answer ∙ ap (λ (text : List ℕ). answer_of_text text (length c.args.room.now)) c.deref.ensures.value;
        room_is = c.put_text.ensures.room ∙ ap (λ (text : List ℕ). room_after text c.args.room.now) c.deref.ensures.value;
      },
    )

pub returns-in-Err : goal.returns-in-Err
returns-in-Err c =
    let texts = explained_texts c.args.graph.now c.args.log.now c.args.map.now in (
      Err c.in-Err.fault,
      made_none (HasVerdictOfTexts texts) (IsExplainTextsFault texts) (CanExplainTexts texts) NoMemory c.in-Err.fault c.in-Err.ensures.fault c.in-Err.ensures.completes c.in-Err.ensures.refuses,
      record { answer_is = c.of_explain_fault.ensures; room_is = refl },
    )
