use Rattle.std.proofs.Common.{Option, Some, ap, subst, ◌∙◌}
use Rattle.tfpg_embed.specs.declared.session.open_session.OpenSession.{OpenSession}
use Rattle.tfpg_embed.specs.Sessions.{AnswersBlock}
use Rattle.tfpg_embed.proofs.lemmas.SessionCalls.{closed_block}
use Rattle.tfpg_embed.proofs.session.calls.tfpg_block.Goals as goal

pub returns-in-Some-clause-block : goal.returns-in-Some-clause-block
returns-in-Some-clause-block c =
    subst (λ (held : Option OpenSession). AnswersBlock held c.args.room.now c.put_text-answer.new.room c.put_text-answer.result) (ap Some c.deref.ensures ∙ c.in-Some.ensures.taken) c.put_text-answer.ensures

pub returns-in-None-clause-block : goal.returns-in-None-clause-block
returns-in-None-clause-block c =
    subst (λ (held : Option OpenSession). AnswersBlock held c.args.room.now c.args.room.now c.plain.result) c.in-None.ensures.taken (closed_block c.args.room.now c.plain.result c.plain.ensures)
