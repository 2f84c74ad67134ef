use Rattle.std.proofs.Common.{Some, ap, length, refl, ◌∙◌}
use Rattle.tfpg_embed.specs.declared.status.TheConstants.{DONE, ENDED}
use Rattle.tfpg_embed.specs.Answers.{answer_of_event_fault, answer_with, counted}
use Rattle.tfpg_embed.specs.Sessions.{open_text}
use Rattle.tfpg_embed.proofs.lemmas.SessionCalls.{event_answered, line_refused, line_taken, line_too_late, uncounted}
use Rattle.tfpg_embed.proofs.session.events.tfpg_event.Goals as goal

pub returns-in-Ok-clause-answers : goal.returns-in-Ok-clause-answers
returns-in-Ok-clause-answers c =
    let had = ap Some c.deref_mut.ensures.value ∙ c.in-Some.ensures.taken in
    event_answered c.args.time c.args.kind c.args.index _ _ _ _ had (record {
      line_answer = counted DONE (length (open_text c.event.new.self));
      answers = line_taken _ _ _ _ _ c.event.new.self tt (length (open_text c.event.new.self)) had c.put.ensures c.in-Ok.ensures.block c.in-Ok.ensures.work refl c.in-Ok.ensures.ended refl;
      status_is = c.plain-in-Ok.ensures;
    })

pub returns-in-Err-clause-answers : goal.returns-in-Err-clause-answers
returns-in-Err-clause-answers c =
    let had = ap Some c.deref_mut.ensures.value ∙ c.in-Some.ensures.taken in
    event_answered c.args.time c.args.kind c.args.index _ _ _ _ had (record {
      line_answer = answer_of_event_fault c.in-Err.fault;
      answers = line_refused _ _ _ _ _ c.in-Err.fault had c.in-Some.ensures.closed c.in-Err.ensures.ended refl;
      status_is = c.of_event_fault.ensures ∙ uncounted c.in-Err.fault;
    })

pub returns-in_default-clause-answers : goal.returns-in_default-clause-answers
returns-in_default-clause-answers c = record {
  line_answer = answer_with ENDED;
  answers = line_too_late _ _ _ _ c.in_default.ensures.taken c.in_default.ensures.closed refl;
  status_is = c.plain.ensures;
}
