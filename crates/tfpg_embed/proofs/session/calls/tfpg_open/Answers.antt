use Rattle.std.proofs.Common.{◌≡◌, length, subst, sym}
use Rattle.tfpg_diagnose.specs.declared.texts.fault.OpenFault.TheVariants.{NoMemory}
use Rattle.tfpg_embed.specs.declared.session.open_session.OpenSession.{OpenSession}
use Rattle.tfpg_embed.specs.Sessions.{KeepsText, open_text}
use Rattle.tfpg_embed.proofs.lemmas.SessionCalls.{err_refuses, not_opened, ok_refuses, opened}
use Rattle.tfpg_embed.proofs.session.calls.tfpg_open.Goals as goal

pub returns-in-Ok : goal.returns-in-Ok
returns-in-Ok c =
    let is = c.in-Ok.ensures.opened in
    opened _ _ _ _ c.in-Ok.opened.value c.kept_count-count.result c.put.ensures is
    (subst (λ (one : OpenSession). c.kept_count-count.result ≡ length (open_text one)) c.deref.ensures (c.kept_count-count.ensures (subst KeepsText (sym c.deref.ensures) is.keeps)))
    (λ why real stands. ok_refuses c.in-Ok.opened why NoMemory (c.in-Ok.ensures.refuses why real stands)) c.with_count.ensures

pub returns-in-Err : goal.returns-in-Err
returns-in-Err c =
    not_opened _ _ _ _ c.in-Err.fault c.take.ensures.closed c.in-Err.ensures.fault c.in-Err.ensures.completes
    (λ why real stands. err_refuses c.in-Err.fault why NoMemory (c.in-Err.ensures.refuses why real stands)) c.of_open_fault.ensures
