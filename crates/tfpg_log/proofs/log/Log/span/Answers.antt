use Rattle.std.proofs.Common.{List, ap, ◌∙◌, arith}
use Rattle.tfpg_log.specs.declared.mode_change.ModeChange.{ModeChange}
use Rattle.tfpg_log.specs.Log.{Logbook, now_of}
use Rattle.tfpg_log.specs.Spans.{span_at}
use Rattle.tfpg_log.specs.inside.SpanIndex.{span_in}
use Rattle.tfpg_log.proofs.lemmas.changes.SpanStarts.{span_in_is}
use Rattle.tfpg_log.proofs.log.Log.span.Goals as goal

pub returns : goal.returns
returns c =
    let log : Logbook = record { events = c.self.inside.events.items; ignored = c.self.inside.ignored } in
    c.span_in.ensures ∙ ap (λ (changes : List ModeChange). span_in changes c.args.number c.args.horizon) c.deref.ensures.value
    ∙ span_in_is log c.self.inside.changes.items c.self.invariant.spans c.args.number c.args.horizon
    (omega (arith, ap now_of c.self.view_is))
    ∙ ap (λ (l : Logbook). span_at l c.args.number c.args.horizon) c.self.view_is
