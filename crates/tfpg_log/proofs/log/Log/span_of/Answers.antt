use Rattle.std.proofs.Common.{◌≡◌, List, leb, Some, None, sym, ap, subst, ◌∙◌, arith}
use Rattle.std.proofs.lemmas.Bool.{le-leb, cond-true}
use Rattle.tfpg_log.specs.declared.mode_change.ModeChange.{ModeChange}
use Rattle.tfpg_log.specs.Log.{Logbook, now_of}
use Rattle.tfpg_log.specs.Spans.{span_number}
use Rattle.tfpg_log.specs.inside.SpanIndex.{IsInSpan}
use Rattle.tfpg_log.proofs.lemmas.changes.SpanStarts.{number_is}
use Rattle.tfpg_log.proofs.log.Log.span_of.Goals as goal

pub returns : goal.returns
returns c =
    let log : Logbook = record { events = c.self.inside.events.items; ignored = c.self.inside.ignored } in
    let within =
    subst
    (λ (changes : List ModeChange). IsInSpan changes c.span_number.result c.args.instant) c.deref.ensures.value c.span_number.ensures in
    let number : span_number c.args.self.now c.args.instant ≡ c.span_number.result =
    sym (ap (λ (l : Logbook). span_number l c.args.instant) c.self.view_is)
    ∙ number_is log c.self.inside.changes.items c.self.invariant.spans c.span_number.result c.args.instant within in
    ap Some (sym number)
    ∙ sym (cond-true (leb c.args.instant (now_of c.args.self.now)) _ None (le-leb c.args.instant (now_of c.args.self.now) (omega arith)))
