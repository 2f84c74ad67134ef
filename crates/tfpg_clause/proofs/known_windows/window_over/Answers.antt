use Rattle.std.proofs.Common.{Some, slice_get, IfSome, sym, subst}
use Rattle.tfpg_clause.specs.inside.KnownWindows.{IsWindowOver}
use Rattle.tfpg_clause.proofs.lemmas.logs.TimesInRange.{small_window_if}
use Rattle.tfpg_clause.proofs.lemmas.first_violated.WindowsKnown.{window_again}
use Rattle.tfpg_clause.proofs.known_windows.window_over.Goals as goal

pub returns-in-Some-clause-value : goal.returns-in-Some-clause-value
returns-in-Some-clause-value c =
    window_again c.args.site.now.graph.now c.args.site.now.log.now c.args.edge c.args.site.now.span c.args.site.now.horizon c.in_ok-instant.field-0 c.in-Some.window (sym c.in_ok-instant.ensures.value)
    (subst
    (λ known. IfSome known
    (IsWindowOver c.args.site.now.graph.now c.args.site.now.log.now c.args.site.now.horizon c.args.edge)) c.in-Some.is c.requires.known)
    c.if-window-instant.true c.if-instant-window.true

pub returns-in-Some-clause-small : goal.returns-in-Some-clause-small
returns-in-Some-clause-small c =
    small_window_if c.args.site.now.log.now
    (slice_get c.args.site.now.graph.now.edges c.args.edge) c.args.site.now.span c.args.site.now.horizon
    (Some c.in-Some.window) c.is_always_ordered.ensures
    (returns-in-Some-clause-value c)
