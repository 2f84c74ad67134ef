use Rattle.std.proofs.Common.{◌≡◌, ℕ, List, Some, ap, sym, subst, length, slice_index_or, arith}
use Rattle.tfpg_clause.specs.inside.KnownWindows.{IsWindowOver}
use Rattle.tfpg_clause.specs.inside.Musts.{AreEdgesOf}
use Rattle.tfpg_clause.proofs.lemmas.first_violated.WindowsKnown.{more_known}
use Rattle.tfpg_clause.proofs.must_violated.take_window.Goals as goal

pub returns-in_ok-window-in-Some-clause-known : goal.returns-in_ok-window-in-Some-clause-known
returns-in_ok-window-in-Some-clause-known c =
    let edges = c.args.must.now.edges.now in
    let due : AreEdgesOf c.args.site.now.graph.now c.args.must.now.node edges (Some c.in-Some.edge) =
    subst (AreEdgesOf c.args.site.now.graph.now c.args.must.now.node edges) c.in-Some.is c.requires.must.due in
    let count : length edges ≡ 1 = ap length due.0 in
    more_known c.args.site.now.graph.now c.args.site.now.log.now c.args.site.now.horizon edges c.args.known.now 0
    (Some c.in_ok-window-in-Some.window) (omega (arith, count, c.requires.room))
    (subst
    (λ (es : List ℕ). IsWindowOver c.args.site.now.graph.now c.args.site.now.log.now c.args.site.now.horizon
    (slice_index_or es 0 0) c.in_ok-window-in-Some.window) (sym due.0)
    (c.args.site.now.span, sym c.in_ok-window-in-Some.ensures.value)) c.requires.known
