use Rattle.std.proofs.Common.{ℕ, ◌≤◌, List, length, sym, subst}
use Rattle.tfpg_graph.specs.declared.limits.TheConstants.{MAX_INCOMING}
use Rattle.tfpg_log.specs.Log.{now_of}
use Rattle.tfpg_clause.proofs.lemmas.first_violated.WindowsKnown.{none_known}
use Rattle.tfpg_clause.proofs.must_violated.and_must_violated.Goals as goal

pub must_violated-requires-clause-known : goal.must_violated-requires-clause-known
must_violated-requires-clause-known c =
    none_known c.args.graph.now c.args.log.now (now_of c.args.log.now) c.incoming.result.now MAX_INCOMING
    (subst (λ (es : List ℕ). length es ≤ MAX_INCOMING) (sym c.incoming.ensures.edges) c.incoming.ensures.few)
