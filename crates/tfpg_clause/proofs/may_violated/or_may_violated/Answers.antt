use Rattle.std.proofs.Common.{sym, ◌∙◌}
use Rattle.tfpg_log.specs.Log.{now_of}
use Rattle.tfpg_clause.proofs.lemmas.first_violated.ClausesBySpan.{or_may_found_first, no_or_may}
use Rattle.tfpg_clause.proofs.may_violated.or_may_violated.Goals as goal

pub returns-then-not-is_or : goal.returns-then-not-is_or
returns-then-not-is_or c =
    no_or_may c.args.graph.now c.args.log.now c.args.times.now (now_of c.args.log.now) c.args.node
    (sym c.is_or.ensures.value ∙ c.if-not-is_or.true)

pub returns : goal.returns
returns c =
    or_may_found_first c.args.graph.now c.args.log.now c.args.times.now
    (now_of c.args.log.now) c.args.node c.incoming.result.now c.may_violated.result
    (sym c.is_or.ensures.value ∙ c.if-not-is_or.false) c.incoming.ensures.edges c.may_violated.ensures
