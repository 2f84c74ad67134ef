-- By now a node is not active which the set does not reach. Of another, events alone say more than that it is not active before 0.
use Rattle.std.proofs.Common.{◌≡◌, ℕ, Some, sym, ap, ◌∙◌, arith}
use Rattle.std.specs.Prelude.{Contains}
use Rattle.std.proofs.lemmas.Bool.Decides.{same_from_decides}
use Rattle.tfpg_graph.proofs.lemmas.reach.Reaches.{among-from_Contains, Contains-from_among}
use Rattle.tfpg_graph.specs.Reach.{is_among}
use Rattle.tfpg_base.specs.Bounds.{at_least}
use Rattle.tfpg_clause.specs.Facts.{fact}
use Rattle.tfpg_search.proofs.lemmas.facts.StatedBounds.{low_of_events, unreached_stated}
use Rattle.tfpg_search.proofs.fact_bounds.low.Goals as goal
use Rattle.tfpg_clause.specs.Case.{case_of}

pub returns-then-not-has-clause-stated : goal.returns-then-not-has-clause-stated
returns-then-not-has-clause-stated c =
    let reach = c.args.reach.now in
    let same : c.has.result ≡ is_among reach c.args.node =
    same_from_decides {P = Contains reach c.args.node} c.has.result (is_among reach c.args.node) c.has.ensures.node
    (Contains-from_among reach c.args.node, among-from_Contains reach c.args.node) in
    ap (fact (case_of c.args.graph.now c.args.log.now reach)) c.after_now.ensures.reason
    ∙ unreached_stated c.args.graph.now c.args.log.now reach c.args.node c.requires (sym same ∙ c.if-not-has.true)
    ∙ ap (λ (time : ℕ). Some (at_least c.args.node time)) (sym c.after_now.ensures.time)

pub returns-clause-greatest : goal.returns-clause-greatest
returns-clause-greatest c =
    let reach = c.args.reach.now in
    let same : c.has.result ≡ is_among reach c.args.node =
    same_from_decides {P = Contains reach c.args.node} c.has.result (is_among reach c.args.node) c.has.ensures.node
    (Contains-from_among reach c.args.node, among-from_Contains reach c.args.node) in
    low_of_events c.args.graph.now c.args.log.now reach c.args.node (sym same ∙ c.if-not-has.false) c.later.result.time
    (λ number time at. omega (arith, c.later.ensures.one, c.after_alarm.ensures.greatest number time at))
    (λ number time at. omega (arith, c.later.ensures.other, c.after_silence.ensures.greatest number time at))
