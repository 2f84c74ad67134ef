use Rattle.std.proofs.Common.{◌≡◌, ℕ, ◌<◌, ◌∙◌, List, ap, length, take, nat_eq}
use Rattle.std.proofs.lemmas.List.{take_all}
use Rattle.std.proofs.lemmas.List.Elements.{All-get_or, All-same}
use Rattle.tfpg_base.proofs.lemmas.lists.Numbered.{All-below-numbers_from}
use Rattle.tfpg_log.proofs.lemmas.changes.ModesInto.{are_active_in, active_more, all_into}
use Rattle.tfpg_log.proofs.active_modes.modes_into.Goals as goal

pub edge-requires : goal.edge-requires
edge-requires c =
    let edges = c.args.graph.now.edges in
    All-get_or (λ number. number < length edges) _ _ 0 c.loop-number-test.true
    (All-same (λ number. number < length edges) _ _ c.incoming-incoming.ensures.edges
    (All-below-numbers_from (λ edge. nat_eq edge.target c.args.node) edges))

pub loop-number-preserved : goal.loop-number-preserved
loop-number-preserved c =
    active_more c.args.graph.now.edges c.incoming-incoming.result.now c.loop-number.number-index c.edge.result c.loop-number.modes c.and-modes.result
    c.loop-number-test.true c.edge.ensures c.loop-number.invariant c.and-modes.ensures

pub returns : goal.returns
returns c mode =
    let numbers = c.incoming-incoming.result.now in
    let all : take c.loop-number.number-index numbers ≡ numbers = take_all c.loop-number.number-index numbers c.loop-number-test.false in
    c.loop-number.invariant mode ∙ ap (λ (taken : List ℕ). are_active_in c.args.graph.now.edges taken mode)
    (all ∙ c.incoming-incoming.ensures.edges)
    ∙ all_into c.args.graph.now c.args.node mode
