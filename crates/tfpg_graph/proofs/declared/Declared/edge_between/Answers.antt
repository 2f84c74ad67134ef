use Rattle.std.proofs.Common.{◌<◌, ◌∙◌, sym, length, nat_eq}
use Rattle.std.proofs.lemmas.Bool.{eq-eqb, ne_eqb}
use Rattle.std.proofs.lemmas.List.{drop_all}
use Rattle.std.proofs.lemmas.List.Elements.{All-get_or, All-same}
use Rattle.tfpg_base.proofs.lemmas.lists.FirstFound.{find-past, find-here}
use Rattle.tfpg_base.proofs.lemmas.lists.Numbered.{All-below-numbers_from}
use Rattle.tfpg_graph.proofs.lemmas.declaring.Leaving.{is_leaving, is_leaving-edge, find-leaving}
use Rattle.tfpg_graph.proofs.declared.Declared.edge_between.Goals as goal

pub loop-number-init : goal.loop-number-init
loop-number-init c = rw c.incoming-number-items.ensures.edges (find-leaving c.args.self.now c.args.source c.args.target)

pub edge-requires : goal.edge-requires
edge-requires c =
    let edges = c.args.self.now.edges in
    All-get_or (λ number. number < length edges) _ _ 0 c.loop-number-test.true
    (All-same (λ number. number < length edges) _ _ c.incoming-number-items.ensures.edges (All-below-numbers_from (λ edge. nat_eq edge.target c.args.target) edges))

pub returns-then-edge-source : goal.returns-then-edge-source
returns-then-edge-source c =
    let leaves = is_leaving-edge c.args.self.now c.args.source _ _ c.edge.ensures ∙ eq-eqb c.edge.result.source c.args.source c.if-edge-source.true in
    sym (find-here (is_leaving c.args.self.now c.args.source) _ _ 0 c.loop-number-test.true leaves) ∙ c.loop-number.invariant

pub loop-number-preserved : goal.loop-number-preserved
loop-number-preserved c =
    let stays = is_leaving-edge c.args.self.now c.args.source _ _ c.edge.ensures ∙ ne_eqb c.edge.result.source c.args.source c.if-edge-source.false in
    sym (find-past (is_leaving c.args.self.now c.args.source) _ _ 0 c.loop-number-test.true stays) ∙ c.loop-number.invariant

pub returns : goal.returns
returns c = rw (drop_all _ _ c.loop-number-test.false) at c.loop-number.invariant
