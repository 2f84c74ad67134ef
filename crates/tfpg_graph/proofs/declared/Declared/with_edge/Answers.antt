use Rattle.std.proofs.Common.{rules, ◌≡◌, ap, ◌∙◌, map, set, length, ◌++◌, ◌∷◌, [], refl}
use Rattle.std.proofs.lemmas.List.{map-set}
use Rattle.tfpg_graph.specs.Graph.{incoming}
use Rattle.tfpg_graph.proofs.lemmas.declaring.Named.{row-incoming}
use Rattle.tfpg_graph.proofs.lemmas.declaring.MoreDeclared.{IsDeclared-with_edge, IsDeclared-seen_as}
use Rattle.tfpg_graph.proofs.declared.Declared.with_edge.Goals as goal
use Rattle.tfpg_graph.proofs.declared.Declared.with_edge.Goals.{In_ok-push-2}

-- the row of the target has one more number
row_seen : (c : In_ok-push-2) → c.push-2.new.self.items ≡ incoming c.args.self c.args.edge.target ++ length c.args.self.edges ∷ []
row_seen c =
    let was = IsDeclared-seen_as c.declared.inside c.args.self c.declared.view_is c.declared.invariant in
    let row = row-incoming c.args.self c.declared.inside.incoming.items _ _ was.0 c.args.edge.target c.index_mut.result.now c.requires.valid.target c.index_mut.ensures.value in
    let number : c.len-number.result ≡ length c.args.self.edges = search rules in
    c.in_ok-push-2.ensures.items ∙ (λ i. row i ++ number i ∷ [])

pub invariant_of-declared : goal.invariant_of-declared
invariant_of-declared c =
    IsDeclared-with_edge c.declared.inside _ c.args.self c.args.edge c.declared.view_is (search rules) c.declared.invariant
    (map-set (λ row. row.items) c.declared.inside.incoming.items c.args.edge.target c.push-2.new.self ∙ ap (set (map (λ row. row.items) c.declared.inside.incoming.items) c.args.edge.target) (row_seen c))
    refl refl c.requires.valid c.requires.new c.requires.room c.requires.incoming_room
