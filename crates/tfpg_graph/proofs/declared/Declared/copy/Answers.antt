use Rattle.std.proofs.Common.{rules, ◌∙◌}
use Rattle.std.proofs.lemmas.List.Elements.{same_from_all_zip}
use Rattle.tfpg_graph.specs.declared.declared.Declared.TheInside.{Inside}
use Rattle.tfpg_graph.proofs.lemmas.declaring.Copied.{copied_rows, copied_nodes, same_graph, IsDeclared-copy}
use Rattle.tfpg_graph.proofs.declared.Declared.copy.Goals as goal

pub invariant_of-result : goal.invariant_of-result
invariant_of-result c =
    let copy : Inside = record {
      nodes = c.in_ok-nodes.nodes;
      edges = c.in_ok-edges.edges;
      modes = c.in_ok-modes.modes;
      incoming = c.in_ok-incoming.incoming;
      failures = c.in_ok-failures.failures;
      positions = c.in_ok-positions.positions;
    } in
    IsDeclared-copy c.self.inside copy
    (same_graph c.self.inside copy
    (copied_nodes _ (λ x y same. same) _ (λ x y same. same) c.self.inside.nodes.entries copy.nodes.entries c.in_ok-nodes.ensures.cases)
    (same_from_all_zip _ _ _ c.in_ok-edges.ensures.cases.0 (λ x y same. same))
    (copied_rows _ (λ x y same. same) c.self.inside.modes.keys copy.modes.keys c.in_ok-modes.ensures.cases))
    (copied_rows _ (λ x y same. same) c.self.inside.incoming.items copy.incoming.items c.in_ok-incoming.ensures.cases.0)
    (same_from_all_zip _ _ _ c.in_ok-failures.ensures.cases.0 (λ x y same. same))
    (same_from_all_zip _ _ _ c.in_ok-positions.ensures.cases.0 (λ x y same. search (rules, same)))
    c.self.invariant

pub returns : goal.returns
returns c =
    let copy : Inside = record {
      nodes = c.in_ok-nodes.nodes;
      edges = c.in_ok-edges.edges;
      modes = c.in_ok-modes.modes;
      incoming = c.in_ok-incoming.incoming;
      failures = c.in_ok-failures.failures;
      positions = c.in_ok-positions.positions;
    } in
    same_graph c.self.inside copy
    (copied_nodes _ (λ x y same. same) _ (λ x y same. same) c.self.inside.nodes.entries copy.nodes.entries c.in_ok-nodes.ensures.cases)
    (same_from_all_zip _ _ _ c.in_ok-edges.ensures.cases.0 (λ x y same. same))
    (copied_rows _ (λ x y same. same) c.self.inside.modes.keys copy.modes.keys c.in_ok-modes.ensures.cases)
    ∙ c.self.view_is
