use Rattle.std.proofs.Common.{rules, ◌≡◌, ap, ◌∙◌, map, length, sym}
use Rattle.std.proofs.lemmas.List.{length-map}
use Rattle.tfpg_graph.specs.Graph.{is_failure}
use Rattle.tfpg_graph.specs.inside.declaring.Indexes.{with_node}
use Rattle.tfpg_graph.proofs.lemmas.declaring.Inserts.{nodes-insert}
use Rattle.tfpg_graph.proofs.lemmas.declaring.MoreDeclared.{with_failure, IsDeclared-with_node}
use Rattle.tfpg_graph.proofs.declared.Declared.with_node.Goals as goal
use Rattle.tfpg_graph.proofs.declared.Declared.with_node.Goals.{In_ok-index_node}

-- the nodes are seen as those before, and the new one
nodes_seen : (c : In_ok-index_node) → map (λ entry. record { name = entry.0.items; kind = entry.1 }) c.insert.new.self.entries ≡ (with_node c.args.self c.args.name.now c.args.kind).nodes
nodes_seen c =
    let named : c.in_ok-name.name.items ≡ c.args.name.now = search rules in
    ap (map (λ entry. record { name = entry.0.items; kind = entry.1 })) c.in_ok-insert.ensures.entries
    ∙ nodes-insert c.self.inside c.args.self c.self.view_is c.in_ok-name.name c.args.name.now named c.args.kind c.requires.new

-- the number of the new node
number : (c : In_ok-index_node) → c.len-number.result ≡ length c.args.self.nodes
number c = c.len-number.ensures.len ∙ sym (length-map c.self.inside.nodes.entries _) ∙ ap (λ graph. length graph.nodes) c.self.view_is

more_failed : (c : In_ok-index_node) → c.index_node.new.failures.items ≡ with_failure (is_failure c.args.kind) (length c.args.self.nodes) c.self.inside.failures.items
more_failed c = c.in_ok-index_node.ensures.failures ∙ ap (λ n. with_failure (is_failure c.args.kind) n c.self.inside.failures.items) (number c)

pub returns : goal.returns
returns c = λ i. record { nodes = nodes_seen c i; edges = (c.self.view_is i).edges; modes = (c.self.view_is i).modes }

pub invariant_of-result : goal.invariant_of-result
invariant_of-result c =
    IsDeclared-with_node c.self.inside _ c.args.self c.args.name.now c.args.kind c.self.view_is (returns c) c.self.invariant c.in_ok-index_node.ensures.rows (more_failed c)
    c.in_ok-index_node.ensures.positions c.requires.name c.requires.new c.requires.number c.requires.room c.requires.failure_room
