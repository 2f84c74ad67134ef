use Rattle.std.proofs.Common.{◌≡◌, ℕ, List, Bor, [], ◌∷◌, ◌++◌, map, codes, sym, ap, subst, ◌∙◌}
use Rattle.std.specs.List.{flat_map}
use Rattle.std.proofs.lemmas.List.Folds.{flat_map-map}
use Rattle.tfpg_base.specs.Append.{Appends}
use Rattle.tfpg_base.specs.Lines.{with_line_end}
use Rattle.tfpg_base.specs.TextLine.{text_line}
use Rattle.tfpg_base.proofs.lemmas.Appended.{Appends-after_four}
use Rattle.tfpg_graph.specs.declared.version.Version.TheVariants.{Two}
use Rattle.tfpg_graph.specs.Text.{header, node_text}
use Rattle.tfpg_json.specs.GraphSaid.{GraphSaid}
use Rattle.tfpg_json.proofs.lemmas.LinesSaid.{mode_text, edge_said_text, text_said-pieces}
use Rattle.tfpg_json.proofs.reading.write_lines.append_graph.Goals as goal

pub returns : goal.returns
returns c =
    let said = c.args.said.now in
    let now : Bor (List ℕ) → List ℕ = λ name. name.now in
    let modes : flat_map (λ (name : Bor (List ℕ)). mode_text name.now) c.as_slice.result.now ≡ flat_map mode_text said.modes =
    sym (flat_map-map mode_text now c.as_slice.result.now)
    ∙ ap (λ (names : List (Bor (List ℕ))). flat_map mode_text (map now names)) c.as_slice.ensures
    ∙ ap (λ (s : GraphSaid). flat_map mode_text s.modes) c.said.view_is in
    let nodes : flat_map (node_text Two) c.as_slice-2.result.now ≡ flat_map (node_text Two) said.nodes =
    ap (flat_map (node_text Two)) (c.as_slice-2.ensures ∙ ap (λ (s : GraphSaid). s.nodes) c.said.view_is) in
    let edges : flat_map edge_said_text c.as_slice-3.result.now ≡ flat_map edge_said_text said.edges =
    ap (flat_map edge_said_text) (c.as_slice-3.ensures ∙ ap (λ (s : GraphSaid). s.edges) c.said.view_is) in
    subst (Appends c.append_line-2.result c.args.into.now.items c.append_line-2.new.into.items)
    ((λ i. with_line_end (header Two) ++ modes i ++ nodes i ++ edges i ++ text_line (codes "end" ∷ [])) ∙ sym (text_said-pieces said))
    (Appends-after_four c.append_line-2.result c.args.into.now.items _ _ _ _ _ (with_line_end (header Two)) _ _ _ (text_line (codes "end" ∷ []))
    c.in_ok-append_line.ensures c.in_ok-append_modes.ensures c.in_ok-append_nodes.ensures c.in_ok-append_edges.ensures c.append_line-2.ensures)
