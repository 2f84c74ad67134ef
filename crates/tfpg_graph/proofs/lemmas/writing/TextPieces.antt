-- The canonical text, appended piece by piece.
use Rattle.std.proofs.Common.{◌≡◌, ℕ, List, [], ◌∷◌, ◌++◌, map, codes, sym, ap, ◌∙◌}
use Rattle.std.specs.List.{flat_map}
use Rattle.std.proofs.lemmas.Grind.{flat_map-append}
use Rattle.std.proofs.lemmas.List.Folds.{flat_map-map}
use Rattle.tfpg_base.specs.Lines.{with_line_end}
use Rattle.tfpg_base.specs.TextLine.{text_line}
use Rattle.tfpg_base.proofs.lemmas.lists.Appended.{append-five_grouped}
use Rattle.tfpg_graph.specs.declared.version.Version.{Version}
use Rattle.tfpg_graph.specs.Graph.{Tfpg}
use Rattle.tfpg_graph.specs.Text.{header, version_for, mode_line, node_line, node_text, edge_line, modes_word, canonical_text}
use Rattle.tfpg_graph.specs.inside.writing.Written.{mode_text, edge_text}

module _ (graph : Tfpg) where
  -- the lines after the header, with their line ends
  after_header : flat_map with_line_end (map mode_line graph.modes ++ map (node_line (version_for graph)) graph.nodes ++ map (λ edge. edge_line graph edge (modes_word graph edge.modes)) graph.edges ++ codes "end" ∷ [])
      ≡ flat_map mode_text graph.modes ++ flat_map (node_text (version_for graph)) graph.nodes ++ flat_map (edge_text graph) graph.edges ++ text_line (codes "end" ∷ [])
  after_header =
      let modes : List (List ℕ) = map mode_line graph.modes in
      let nodes : List (List ℕ) = map (node_line (version_for graph)) graph.nodes in
      let edges : List (List ℕ) = map (λ edge. edge_line graph edge (modes_word graph edge.modes)) graph.edges in
      flat_map-append with_line_end (modes ++ nodes ++ edges) (codes "end" ∷ [])
      ∙ ap (λ (t : List ℕ). t ++ text_line (codes "end" ∷ []))
      (flat_map-append with_line_end (modes ++ nodes) edges
      ∙ ap (λ (t : List ℕ). t ++ flat_map with_line_end edges) (flat_map-append with_line_end modes nodes)
      ∙ (λ i. flat_map-map with_line_end mode_line graph.modes i ++ flat_map-map with_line_end (node_line (version_for graph)) graph.nodes i
      ++ flat_map-map with_line_end (λ edge. edge_line graph edge (modes_word graph edge.modes)) graph.edges i))

  -- the pieces of a text of a version
  abbrev pieces : Version → List ℕ
  pieces version =
      with_line_end (header version) ++ flat_map mode_text graph.modes ++ flat_map (node_text version) graph.nodes
      ++ flat_map (edge_text graph) graph.edges ++ text_line (codes "end" ∷ [])

  -- The canonical text is the texts of its pieces.
  pub canonical_text-pieces : (version : Version) → version ≡ version_for graph → canonical_text graph ≡ pieces version
  canonical_text-pieces version is =
      ap (λ (t : List ℕ). with_line_end (header (version_for graph)) ++ t) after_header
      ∙ append-five_grouped (with_line_end (header (version_for graph))) (flat_map mode_text graph.modes)
      (flat_map (node_text (version_for graph)) graph.nodes) (flat_map (edge_text graph) graph.edges) (text_line (codes "end" ∷ []))
      ∙ ap pieces (sym is)
