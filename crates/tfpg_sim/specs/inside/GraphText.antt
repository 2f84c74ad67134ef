-- The text of a generated graph, by the numbers of its nodes. No public contract cites this.
use Rattle.std.specs.Prelude.{◌≡◌, ◌⊎◌, ℕ, List, [], ◌∷◌, ◌++◌, ◌==◌, if◌then◌else◌, codes}
use Rattle.std.specs.List.{flat_map}
use Rattle.tfpg_base.specs.TextLine.{text_line}
use Rattle.tfpg_graph.specs.declared.edge.Edge.{Edge}
use Rattle.tfpg_graph.specs.declared.kind.Kind.{Kind}
use Rattle.tfpg_graph.specs.declared.version.Version.TheVariants.{One}
use Rattle.tfpg_graph.specs.Text.{edge_start_words, node_text}
use Rattle.tfpg_sim.specs.Generated.{drawn_name, failure_kinds, named_nodes}
use Rattle.tfpg_sim.specs.declared.limits.TheConstants.{FAILURE_COUNT}

-- the first line and those of the two modes
abbrev pub drawn_head_text : List ℕ
drawn_head_text =
    text_line (codes "tfpg" ∷ codes "1" ∷ [])
    ++ (text_line (codes "mode" ∷ codes "M0" ∷ []) ++ text_line (codes "mode" ∷ codes "M1" ∷ []))

-- the word for the first mode alone, or for both
abbrev pub drawn_modes_word : ℕ → List ℕ
drawn_modes_word modes = if modes == 1 then codes "M0" else codes "*"

-- the line of an edge, with its line end
abbrev pub edge_text_by_number : Edge → List ℕ
edge_text_by_number edge =
    text_line (edge_start_words (drawn_name edge.source) (drawn_name edge.target) edge.tmin edge.tmax
    ++ drawn_modes_word edge.modes ∷ [])

-- the text of these discrepancies and edges
abbrev pub draft_text : List Kind → List Edge → List ℕ
draft_text kinds edges =
    drawn_head_text ++ flat_map (node_text One) (named_nodes 0 (failure_kinds FAILURE_COUNT))
    ++ flat_map (node_text One) (named_nodes FAILURE_COUNT kinds)
    ++ flat_map edge_text_by_number edges ++ text_line (codes "end" ∷ [])

-- the edge is active in the first mode alone, or in both
abbrev pub HasDrawnModes : Edge → Type 0
HasDrawnModes edge = (edge.modes ≡ 1) ⊎ (edge.modes ≡ 3)
