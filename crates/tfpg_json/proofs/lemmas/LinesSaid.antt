-- The graph text that JSON stands for, appended piece by piece.
use Rattle.std.proofs.Common.{◌≡◌, ℕ, ◌+◌, ◌<◌, eqb, List, [], ◌∷◌, ◌++◌, length, get_or, map, take, codes, sym, ap, ◌∙◌, append_assoc, arith}
use Rattle.std.specs.List.{flat_map, join_with_byte}
use Rattle.std.proofs.lemmas.Grind.{flat_map-append}
use Rattle.std.proofs.lemmas.List.{length-map, length-take, get_or-map, take_more}
use Rattle.std.proofs.lemmas.List.Folds.{flat_map-map}
use Rattle.tfpg_base.specs.Lines.{with_line_end}
use Rattle.tfpg_base.specs.TextLine.{separated, text_line}
use Rattle.tfpg_base.proofs.lemmas.lists.Appended.{append-five_grouped}
use Rattle.tfpg_base.proofs.lemmas.lists.Joined.{join-push}
use Rattle.tfpg_graph.specs.declared.version.Version.TheVariants.{Two}
use Rattle.tfpg_graph.specs.Text.{header, mode_line, node_line, node_text}
use Rattle.tfpg_json.specs.GraphSaid.{EdgeSaid, GraphSaid}
use Rattle.tfpg_json.specs.GraphText.{edge_said_line, text_said}

-- words with commas between, and one word more
pub joined_goes_on : {R : Type 0} (now : R → List ℕ) (words : List R) (index : ℕ) (d : R) (old before after : List ℕ) → index < length words
    → before ≡ old ++ join_with_byte 44 (take index (map now words)) → after ≡ before ++ separated 44 (eqb index 0) (now (get_or words index d))
    → after ≡ old ++ join_with_byte 44 (take (index + 1) (map now words))
joined_goes_on now words index d old before after lt e h =
    let part : List ℕ = now (get_or words index d) in
    let parts : List (List ℕ) = take index (map now words) in
    let long : index < length (map now words) = omega (arith, length-map words now) in
    let more : take (index + 1) (map now words) ≡ parts ++ part ∷ [] =
    take_more (map now words) index [] long ∙ ap (λ (w : List ℕ). parts ++ w ∷ []) (get_or-map now words index d [] lt) in
    let count : length parts ≡ index = omega (arith, length-take index (map now words)) in
    h ∙ ap (λ (t : List ℕ). t ++ separated 44 (eqb index 0) part) e
    ∙ append_assoc old (join_with_byte 44 parts) (separated 44 (eqb index 0) part)
    ∙ ap (λ (t : List ℕ). old ++ t)
    (sym (ap (join_with_byte 44) more ∙ join-push 44 parts part ∙ ap (λ (n : ℕ). join_with_byte 44 parts ++ separated 44 (eqb n 0) part) count))

-- the line of a mode, and of an edge, with its line end
abbrev pub mode_text : List ℕ → List ℕ
mode_text name = with_line_end (mode_line name)

abbrev pub edge_said_text : EdgeSaid → List ℕ
edge_said_text edge = with_line_end (edge_said_line edge)

module _ (said : GraphSaid) where
  after_header : flat_map with_line_end (map mode_line said.modes ++ map (node_line Two) said.nodes ++ map edge_said_line said.edges ++ codes "end" ∷ [])
      ≡ flat_map mode_text said.modes ++ flat_map (node_text Two) said.nodes ++ flat_map edge_said_text said.edges ++ text_line (codes "end" ∷ [])
  after_header =
      let modes : List (List ℕ) = map mode_line said.modes in
      let nodes : List (List ℕ) = map (node_line Two) said.nodes in
      let edges : List (List ℕ) = map edge_said_line said.edges in
      flat_map-append with_line_end (modes ++ nodes ++ edges) (codes "end" ∷ [])
      ∙ ap (λ (t : List ℕ). t ++ text_line (codes "end" ∷ []))
      (flat_map-append with_line_end (modes ++ nodes) edges
      ∙ ap (λ (t : List ℕ). t ++ flat_map with_line_end edges) (flat_map-append with_line_end modes nodes)
      ∙ (λ i. flat_map-map with_line_end mode_line said.modes i ++ flat_map-map with_line_end (node_line Two) said.nodes i
      ++ flat_map-map with_line_end edge_said_line said.edges i))

  -- The text is the texts of its pieces.
  pub text_said-pieces : text_said said
      ≡ with_line_end (header Two) ++ flat_map mode_text said.modes ++ flat_map (node_text Two) said.nodes ++ flat_map edge_said_text said.edges
      ++ text_line (codes "end" ∷ [])
  text_said-pieces =
      ap (λ (t : List ℕ). with_line_end (header Two) ++ t) after_header
      ∙ append-five_grouped (with_line_end (header Two)) (flat_map mode_text said.modes) (flat_map (node_text Two) said.nodes)
      (flat_map edge_said_text said.edges) (text_line (codes "end" ∷ []))
