-- The text of a generated graph is its canonical text.
use Rattle.std.proofs.Common.{◌≡◌, ℕ, suc, ◌+◌, ◌<◌, ◌⊎◌, ⊎_elim, List, [], ◌∷◌, ◌++◌, length, get_or, take, All, Option, unwrap_or, codes, refl, sym, ap, ◌∙◌, subst, arith, append_assoc, append-nil, add-one}
use Rattle.std.specs.Prelude.{option_map}
use Rattle.std.specs.List.{flat_map}
use Rattle.std.proofs.lemmas.Grind.{flat_map-append}
use Rattle.std.proofs.lemmas.List.{take_more, length-take}
use Rattle.std.proofs.lemmas.Option.{slice_get-get_or}
use Rattle.tfpg_base.specs.Lines.{with_line_end}
use Rattle.tfpg_base.specs.TextLine.{text_line}
use Rattle.tfpg_base.specs.Words.{line_of}
use Rattle.tfpg_base.proofs.lemmas.lists.Images.{flat_map-same}
use Rattle.tfpg_graph.specs.declared.edge.Edge.{Edge}
use Rattle.tfpg_graph.specs.declared.kind.Kind.{Kind}
use Rattle.tfpg_graph.specs.declared.kind.Kind.TheVariants.{Failure}
use Rattle.tfpg_graph.specs.Graph.{Tfpg, Node, name_at}
use Rattle.tfpg_graph.specs.declared.version.Version.TheVariants.{One}
use Rattle.tfpg_graph.specs.Text.{node_text, edge_start_words, edge_line, modes_word, canonical_text, version_for, Spells}
use Rattle.tfpg_graph.specs.Valid.{IsValid, IsValidEdge}
use Rattle.tfpg_graph.proofs.lemmas.writing.Spelled.{Spells-canonical}
use Rattle.tfpg_graph.proofs.lemmas.writing.TextPieces.{canonical_text-pieces}
use Rattle.tfpg_sim.specs.Generated.{drawn_name, failure_kinds, named_nodes, drawn_graph}
use Rattle.tfpg_sim.specs.inside.GraphText.{drawn_head_text, drawn_modes_word, edge_text_by_number, draft_text, HasDrawnModes}
use Rattle.tfpg_sim.specs.declared.limits.TheConstants.{FAILURE_COUNT}
use Rattle.tfpg_sim.proofs.lemmas.drawn.GeneratedGraphs.{drawn_node, length-failure_kinds, length-named_nodes, get_or-named_nodes}

named_nodes-append : (number : ℕ) (kinds more : List Kind) → named_nodes number (kinds ++ more) ≡ named_nodes number kinds ++ named_nodes (number + length kinds) more
named_nodes-append number [] more = ap (λ n. named_nodes n more) (let same : number ≡ number + 0 = omega arith in same)
named_nodes-append number (kind ∷ kinds) more =
    ap (λ nodes. drawn_node number kind ∷ nodes) (named_nodes-append (number + 1) kinds more
    ∙ ap (λ n. named_nodes (number + 1) kinds ++ named_nodes n more) (let same : number + 1 + length kinds ≡ number + suc (length kinds) = omega arith in same))

-- the text of nodes with one more kind
pub node_texts-push : (number : ℕ) (kinds : List Kind) (kind : Kind) → flat_map (node_text One) (named_nodes number (kinds ++ kind ∷ []))
    ≡ flat_map (node_text One) (named_nodes number kinds) ++ node_text One (drawn_node (number + length kinds) kind)
node_texts-push number kinds kind =
    ap (flat_map (node_text One)) (named_nodes-append number kinds (kind ∷ [])) ∙ flat_map-append (node_text One) (named_nodes number kinds) (drawn_node (number + length kinds) kind ∷ [])
    ∙ ap (λ t. flat_map (node_text One) (named_nodes number kinds) ++ t) (append-nil (node_text One (drawn_node (number + length kinds) kind)))

-- the lines of the first nodes after the old bytes, and that of the next node
pub nodes_next : (number index : ℕ) (kinds : List Kind) (d : Kind) (old mid new : List ℕ) → index < length kinds
    → mid ≡ old ++ flat_map (node_text One) (named_nodes number (take index kinds)) → new ≡ mid ++ node_text One (drawn_node (number + index) (get_or kinds index d))
    → new ≡ old ++ flat_map (node_text One) (named_nodes number (take (index + 1) kinds))
nodes_next number index kinds d old mid new within before one =
    one ∙ ap (λ t. t ++ node_text One (drawn_node (number + index) (get_or kinds index d))) before
    ∙ append_assoc old (flat_map (node_text One) (named_nodes number (take index kinds))) (node_text One (drawn_node (number + index) (get_or kinds index d)))
    ∙ ap (λ t. old ++ t)
    (sym (ap (λ ks. flat_map (node_text One) (named_nodes number ks)) (take_more kinds index d within) ∙ node_texts-push number (take index kinds) (get_or kinds index d)
    ∙ ap (λ n. flat_map (node_text One) (named_nodes number (take index kinds)) ++ node_text One (drawn_node (number + n) (get_or kinds index d)))
    (let same : length (take index kinds) ≡ index = omega (arith, length-take index kinds) in same)))

-- the same of the failure modes
pub failures_next : (index rarity : ℕ) (old mid new : List ℕ) → rarity ≡ index + 1 → mid ≡ old ++ flat_map (node_text One) (named_nodes 0 (failure_kinds index))
    → new ≡ mid ++ node_text One (drawn_node index (Failure rarity)) → new ≡ old ++ flat_map (node_text One) (named_nodes 0 (failure_kinds (index + 1)))
failures_next index rarity old mid new is before one =
    one ∙ (λ i. before i ++ node_text One (drawn_node index (Failure (is i))))
    ∙ append_assoc old (flat_map (node_text One) (named_nodes 0 (failure_kinds index))) (node_text One (drawn_node index (Failure (index + 1))))
    ∙ ap (λ t. old ++ t)
    (sym (ap (λ n. flat_map (node_text One) (named_nodes 0 (failure_kinds n))) (add-one index) ∙ node_texts-push 0 (failure_kinds index) (Failure (index + 1))
    ∙ ap (λ n. flat_map (node_text One) (named_nodes 0 (failure_kinds index)) ++ node_text One (drawn_node n (Failure (index + 1))))
    (let same : 0 + length (failure_kinds index) ≡ index = omega (arith, length-failure_kinds index) in same)))

module _ (kinds : List Kind) (edges : List Edge) where
  abbrev graph : Tfpg
  graph = drawn_graph kinds edges

  name_is : (node : ℕ) → node < length graph.nodes → unwrap_or (name_at graph node) [] ≡ drawn_name node
  name_is node within =
      let nobody : Node = drawn_node 0 (Failure 0) in
      ap (λ (o : Option Node). unwrap_or (option_map (λ n. n.name) o) []) (slice_get-get_or graph.nodes node nobody within)
      ∙ ap (λ (n : Node). n.name) (get_or-named_nodes 0 (failure_kinds FAILURE_COUNT ++ kinds) node nobody (Failure 0) (omega (arith, length-named_nodes 0 (failure_kinds FAILURE_COUNT ++ kinds))))
      ∙ ap drawn_name (let same : 0 + node ≡ node = omega arith in same)

  modes_are : (modes : ℕ) → (modes ≡ 1) ⊎ (modes ≡ 3) → modes_word graph modes ≡ drawn_modes_word modes
  modes_are modes is = ⊎_elim
      (λ one. subst (λ m. modes_word graph m ≡ drawn_modes_word m) (sym one) refl)
      (λ both. subst (λ m. modes_word graph m ≡ drawn_modes_word m) (sym both) refl) is

  edge_is : (edge : Edge) → IsValidEdge graph edge → HasDrawnModes edge
      → with_line_end (edge_line graph edge (modes_word graph edge.modes)) ≡ edge_text_by_number edge
  edge_is edge valid modes = λ i. with_line_end (line_of (edge_start_words (name_is edge.source valid.source i) (name_is edge.target valid.target i)
      edge.tmin edge.tmax ++ modes_are edge.modes modes i ∷ []))

  nodes_are : flat_map (node_text One) graph.nodes ≡ flat_map (node_text One) (named_nodes 0 (failure_kinds FAILURE_COUNT)) ++ flat_map (node_text One) (named_nodes FAILURE_COUNT kinds)
  nodes_are =
      ap (flat_map (node_text One)) (named_nodes-append 0 (failure_kinds FAILURE_COUNT) kinds
      ∙ ap (λ n. named_nodes 0 (failure_kinds FAILURE_COUNT) ++ named_nodes n kinds) (let same : 0 + length (failure_kinds FAILURE_COUNT) ≡ FAILURE_COUNT = omega (arith, length-failure_kinds FAILURE_COUNT) in same))
      ∙ flat_map-append (node_text One) (named_nodes 0 (failure_kinds FAILURE_COUNT)) (named_nodes FAILURE_COUNT kinds)

  -- The text is the canonical one.
  pub text_is : IsValid graph → All HasDrawnModes edges → version_for graph ≡ One → draft_text kinds edges ≡ canonical_text graph
  text_is valid modes version =
      let end : List ℕ = text_line (codes "end" ∷ []) in
      let first : List ℕ = flat_map (node_text One) (named_nodes 0 (failure_kinds FAILURE_COUNT)) in
      let others : List ℕ = flat_map (node_text One) (named_nodes FAILURE_COUNT kinds) in
      ap (λ t. t ++ flat_map edge_text_by_number edges ++ end) (append_assoc drawn_head_text first others)
      ∙ ap (λ t. drawn_head_text ++ t ++ flat_map edge_text_by_number edges ++ end) (sym nodes_are)
      ∙ ap (λ t. drawn_head_text ++ flat_map (node_text One) graph.nodes ++ t ++ end)
      (sym (flat_map-same (λ (edge : Edge). with_line_end (edge_line graph edge (modes_word graph edge.modes))) edge_text_by_number edges (λ k d within. edge_is (get_or edges k d) (valid.so_far.edges k d within) (modes k d within))))
      ∙ sym (canonical_text-pieces graph One (sym version))

  -- So it spells the graph.
  pub text_spells : (text : List ℕ) → text ≡ draft_text kinds edges → IsValid graph → All HasDrawnModes edges → version_for graph ≡ One → Spells text graph
  text_spells text is valid modes version = subst (λ t. Spells t graph) (sym (is ∙ text_is valid modes version)) (Spells-canonical graph valid)
