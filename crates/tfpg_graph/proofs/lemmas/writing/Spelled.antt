-- The canonical lines spell the graph.
use Rattle.std.proofs.Common.{◌≡◌, ℕ, ◌<◌, ◌≤◌, ◌^◌, ◌==◌, Bool, true, false, cond, not, List, [], ◌∷◌, ◌++◌, length, map, All, IsTrue, codes, refl, ap, sym, ◌∙◌, inl, inr, append-nil, arith}
use Rattle.std.specs.List.{AllZip, join_with_byte}
use Rattle.std.proofs.lemmas.Bool.{eqb-true}
use Rattle.std.proofs.lemmas.List.Elements.{All-map, All-append, All-cons, All-nil, All-weaker, All-same}
use Rattle.tfpg_base.specs.Words.{line_of, is_name}
use Rattle.tfpg_base.specs.Lines.{lines_of, HasNoLineEnd}
use Rattle.tfpg_base.specs.declared.limits.TheConstants.{LONGEST_LINE}
use Rattle.tfpg_base.proofs.lemmas.LinesOf.{lines_of-after}
use Rattle.tfpg_base.proofs.lemmas.lists.Filtered.{filter-all}
use Rattle.tfpg_base.proofs.lemmas.lists.Zipped.{AllZip-map}
use Rattle.tfpg_graph.specs.declared.kind.Kind.{Kind}
use Rattle.tfpg_graph.specs.declared.kind.Kind.TheVariants.{Failure, Or, And}
use Rattle.tfpg_graph.specs.Graph.{Tfpg}
use Rattle.tfpg_graph.specs.declared.version.Version.{Version}
use Rattle.tfpg_graph.specs.Text.{header, version_for, mode_line, node_line, edge_line, modes_word, all_modes, SpellsModes, SpellsEdge, Spells, content_lines, canonical_lines, canonical_text}
use Rattle.tfpg_graph.specs.Statements.{is_empty_or_comment}
use Rattle.tfpg_graph.specs.Valid.{IsValid, IsValidEdge}
use Rattle.tfpg_graph.specs.inside.writing.Written.{node_words, modes_before, mode_names_before}
use Rattle.tfpg_graph.proofs.lemmas.writing.ModeBits.{worth-all, modes_before-some, modes_before-within, modes_before-differ}
use Rattle.tfpg_graph.proofs.lemmas.writing.LineLengths.{short_header, short_mode, short_node, short_modes, short_edge}
use Rattle.tfpg_graph.proofs.lemmas.writing.WrittenVersion.{zero_least_for}
use Rattle.tfpg_graph.proofs.lemmas.writing.CleanLines.{clean_header, clean_mode, clean_node, clean_edge, clean_end}

-- the canonical word for some of the graph's modes spells them
SpellsModes-modes_word : (graph : Tfpg) (bits : ℕ) → 0 < bits → bits < 2 ^ length graph.modes → SpellsModes graph bits (modes_word graph bits)
SpellsModes-modes_word graph bits some own = by (bits == all_modes graph) refl
  where
    by : (is_all : Bool) → (bits == all_modes graph) ≡ is_all
        → SpellsModes graph bits (cond is_all (codes "*") (join_with_byte 44 (mode_names_before graph bits (length graph.modes))))
    by true all = inl (refl, eqb-true bits (all_modes graph) all)
    by false other =
        let end : ℕ = length graph.modes in
        inr (modes_before bits end, modes_before-some bits end some own, modes_before-differ bits end, modes_before-within bits end, refl, worth-all bits end own)

is_content-node : (version : Version) (name : List ℕ) (kind : Kind) → not (is_empty_or_comment (line_of (node_words version name kind))) ≡ true
is_content-node version name (Failure rarity) = refl
is_content-node version name (Or lag) = refl
is_content-node version name (And lag) = refl

-- the lines of the edges
abbrev edge_lines_of : Tfpg → List (List ℕ)
edge_lines_of graph = map (λ edge. edge_line graph edge (modes_word graph edge.modes)) graph.edges

-- the lines after the header
abbrev lines_after : Tfpg → List (List ℕ)
lines_after graph = map mode_line graph.modes ++ map (node_line (version_for graph)) graph.nodes ++ edge_lines_of graph ++ codes "end" ∷ []

-- what holds of each of these lines
All-after : (P : List ℕ → Type 0) (graph : Tfpg) → All (λ mode. P (mode_line mode)) graph.modes → All (λ node. P (node_line (version_for graph) node)) graph.nodes
    → All (λ edge. P (edge_line graph edge (modes_word graph edge.modes))) graph.edges → P (codes "end") → All P (lines_after graph)
All-after P graph modes nodes edges end =
    All-append P (map mode_line graph.modes ++ map (node_line (version_for graph)) graph.nodes ++ edge_lines_of graph) (codes "end" ∷ [])
    (All-append P (map mode_line graph.modes ++ map (node_line (version_for graph)) graph.nodes) (edge_lines_of graph)
    (All-append P (map mode_line graph.modes) (map (node_line (version_for graph)) graph.nodes) (All-map P mode_line graph.modes modes) (All-map P (node_line (version_for graph)) graph.nodes nodes))
    (All-map P (λ edge. edge_line graph edge (modes_word graph edge.modes)) graph.edges edges))
    (All-cons P (codes "end") [] end (All-nil P))

-- none of them is skipped
content_lines-after : (graph : Tfpg) → content_lines (lines_after graph) ≡ lines_after graph
content_lines-after graph = filter-all (λ line. not (is_empty_or_comment line)) (lines_after graph)
    (All-after (λ line. not (is_empty_or_comment line) ≡ true) graph (λ k d within. refl) (λ k d within. is_content-node _ _ _) (λ k d within. refl) refl)

module _ (graph : Tfpg) (valid : IsValid graph) where
  -- no line is too long
  short : All (λ line. length line ≤ LONGEST_LINE) (canonical_lines graph)
  short = All-cons (λ line. length line ≤ LONGEST_LINE) (header (version_for graph)) (lines_after graph) (short_header (version_for graph))
      (All-after (λ line. length line ≤ LONGEST_LINE) graph
      (All-weaker (λ mode. IsTrue (is_name mode)) (λ mode. length (mode_line mode) ≤ LONGEST_LINE) short_mode graph.modes valid.so_far.mode_names)
      (λ k d within. short_node _ _ _ (valid.so_far.node_names k d within) (valid.so_far.node_numbers k d within))
      (All-weaker (IsValidEdge graph) (λ edge. length (edge_line graph edge (modes_word graph edge.modes)) ≤ LONGEST_LINE)
      (λ edge own. short_edge graph edge (modes_word graph edge.modes) valid.so_far.node_names own (short_modes graph edge.modes valid.so_far.mode_names valid.so_far.few_modes))
      graph.edges valid.so_far.edges)
      (omega arith))

  -- none has a line end in it
  clean : All HasNoLineEnd (canonical_lines graph)
  clean = All-cons HasNoLineEnd (header (version_for graph)) (lines_after graph) (clean_header (version_for graph))
      (All-after HasNoLineEnd graph
      (All-weaker (λ mode. IsTrue (is_name mode)) (λ mode. HasNoLineEnd (mode_line mode)) clean_mode graph.modes valid.so_far.mode_names)
      (λ k d within. clean_node _ _ _ (valid.so_far.node_names k d within) (valid.so_far.node_numbers k d within))
      (All-weaker (IsValidEdge graph) (λ edge. HasNoLineEnd (edge_line graph edge (modes_word graph edge.modes)))
      (λ edge own. clean_edge graph edge valid.so_far.node_names valid.so_far.mode_names own) graph.edges valid.so_far.edges)
      clean_end)

  spelled_edges : AllZip (SpellsEdge graph) graph.edges (edge_lines_of graph)
  spelled_edges = AllZip-map (SpellsEdge graph) (λ edge. edge_line graph edge (modes_word graph edge.modes)) graph.edges
      (All-weaker (IsValidEdge graph) (λ edge. SpellsEdge graph edge (edge_line graph edge (modes_word graph edge.modes)))
      (λ edge own. (modes_word graph edge.modes, SpellsModes-modes_word graph edge.modes own.some_mode own.own_modes, refl))
      graph.edges valid.so_far.edges)

  -- a text whose lines are the canonical ones spells the graph
  pub Spells-lines : (text : List ℕ) → lines_of text ≡ canonical_lines graph → Spells text graph
  Spells-lines text lines = record {
    version = version_for graph;
    after = lines_after graph;
    lines = lines;
    said = record { edge_lines = edge_lines_of graph; edges = spelled_edges; all = content_lines-after graph; zero_least = zero_least_for graph };
    short = All-same (λ line. length line ≤ LONGEST_LINE) (lines_of text) (canonical_lines graph) lines short;
  }

  -- and so does the canonical text
  pub Spells-canonical : Spells (canonical_text graph) graph
  Spells-canonical = Spells-lines (canonical_text graph)
      (ap lines_of (sym (append-nil (canonical_text graph))) ∙ lines_of-after (canonical_lines graph) [] clean ∙ append-nil (canonical_lines graph))
