-- The graph text that the data of a graph stands for spells the graph.
use Rattle.std.proofs.Common.{◌≡◌, ◌≢◌, ℕ, ◌≤◌, true, false, not, List, [], ◌∷◌, ◌++◌, length, map, get_or, slice_get, All, IsTrue, Option, Some, None, IfSome, codes, refl, sym, ap, subst, ◌∙◌, inr, arith}
use Rattle.std.specs.List.{AllZip}
use Rattle.std.specs.Prelude.{decimal}
use Rattle.std.proofs.lemmas.List.Elements.{All-map, All-append, All-cons, All-nil, All-weaker, All-same}
use Rattle.tfpg_base.specs.Words.{line_of, is_name, joined_by_commas}
use Rattle.tfpg_base.specs.Lines.{lines_of, HasNoLineEnd, ends_line}
use Rattle.tfpg_base.specs.declared.limits.TheConstants.{LONGEST_LINE, LONGEST_NAME, MAX_TIME}
use Rattle.tfpg_base.proofs.lemmas.LinesOf.{lines_again}
use Rattle.tfpg_base.proofs.lemmas.WordLengths.{name_short}
use Rattle.tfpg_base.proofs.lemmas.lists.Filtered.{filter-all}
use Rattle.tfpg_base.proofs.lemmas.lists.Images.{map-map}
use Rattle.tfpg_base.proofs.lemmas.lists.Joined.{All-join, length-join}
use Rattle.tfpg_base.proofs.lemmas.lists.LookedUp.{filter_map-slice_get}
use Rattle.tfpg_base.proofs.lemmas.lists.Passing.{length-filter_map}
use Rattle.tfpg_base.proofs.lemmas.lists.Zipped.{AllZip-map}
use Rattle.tfpg_graph.specs.declared.kind.Kind.{Kind}
use Rattle.tfpg_graph.specs.declared.kind.Kind.TheVariants.{Failure, Or, And}
use Rattle.tfpg_graph.specs.declared.edge.Edge.{Edge}
use Rattle.tfpg_graph.specs.declared.version.Version.TheVariants.{Two}
use Rattle.tfpg_graph.specs.Graph.{Tfpg, name_word}
use Rattle.tfpg_graph.specs.Text.{header, mode_line, node_line, tmax_word, SpellsModes, SpellsEdge, Spells, content_lines}
use Rattle.tfpg_graph.specs.Statements.{is_empty_or_comment}
use Rattle.tfpg_graph.specs.Valid.{IsValid, IsValidEdge}
use Rattle.tfpg_graph.specs.inside.writing.Written.{node_words, modes_before}
use Rattle.tfpg_graph.proofs.lemmas.writing.ModeBits.{worth-all, modes_before-some, modes_before-within, modes_before-differ, modes_before-few}
use Rattle.tfpg_graph.proofs.lemmas.writing.LineLengths.{short_header, short_mode, short_node, short_edge}
use Rattle.tfpg_graph.proofs.lemmas.writing.CleanLines.{clean_header, clean_mode, clean_node, clean_end, clean_name, clean_number, clean_words}
use Rattle.tfpg_graph.proofs.lemmas.reading.spelling.SpelledEdges.{is_name-name_word}
use Rattle.tfpg_json.specs.GraphData.{mode_names}
use Rattle.tfpg_json.specs.GraphText.{modes_said_word, edge_said_line, text_said}
use Rattle.tfpg_json.proofs.lemmas.read_back.SaidAgain.{edge_said, said_of}
use Rattle.tfpg_json.proofs.lemmas.read_back.WrittenGraphs.{modes_named}

-- the word for the modes whose bits these are: all of them by name
abbrev word_for : Tfpg → ℕ → List ℕ
word_for graph bits = modes_said_word (Some (mode_names graph bits))

-- where there is a name, it is the names with commas between
some_joined : (names : List (List ℕ)) → names ≢ [] → modes_said_word (Some names) ≡ joined_by_commas names
some_joined [] some = absurd (some refl)
some_joined (name ∷ names) some = refl

map_some : {X Y : Type 0} (f : X → Y) (xs : List X) → xs ≢ [] → map f xs ≢ []
map_some f [] some none = some refl
map_some f (x ∷ xs) some none = cc

module _ (graph : Tfpg) (valid : IsValid graph) where
  -- the names of the modes of an edge are some
  names_some : (edge : Edge) → IsValidEdge graph edge → mode_names graph edge.modes ≢ []
  names_some edge own none =
      let modes = modes_before edge.modes (length graph.modes) in
      map_some (λ number. get_or graph.modes number []) modes (modes_before-some edge.modes (length graph.modes) own.some_mode own.own_modes)
      (sym (filter_map-slice_get graph.modes [] modes (modes_before-within edge.modes (length graph.modes))) ∙ none)

  -- the word is the names joined
  word_joined : (edge : Edge) → IsValidEdge graph edge → word_for graph edge.modes ≡ joined_by_commas (mode_names graph edge.modes)
  word_joined edge own = some_joined (mode_names graph edge.modes) (names_some edge own)

  -- and spells them
  spelled_word : (edge : Edge) → IsValidEdge graph edge → SpellsModes graph edge.modes (word_for graph edge.modes)
  spelled_word edge own =
      let end : ℕ = length graph.modes in
      inr (
        modes_before edge.modes end,
        modes_before-some edge.modes end own.some_mode own.own_modes,
        modes_before-differ edge.modes end,
        modes_before-within edge.modes end,
        word_joined edge own,
        worth-all edge.modes end own.own_modes,
      )

  short_word : (edge : Edge) → IsValidEdge graph edge → length (word_for graph edge.modes) ≤ 2112
  short_word edge own =
      let end : ℕ = length graph.modes in
      let names : List (List ℕ) = mode_names graph edge.modes in
      let short : All (λ name. length name ≤ LONGEST_NAME) names = All-weaker (λ name. IsTrue (is_name name)) (λ name. length name ≤ LONGEST_NAME) name_short names (modes_named graph edge.modes valid.so_far.mode_names) in
      omega (
        arith,
        ap length (word_joined edge own),
        valid.so_far.few_modes,
        length-join 44 LONGEST_NAME names short,
        length-filter_map (slice_get graph.modes) (modes_before edge.modes end),
        modes_before-few edge.modes end,
      )

  clean_word : (edge : Edge) → IsValidEdge graph edge → HasNoLineEnd (word_for graph edge.modes)
  clean_word edge own =
      let names : List (List ℕ) = mode_names graph edge.modes in
      subst HasNoLineEnd (sym (word_joined edge own))
      (All-join (λ byte. ends_line byte ≡ false) 44 names refl
      (All-weaker (λ name. IsTrue (is_name name)) HasNoLineEnd clean_name names (modes_named graph edge.modes valid.so_far.mode_names)))

  clean_tmax : (tmax : Option ℕ) (tmin : ℕ) → IfSome tmax (λ time. (tmin ≤ time) × (time ≤ MAX_TIME)) → HasNoLineEnd (tmax_word tmax)
  clean_tmax None tmin small = clean_name (codes "inf") refl
  clean_tmax (Some tmax) tmin small = clean_number tmax small.1

  clean_edge : (edge : Edge) → IsValidEdge graph edge → HasNoLineEnd (edge_said_line (edge_said graph edge))
  clean_edge edge own =
      let source = name_word graph edge.source in
      let target = name_word graph edge.target in
      let tmin = decimal edge.tmin in
      let tmax = tmax_word edge.tmax in
      let word = word_for graph edge.modes in
      clean_words (codes "edge") (source ∷ target ∷ tmin ∷ tmax ∷ word ∷ []) (clean_name (codes "edge") refl)
      (All-cons HasNoLineEnd source (target ∷ tmin ∷ tmax ∷ word ∷ []) (clean_name source (is_name-name_word graph edge.source own.source valid.so_far.node_names))
      (All-cons HasNoLineEnd target (tmin ∷ tmax ∷ word ∷ []) (clean_name target (is_name-name_word graph edge.target own.target valid.so_far.node_names))
      (All-cons HasNoLineEnd tmin (tmax ∷ word ∷ []) (clean_number edge.tmin own.least)
      (All-cons HasNoLineEnd tmax (word ∷ []) (clean_tmax edge.tmax edge.tmin own.greatest) (All-cons HasNoLineEnd word [] (clean_word edge own) (All-nil HasNoLineEnd))))))

  -- ---- the lines

  edge_lines : List (List ℕ)
  edge_lines = map edge_said_line (map (edge_said graph) graph.edges)

  lines_after : List (List ℕ)
  lines_after = map mode_line graph.modes ++ map (node_line Two) graph.nodes ++ edge_lines ++ codes "end" ∷ []

  -- what holds of each line after the header
  All-after : (P : List ℕ → Type 0) → All (λ mode. P (mode_line mode)) graph.modes → All (λ node. P (node_line Two node)) graph.nodes
      → All (λ edge. P (edge_said_line (edge_said graph edge))) graph.edges → P (codes "end") → All P lines_after
  unfolding edge_lines lines_after
  All-after P modes nodes edges end =
      All-append P (map mode_line graph.modes ++ map (node_line Two) graph.nodes ++ edge_lines) (codes "end" ∷ [])
      (All-append P (map mode_line graph.modes ++ map (node_line Two) graph.nodes) edge_lines
      (All-append P (map mode_line graph.modes) (map (node_line Two) graph.nodes) (All-map P mode_line graph.modes modes) (All-map P (node_line Two) graph.nodes nodes))
      (All-map P edge_said_line (map (edge_said graph) graph.edges) (All-map (λ said. P (edge_said_line said)) (edge_said graph) graph.edges edges)))
      (All-cons P (codes "end") [] end (All-nil P))

  is_content-node : (name : List ℕ) (kind : Kind) → not (is_empty_or_comment (line_of (node_words Two name kind))) ≡ true
  is_content-node name (Failure rarity) = refl
  is_content-node name (Or lag) = refl
  is_content-node name (And lag) = refl

  -- none of them is skipped
  content : content_lines lines_after ≡ lines_after
  content = filter-all (λ line. not (is_empty_or_comment line)) lines_after
      (All-after (λ line. not (is_empty_or_comment line) ≡ true) (λ k d within. refl) (λ k d within. is_content-node _ _) (λ k d within. refl) refl)

  lines : List (List ℕ)
  lines = header Two ∷ lines_after

  short : All (λ line. length line ≤ LONGEST_LINE) lines
  unfolding lines
  short = All-cons (λ line. length line ≤ LONGEST_LINE) (header Two) lines_after (short_header Two)
      (All-after (λ line. length line ≤ LONGEST_LINE)
      (All-weaker (λ mode. IsTrue (is_name mode)) (λ mode. length (mode_line mode) ≤ LONGEST_LINE) short_mode graph.modes valid.so_far.mode_names)
      (λ k d within. short_node Two _ _ (valid.so_far.node_names k d within) (valid.so_far.node_numbers k d within))
      (All-weaker (IsValidEdge graph) (λ edge. length (edge_said_line (edge_said graph edge)) ≤ LONGEST_LINE)
      (λ edge own. short_edge graph edge (word_for graph edge.modes) valid.so_far.node_names own (short_word edge own)) graph.edges valid.so_far.edges)
      (omega arith))

  clean : All HasNoLineEnd lines
  unfolding lines
  clean = All-cons HasNoLineEnd (header Two) lines_after (clean_header Two)
      (All-after HasNoLineEnd
      (All-weaker (λ mode. IsTrue (is_name mode)) (λ mode. HasNoLineEnd (mode_line mode)) clean_mode graph.modes valid.so_far.mode_names)
      (λ k d within. clean_node Two _ _ (valid.so_far.node_names k d within) (valid.so_far.node_numbers k d within))
      (All-weaker (IsValidEdge graph) (λ edge. HasNoLineEnd (edge_said_line (edge_said graph edge))) clean_edge graph.edges valid.so_far.edges)
      clean_end)

  spelled_edges : AllZip (SpellsEdge graph) graph.edges edge_lines
  unfolding edge_lines
  spelled_edges =
      subst (AllZip (SpellsEdge graph) graph.edges) (sym (map-map edge_said_line (edge_said graph) graph.edges))
      (AllZip-map (SpellsEdge graph) (λ edge. edge_said_line (edge_said graph edge)) graph.edges
      (All-weaker (IsValidEdge graph) (λ edge. SpellsEdge graph edge (edge_said_line (edge_said graph edge)))
      (λ edge own. (word_for graph edge.modes, spelled_word edge own, refl)) graph.edges valid.so_far.edges))

  -- The text that is said spells the graph.
  pub Spells-said : Spells (text_said (said_of graph)) graph
  unfolding lines lines_after edge_lines
  Spells-said =
      let there : lines_of (text_said (said_of graph)) ≡ lines = lines_again lines clean in
      record {
        version = Two;
        after = lines_after;
        lines = there;
        said = record { edge_lines = edge_lines; edges = spelled_edges; all = content; zero_least = λ one. absurd cc };
        short = All-same (λ line. length line ≤ LONGEST_LINE) (lines_of (text_said (said_of graph))) lines there short;
      }
