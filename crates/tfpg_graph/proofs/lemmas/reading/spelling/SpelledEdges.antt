-- What the line that spells an edge says, and the edge that it declares.
use Rattle.std.proofs.Common.{◌≡◌, ◌≢◌, ℕ, ◌<◌, ◌≤◌, true, false, cond, List, [], length, get_or, All, AllPairs, IsTrue, Option, Some, None, IfSome, is_none, unwrap_or, codes, refl, ap, ◌∙◌, arith, ⊎_elim, inl, inr}
use Rattle.std.specs.Prelude.{decimal}
use Rattle.std.specs.Option.{option_map, option_and_then, option_zip}
use Rattle.std.specs.List.{AllByRecursion, list_any, list_all, filter_map, join_with_byte}
use Rattle.std.specs.Str.{bytes_eq}
use Rattle.std.proofs.lemmas.List.{length-map, nil_from_length}
use Rattle.std.proofs.lemmas.List.Elements.{All-from_recursion, All-weaker}
use Rattle.std.proofs.lemmas.List.Sums.{list_all-from_AllPass}
use Rattle.std.proofs.lemmas.Option.{slice_get-get_or}
use Rattle.std.proofs.lemmas.Bool.{cases_lt}
use Rattle.std.proofs.lemmas.List.Folds.{list_any_none}
use Rattle.tfpg_base.specs.SetBits.{bits_of}
use Rattle.tfpg_base.specs.Words.{is_name}
use Rattle.tfpg_base.specs.declared.limits.TheConstants.{LONGEST_LINE, MAX_TIME}
use Rattle.tfpg_base.proofs.lemmas.Numbers.{number_of-decimal}
use Rattle.tfpg_graph.specs.declared.kind.Kind.TheVariants.{Failure}
use Rattle.tfpg_graph.specs.declared.edge.Edge.{Edge}
use Rattle.tfpg_graph.specs.declared.version.Version.{Version}
use Rattle.tfpg_graph.specs.Graph.{Tfpg, Node, name_word, node_named, mode_named}
use Rattle.tfpg_graph.specs.Text.{tmax_word, all_modes, SpellsModes, edge_line}
use Rattle.tfpg_graph.specs.Valid.{IsValid, IsValidEdge}
use Rattle.tfpg_graph.specs.Statements.{Statement, DeclaresEdge, statement_of}
use Rattle.tfpg_graph.specs.Declares.{modes_listed, modes_of_word, edge_declared}
use Rattle.tfpg_graph.specs.Causes.{has_twice}
use Rattle.tfpg_graph.proofs.lemmas.reading.spelling.LinesSay.{IsWord, IsWord-star, IsWord-names, statement_of-edge}
use Rattle.tfpg_graph.proofs.lemmas.reading.spelling.SpelledValues.{tmax_of_word-tmax, names_at, has_twice-names, all_names, join-not, modes_listed-join}
use Rattle.tfpg_base.proofs.lemmas.lists.SameBytes.{position-bytes}
use Rattle.tfpg_base.proofs.lemmas.lists.Images.{list_any-map}
use Rattle.tfpg_base.proofs.lemmas.lists.LookedUp.{filter_map-made, filter_map-slice_get}

-- What the line of an edge says, with the word for its modes.
abbrev pub edge_statement : Tfpg → Edge → List ℕ → Statement
edge_statement graph edge word =
    DeclaresEdge (name_word graph edge.source) (name_word graph edge.target) (decimal edge.tmin) (tmax_word edge.tmax) word

-- a node without a name
abbrev nobody : Node
nobody = record { name = []; kind = Failure 0 }

module _ (graph : Tfpg) (node : ℕ) (within : node < length graph.nodes) where
  name_word-node : name_word graph node ≡ (get_or graph.nodes node nobody).name
  name_word-node = ap (λ o. unwrap_or (option_map (λ n. n.name) o) []) (slice_get-get_or graph.nodes node nobody within)

  -- it is a name
  pub is_name-name_word : All (λ n. IsTrue (is_name n.name)) graph.nodes → IsTrue (is_name (name_word graph node))
  is_name-name_word named = ap is_name name_word-node ∙ named node nobody within

  -- by which the node is found
  pub node_named-name_word : AllPairs (λ a b. a.name ≢ b.name) graph.nodes
      → node_named graph (name_word graph node) ≡ Some node
  node_named-name_word differ =
      ap (node_named graph) name_word-node
      ∙ position-bytes (λ n. n.name) graph.nodes node nobody differ within

-- what holds of a word that spells modes
pub record IsModesWord (graph : Tfpg) (bits : ℕ) (word : List ℕ) : Type 0 where
  pub is_word : IsWord word
  pub read : modes_of_word graph word ≡ bits
  pub names : list_all is_name (modes_listed word) ≡ true
  pub once : has_twice (modes_listed word) ≡ false
  pub known : list_any (λ name. is_none (mode_named graph name)) (modes_listed word) ≡ false
  pub not_none : bytes_eq word (codes "-") ≡ false

IsModesWord-star : (graph : Tfpg) → IsModesWord graph (all_modes graph) (codes "*")
IsModesWord-star graph = record {
  is_word = IsWord-star;
  read = refl;
  names = refl;
  once = refl;
  known = refl;
  not_none = refl;
}

module _ (graph : Tfpg) (named : All (λ mode. IsTrue (is_name mode)) graph.modes)
    (differ : AllPairs (λ a b. a ≢ b) graph.modes) (modes : List ℕ) (some : modes ≢ [])
    (apart : AllPairs (λ a b. a ≢ b) modes) (below : All (λ mode. mode < length graph.modes) modes) where
  abbrev names : List (List ℕ)
  names = names_at graph.modes modes

  some_name : 0 < length names
  some_name = elim (cases_lt 0 (length modes)) [
    | inl less ↦ omega (arith, less, length-map modes (λ mode. get_or graph.modes mode []))
    | inr none ↦ absurd (some (nil_from_length modes (omega (arith, none))))
  ]

  are_names : AllByRecursion (λ name. IsTrue (is_name name)) names
  are_names = all_names graph.modes modes named below

  listed : modes_listed (join_with_byte 44 names) ≡ names
  listed = modes_listed-join names some_name are_names

  found_at : All (λ mode. mode_named graph (get_or graph.modes mode []) ≡ Some mode) modes
  found_at = All-weaker (λ mode. mode < length graph.modes) (λ mode. mode_named graph (get_or graph.modes mode []) ≡ Some mode)
      (λ mode within. position-bytes (λ name. name) graph.modes mode [] differ within) modes below

  IsModesWord-names : IsModesWord graph (bits_of modes) (join_with_byte 44 names)
  IsModesWord-names = record {
    is_word = IsWord-names names some_name are_names;
    read =
        (λ i. cond (join-not names some_name are_names (codes "*") refl i) (all_modes graph)
        (bits_of (filter_map (mode_named graph) (listed i))))
        ∙ ap bits_of (filter_map-made (mode_named graph) (λ number. get_or graph.modes number []) modes found_at);
    names = ap (list_all is_name) listed ∙ list_all-from_AllPass is_name names (All-from_recursion (λ name. IsTrue (is_name name)) names are_names);
    once = ap has_twice listed ∙ has_twice-names graph.modes differ modes below apart;
    known = ap (list_any (λ name. is_none (mode_named graph name))) listed
        ∙ list_any-map (λ name. is_none (mode_named graph name)) (λ mode. get_or graph.modes mode []) modes
        ∙ list_any_none (λ mode. is_none (mode_named graph (get_or graph.modes mode []))) modes
        (All-weaker (λ mode. mode_named graph (get_or graph.modes mode []) ≡ Some mode)
        (λ mode. is_none (mode_named graph (get_or graph.modes mode [])) ≡ false) (λ mode is. ap is_none is) modes found_at);
    not_none = join-not names some_name are_names (codes "-") refl;
  }

module _ (graph : Tfpg) (valid : IsValid graph) where
  -- A word that spells modes is read as them.
  pub IsModesWord-spelled : (bits : ℕ) (word : List ℕ) → SpellsModes graph bits word → IsModesWord graph bits word
  IsModesWord-spelled bits word = ⊎_elim
      (λ star. coe 1 0 (i. IsModesWord graph (star.1 i) (star.0 i)) (IsModesWord-star graph))
      (λ listed. coe 1 0
      (i. IsModesWord graph (listed.5 i)
      ((listed.4 ∙ ap (join_with_byte 44) (filter_map-slice_get graph.modes [] listed.0 listed.3)) i))
      (IsModesWord-names graph valid.so_far.mode_names valid.so_far.modes_differ listed.0 listed.1 listed.2 listed.3))

  module _ (edge : Edge) (is : IsValidEdge graph edge) where
    tmax_small : (tmax : Option ℕ) → IfSome tmax (λ time. (edge.tmin ≤ time) × (time ≤ MAX_TIME))
        → IfSome tmax (λ time. time ≤ MAX_TIME)
    tmax_small None small = tt
    tmax_small (Some time) small = small.1

    -- The line of an edge that is short says that it declares the edge.
    pub statement_of-edge_line : (version : Version) (word : List ℕ) → SpellsModes graph edge.modes word
        → length (edge_line graph edge word) ≤ LONGEST_LINE
        → statement_of version (edge_line graph edge word) ≡ Some (edge_statement graph edge word)
    statement_of-edge_line version word spells short =
        statement_of-edge version (name_word graph edge.source) (name_word graph edge.target) edge.tmin edge.tmax word
        (is_name-name_word graph edge.source is.source valid.so_far.node_names)
        (is_name-name_word graph edge.target is.target valid.so_far.node_names)
        is.least (tmax_small edge.tmax is.greatest) (IsModesWord-spelled edge.modes word spells).is_word short

    -- What it says declares the edge.
    pub edge_declared-said : (word : List ℕ) → SpellsModes graph edge.modes word
        → edge_declared graph (edge_statement graph edge word) ≡ Some edge
    edge_declared-said word spells =
        λ i. option_and_then (λ (ends : ℕ × ℕ). option_map (λ (delays : ℕ × Option ℕ). record {
          source = ends.0;
          target = ends.1;
          tmin = delays.0;
          tmax = delays.1;
          modes = (IsModesWord-spelled edge.modes word spells).read i;
        }) (option_zip (number_of-decimal edge.tmin (omega (arith, is.least)) i) (tmax_of_word-tmax edge.tmax (tmax_small edge.tmax is.greatest) i)))
        (option_zip (node_named-name_word graph edge.source is.source valid.so_far.nodes_differ i) (node_named-name_word graph edge.target is.target valid.so_far.nodes_differ i))
