-- The lines of what is declared so far, with one statement more.
use Rattle.std.proofs.Common.{◌≡◌, ℕ, ◌<◌, Bool, true, false, List, [], ◌∷◌, ◌++◌, length, map, All, codes, ap, sym, ◌∙◌, subst}
use Rattle.std.specs.List.{AllZip, list_any}
use Rattle.std.proofs.lemmas.Bool.{not-false}
use Rattle.std.proofs.lemmas.List.{map-append}
use Rattle.std.proofs.lemmas.List.Elements.{All-push}
use Rattle.tfpg_base.proofs.lemmas.lists.Appended.{append-first_of_four, append-second_of_four, append-third_of_four, append-fourth_of_four}
use Rattle.tfpg_base.proofs.lemmas.lists.Zipped.{AllZip-push, AllZip-none}
use Rattle.tfpg_graph.specs.declared.kind.Kind.{Kind}
use Rattle.tfpg_graph.specs.declared.edge.Edge.{Edge}
use Rattle.tfpg_graph.specs.declared.version.Version.{Version}
use Rattle.tfpg_graph.specs.Graph.{Tfpg}
use Rattle.tfpg_base.specs.Words.{line_of}
use Rattle.tfpg_graph.specs.Text.{mode_line, node_line, SpellsEdge}
use Rattle.tfpg_graph.specs.inside.writing.Written.{node_words}
use Rattle.tfpg_graph.specs.inside.declaring.Indexes.{with_mode, with_node, with_edge}
use Rattle.tfpg_graph.specs.Statements.{Statement, DeclaresMode, DeclaresNode, DeclaresEdge, Ends, ends_text, words_of_statement, CanSay}
use Rattle.tfpg_graph.specs.Declares.{graph_said}
use Rattle.tfpg_graph.specs.Causes.{is_out_of_order}
use Rattle.tfpg_graph.proofs.lemmas.writing.WrittenVersion.{CanSpell}
use Rattle.tfpg_graph.proofs.lemmas.reading.causes.NoCause.{HasNoCause}
use Rattle.tfpg_graph.proofs.lemmas.reading.saying.SaidValues.{node_from_words, edge_from_words}
use Rattle.tfpg_graph.proofs.lemmas.reading.graphs.GraphsSaid.{some_mode_declared, nothing_before_mode, no_edge_before_node, graph_said-mode, graph_said-node, graph_said-edge, graph_said-end}

-- ---- the lines of what is declared so far

-- the line of the end, where it is there
abbrev end_lines : Bool → List (List ℕ)
end_lines false = []
end_lines true = codes "end" ∷ []

-- These lines of a text of this version are those of the graph, with that of the end where it is there. Only a graph with a mode is ended.
pub record SpellsSoFar (version : Version) (graph : Tfpg) (ended : Bool) (lines : List (List ℕ)) : Type 0 where
  pub edge_lines : List (List ℕ)
  pub edges : AllZip (SpellsEdge graph) graph.edges edge_lines
  pub all : lines ≡ map mode_line graph.modes ++ map (node_line version) graph.nodes ++ edge_lines ++ end_lines ended
  pub kinds : All (λ node. CanSpell version node.kind) graph.nodes
  pub some_mode : ended ≡ true → 0 < length graph.modes

module _ (version : Version) (graph : Tfpg) (lines : List (List ℕ)) (so_far : SpellsSoFar version graph false lines) where
  spells-with_mode : (name : List ℕ) → graph.nodes ≡ [] → graph.edges ≡ []
      → SpellsSoFar version (with_mode graph name) false (lines ++ mode_line name ∷ [])
  spells-with_mode name no_node no_edge = record {
    edge_lines = [];
    edges = subst (λ edges. AllZip (SpellsEdge (with_mode graph name)) edges []) (sym no_edge) tt;
    all = append-first_of_four (map mode_line graph.modes) (map (node_line version) graph.nodes) so_far.edge_lines (mode_line name) lines so_far.all
        (ap (map (node_line version)) no_node) (AllZip-none (SpellsEdge graph) graph.edges so_far.edge_lines no_edge so_far.edges)
        ∙ ap (λ modes. modes ++ map (node_line version) graph.nodes ++ [] ++ []) (sym (map-append mode_line graph.modes (name ∷ [])));
    kinds = so_far.kinds;
    some_mode = λ ended. absurd cc;
  }

  spells-with_node : (name : List ℕ) (kind : Kind) → graph.edges ≡ [] → CanSpell version kind
      → SpellsSoFar version (with_node graph name kind) false (lines ++ line_of (node_words version name kind) ∷ [])
  spells-with_node name kind no_edge can = record {
    edge_lines = [];
    edges = subst (λ edges. AllZip (SpellsEdge (with_node graph name kind)) edges []) (sym no_edge) tt;
    all = append-second_of_four (map mode_line graph.modes) (map (node_line version) graph.nodes) so_far.edge_lines (line_of (node_words version name kind)) lines so_far.all
        (AllZip-none (SpellsEdge graph) graph.edges so_far.edge_lines no_edge so_far.edges)
        ∙ ap (λ nodes. map mode_line graph.modes ++ nodes ++ [] ++ [])
        (sym (map-append (node_line version) graph.nodes (record { name = name; kind = kind } ∷ [])));
    kinds = All-push (λ node. CanSpell version node.kind) graph.nodes (record { name = name; kind = kind }) so_far.kinds can;
    some_mode = λ ended. absurd cc;
  }

  spells-with_edge : (edge : Edge) (line : List ℕ) → SpellsEdge graph edge line
      → SpellsSoFar version (with_edge graph edge) false (lines ++ line ∷ [])
  spells-with_edge edge line spelled = record {
    edge_lines = so_far.edge_lines ++ line ∷ [];
    edges = AllZip-push (SpellsEdge graph) graph.edges so_far.edge_lines edge line so_far.edges spelled;
    all = append-third_of_four (map mode_line graph.modes) (map (node_line version) graph.nodes) so_far.edge_lines line lines so_far.all;
    kinds = so_far.kinds;
    some_mode = λ ended. absurd cc;
  }

  spells-with_end : 0 < length graph.modes → SpellsSoFar version graph true (lines ++ codes "end" ∷ [])
  spells-with_end mode = record {
    edge_lines = so_far.edge_lines;
    edges = so_far.edges;
    all = append-fourth_of_four (map mode_line graph.modes) (map (node_line version) graph.nodes) so_far.edge_lines (codes "end") lines so_far.all;
    kinds = so_far.kinds;
    some_mode = λ ended. mode;
  }

-- ---- one statement more

-- what is declared by these statements is spelled by these lines
abbrev pub AreSpelled : Version → List Statement → List (List ℕ) → Type 0
AreSpelled version said lines = SpellsSoFar version (graph_said said) (list_any ends_text said) lines

-- A statement without a cause is spelled by its line, after the others.
pub statement_spelled : (version : Version) (before : List Statement) (lines : List (List ℕ)) (said : Statement)
    → SpellsSoFar version (graph_said before) false lines
    → HasNoCause (is_out_of_order before said) (graph_said before) said → CanSay version said
    → SpellsSoFar version (graph_said (before ++ said ∷ [])) (ends_text said) (lines ++ line_of (words_of_statement version said) ∷ [])
statement_spelled version before lines (DeclaresMode name) so_far is sayable =
    let nothing = nothing_before_mode before name is.in_order in
    subst (λ graph. SpellsSoFar version graph false (lines ++ mode_line name ∷ [])) (sym (graph_said-mode before name is.in_order))
    (spells-with_mode version (graph_said before) lines so_far name nothing.0 nothing.1)
statement_spelled version before lines (DeclaresNode name words) so_far is sayable =
    let node = node_from_words version name words sayable is.numbers is.small in
    subst (λ shape. SpellsSoFar version (graph_said (before ++ DeclaresNode name words ∷ [])) false (lines ++ line_of shape ∷ [])) (sym node.2)
    (subst (λ graph. SpellsSoFar version graph false (lines ++ line_of (node_words version name node.0) ∷ []))
    (sym (graph_said-node before name words node.0 is.in_order node.1))
    (spells-with_node version (graph_said before) lines so_far name node.0 (no_edge_before_node before name words is.in_order) node.3))
statement_spelled version before lines (DeclaresEdge source target tmin tmax modes) so_far is sayable =
    let edge = edge_from_words version (graph_said before) _ source target tmin tmax modes is in
    let line : List ℕ = line_of (words_of_statement version (DeclaresEdge source target tmin tmax modes)) in
    subst (λ graph. SpellsSoFar version graph false (lines ++ line ∷ [])) (sym (graph_said-edge before source target tmin tmax modes edge.0 edge.1))
    (spells-with_edge version (graph_said before) lines so_far edge.0 line edge.2)
statement_spelled version before lines Ends so_far is sayable =
    subst (λ graph. SpellsSoFar version graph true (lines ++ codes "end" ∷ [])) (sym (graph_said-end before))
    (spells-with_end version (graph_said before) lines so_far (some_mode_declared before (not-false _ is.in_order)))
