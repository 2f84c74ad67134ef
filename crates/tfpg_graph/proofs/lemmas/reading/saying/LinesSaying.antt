-- The line that declares the node or the edge of a number, found by a count of those before it.
use Rattle.std.proofs.Common.{◌≡◌, ℕ, ◌+◌, ◌<◌, ◌≤◌, Bool, true, false, List, [], length, get_or, take, count_by, refl, ap, sym, ◌∙◌, subst}
use Rattle.std.proofs.lemmas.List.{take_all}
use Rattle.std.proofs.lemmas.List.Sums.{count_by_more_yes, count_by_more_no}
use Rattle.tfpg_base.proofs.lemmas.lists.LookedUp.{count_by-filter_map}
use Rattle.tfpg_graph.specs.declared.version.Version.{Version}
use Rattle.tfpg_graph.specs.Text.{version_of}
use Rattle.tfpg_graph.specs.Statements.{Statement, statement_of, statements_of, declares_node, declares_edge}
use Rattle.tfpg_graph.specs.Declares.{said_by}
use Rattle.tfpg_graph.specs.Faults.{says, IsLineSaying}
use Rattle.tfpg_graph.specs.declared.reading.reader.Reader.{Reader}
use Rattle.tfpg_graph.specs.inside.reading.Turns.{ReaderRepresents}
use Rattle.tfpg_graph.proofs.lemmas.reading.graphs.DeclaredBy.{count-nodes, count-edges}

module _ (version : Version) (test : Statement → Bool) (lines : List (List ℕ)) where
  -- as many lines say such a thing as statements do
  count-says : count_by (says version test) lines ≡ count_by test (statements_of version lines)
  count-says = count_by-filter_map (statement_of version) test lines

  -- One line more that says no such thing leaves the count.
  pub count-says_no : (index : ℕ) → index < length lines → says version test (get_or lines index []) ≡ false
      → count_by (says version test) (take (index + 1) lines) ≡ count_by (says version test) (take index lines)
  count-says_no index within other = count_by_more_no (says version test) lines index [] within other

  -- And one that does raises it.
  pub count-says_yes : (index : ℕ) → index < length lines → says version test (get_or lines index []) ≡ true
      → count_by (says version test) (take (index + 1) lines) ≡ count_by (says version test) (take index lines) + 1
  count-says_yes index within such = count_by_more_yes (says version test) lines index [] within such

  -- After the last line the count is that of all.
  pub count-says_all : (index : ℕ) → length lines ≤ index
      → count_by (says version test) (take index lines) ≡ count_by (says version test) lines
  count-says_all index after = ap (count_by (says version test)) (take_all index lines after)

  -- The line that says such a thing, where the count has come so far.
  pub IsLineSaying-here : (index count : ℕ) → version ≡ version_of lines → index < length lines → says version test (get_or lines index []) ≡ true
      → count_by (says version test) (take index lines) ≡ count → IsLineSaying test lines count (index + 1)
  IsLineSaying-here index count of within such counted = record {
    index = index;
    number = refl;
    within = within;
    here = subst (λ v. says v test (get_or lines index []) ≡ true) of such;
    before = subst (λ v. count_by (says v test) (take index lines) ≡ count) of counted;
  }

module _ (progress : Reader) (lines : List (List ℕ)) (stands : ReaderRepresents progress lines) where
  -- There are as many nodes as lines that declare one.
  pub count-node_lines : count_by (says progress.version declares_node) lines ≡ length progress.declared.nodes
  count-node_lines =
      ap (λ version. count_by (says version declares_node) lines) stands.version ∙ count-says (version_of lines) declares_node lines
      ∙ count-nodes (said_by lines) stands.values ∙ ap (λ graph. length graph.nodes) (sym stands.graph)

  -- And as many edges.
  pub count-edge_lines : count_by (says progress.version declares_edge) lines ≡ length progress.declared.edges
  count-edge_lines =
      ap (λ version. count_by (says version declares_edge) lines) stands.version ∙ count-says (version_of lines) declares_edge lines
      ∙ count-edges (said_by lines) stands.values ∙ ap (λ graph. length graph.edges) (sym stands.graph)
