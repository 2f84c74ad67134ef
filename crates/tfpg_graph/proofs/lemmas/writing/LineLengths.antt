-- No line of a canonical text is too long.
use Rattle.std.proofs.Common.{ℕ, suc, zero, ◌≤◌, ◌==◌, List, [], ◌∷◌, ◌++◌, length, slice_get, All, IsTrue, Option, Some, None, IfSome, unwrap_or, codes, arith}
use Rattle.std.specs.Prelude.{decimal}
use Rattle.std.specs.Option.{option_map}
use Rattle.std.specs.List.{join_with_byte}
use Rattle.std.proofs.lemmas.Bool.{cond_both}
use Rattle.std.proofs.lemmas.List.{length-append}
use Rattle.std.proofs.lemmas.List.Elements.{All-head, All-tail}
use Rattle.tfpg_base.specs.Words.{is_name, line_of}
use Rattle.tfpg_base.specs.declared.limits.TheConstants.{LONGEST_LINE, LONGEST_NAME, MAX_TIME}
use Rattle.tfpg_base.proofs.lemmas.WordLengths.{name_short, number_short}
use Rattle.tfpg_graph.specs.declared.kind.Kind.{Kind}
use Rattle.tfpg_graph.specs.declared.kind.Lag.{Lag}
use Rattle.tfpg_graph.specs.declared.kind.Kind.TheVariants.{Failure, Or, And}
use Rattle.tfpg_graph.specs.declared.edge.Edge.{Edge}
use Rattle.tfpg_graph.specs.declared.version.Version.{Version}
use Rattle.tfpg_graph.specs.declared.version.Version.TheVariants.{One, Two}
use Rattle.tfpg_graph.specs.declared.limits.TheConstants.{MAX_MODES}
use Rattle.tfpg_graph.specs.Graph.{Tfpg, Node, name_word}
use Rattle.tfpg_graph.specs.Text.{header, mode_line, tmax_word, edge_line, modes_word, all_modes}
use Rattle.tfpg_graph.specs.inside.writing.Written.{node_words, watch_words, modes_before, mode_names_before}
use Rattle.tfpg_graph.specs.Valid.{HasValidNumber, IsValidLag, IsValidEdge}
use Rattle.tfpg_graph.proofs.lemmas.writing.ModeBits.{modes_before-few}
use Rattle.tfpg_base.proofs.lemmas.lists.Passing.{length-filter_map, All-filter_map-slice_get}
use Rattle.tfpg_base.proofs.lemmas.lists.Joined.{length-join}

pub short_header : (version : Version) → length (header version) ≤ LONGEST_LINE
short_header One = omega arith
short_header Two = omega arith

pub short_mode : (name : List ℕ) → IsTrue (is_name name) → length (mode_line name) ≤ LONGEST_LINE
short_mode name named = omega (arith, name_short name named)

short_watch : (version : Version) (name : List ℕ) (lag : Option Lag) → length name ≤ LONGEST_NAME → IfSome lag IsValidLag
    → length (line_of (name ∷ watch_words version lag)) ≤ 100
short_watch version name None named small = omega (arith, length-append name (32 ∷ codes "hidden"))
short_watch One name (Some lag) named small = omega (arith, length-append name (32 ∷ codes "watch" ++ 32 ∷ decimal lag.most), number_short lag.most small.most)
short_watch Two name (Some lag) named small =
    omega (
      arith,
      length-append name (32 ∷ codes "watch" ++ 32 ∷ (decimal lag.least ++ 32 ∷ decimal lag.most)),
      length-append (decimal lag.least) (32 ∷ decimal lag.most),
      number_short lag.least (omega (arith, small.in_order, small.most)),
      number_short lag.most small.most,
    )

pub short_node : (version : Version) (name : List ℕ) (kind : Kind) → IsTrue (is_name name) → HasValidNumber kind
    → length (line_of (node_words version name kind)) ≤ LONGEST_LINE
short_node version name (Failure rarity) named small = omega (arith, name_short name named, length-append name (32 ∷ decimal rarity), number_short rarity (omega arith))
short_node version name (Or lag) named small = omega (arith, short_watch version name lag (name_short name named) small)
short_node version name (And lag) named small = omega (arith, short_watch version name lag (name_short name named) small)

short_name_in : (nodes : List Node) (node : ℕ) → All (λ n. IsTrue (is_name n.name)) nodes → length (unwrap_or (option_map (λ n. n.name) (slice_get nodes node)) []) ≤ LONGEST_NAME
short_name_in [] node named = omega arith
short_name_in (first ∷ others) zero named = name_short first.name (All-head (λ n. IsTrue (is_name n.name)) first others named)
short_name_in (first ∷ others) (suc node) named = short_name_in others node (All-tail (λ n. IsTrue (is_name n.name)) first others named)

short_tmax : (tmax : Option ℕ) (tmin : ℕ) → IfSome tmax (λ time. (tmin ≤ time) × (time ≤ MAX_TIME)) → length (tmax_word tmax) ≤ 13
short_tmax None tmin small = omega arith
short_tmax (Some tmax) tmin small = number_short tmax small.1

pub short_modes : (graph : Tfpg) (bits : ℕ) → All (λ mode. IsTrue (is_name mode)) graph.modes → length graph.modes ≤ MAX_MODES → length (modes_word graph bits) ≤ 2112
short_modes graph bits named few =
    let end : ℕ = length graph.modes in
    let names : List (List ℕ) = mode_names_before graph bits end in
    let short : All (λ name. length name ≤ LONGEST_NAME) names = All-filter_map-slice_get (λ name. length name ≤ LONGEST_NAME) graph.modes (λ k d within. name_short _ (named k d within)) (modes_before bits end) in
    cond_both (bits == all_modes graph) (codes "*") (join_with_byte 44 names) (λ word. length word ≤ 2112)
    (λ all. omega arith)
    (λ some. omega (arith, few, length-join 44 LONGEST_NAME names short, length-filter_map (slice_get graph.modes) (modes_before bits end), modes_before-few bits end))

pub short_edge : (graph : Tfpg) (edge : Edge) (word : List ℕ) → All (λ n. IsTrue (is_name n.name)) graph.nodes → IsValidEdge graph edge → length word ≤ 2112
    → length (edge_line graph edge word) ≤ LONGEST_LINE
short_edge graph edge word named valid short =
    let source = name_word graph edge.source in
    let target = name_word graph edge.target in
    let tail = tmax_word edge.tmax ++ 32 ∷ word in
    omega (
      arith,
      length-append source (32 ∷ (target ++ 32 ∷ (decimal edge.tmin ++ 32 ∷ tail))),
      short_name_in graph.nodes edge.source named,
      length-append target (32 ∷ (decimal edge.tmin ++ 32 ∷ tail)),
      short_name_in graph.nodes edge.target named,
      length-append (decimal edge.tmin) (32 ∷ tail),
      number_short edge.tmin valid.least,
      length-append (tmax_word edge.tmax) (32 ∷ word),
      short_tmax edge.tmax edge.tmin valid.greatest,
    )
