-- No line of a canonical text has a line end in it.
use Rattle.std.proofs.Common.{◌≡◌, ℕ, suc, zero, ◌≤◌, ◌==◌, false, eqb, List, [], ◌∷◌, length, slice_get, All, IsTrue, Option, Some, None, IfSome, unwrap_or, codes, refl, arith}
use Rattle.std.specs.Prelude.{decimal}
use Rattle.std.specs.Option.{option_map}
use Rattle.std.specs.List.{join_with_byte}
use Rattle.std.proofs.lemmas.Bool.{cond_both}
use Rattle.std.proofs.lemmas.List.Elements.{All-nil, All-cons, All-head, All-tail}
use Rattle.tfpg_base.specs.Words.{line_of, is_name}
use Rattle.tfpg_base.specs.Lines.{HasNoLineEnd, ends_line}
use Rattle.tfpg_base.proofs.lemmas.Separators.{name_lacks, number_lacks}
use Rattle.tfpg_base.proofs.lemmas.lists.Lacking.{decimal_lacks}
use Rattle.tfpg_base.proofs.lemmas.lists.Joined.{All-join}
use Rattle.tfpg_base.proofs.lemmas.lists.Passing.{All-filter_map-slice_get}
use Rattle.tfpg_graph.specs.declared.kind.Kind.{Kind}
use Rattle.tfpg_graph.specs.declared.kind.Lag.{Lag}
use Rattle.tfpg_graph.specs.declared.kind.Kind.TheVariants.{Failure, Or, And}
use Rattle.tfpg_graph.specs.declared.edge.Edge.{Edge}
use Rattle.tfpg_graph.specs.declared.version.Version.{Version}
use Rattle.tfpg_graph.specs.declared.version.Version.TheVariants.{One, Two}
use Rattle.tfpg_graph.specs.Statements.{words_of_lag}
use Rattle.tfpg_graph.specs.Graph.{Tfpg, Node, name_word}
use Rattle.tfpg_graph.specs.Text.{header, mode_line, lag_words, tmax_word, edge_line, modes_word, all_modes}
use Rattle.tfpg_graph.specs.inside.writing.Written.{node_words, watch_words, modes_before, mode_names_before}
use Rattle.tfpg_base.specs.declared.limits.TheConstants.{MAX_TIME}
use Rattle.tfpg_graph.specs.Valid.{HasValidNumber, IsValidLag, IsValidEdge}

-- the list of one word
clean_one : (word : List ℕ) → HasNoLineEnd word → All HasNoLineEnd (word ∷ [])
clean_one word clean = All-cons HasNoLineEnd word [] clean (All-nil HasNoLineEnd)

-- a name, and a number
pub clean_name : (name : List ℕ) → IsTrue (is_name name) → HasNoLineEnd name
clean_name name named = name_lacks 10 name refl named

pub clean_number : (number : ℕ) → number ≤ MAX_TIME → HasNoLineEnd (decimal number)
clean_number number small = decimal_lacks 10 number refl (omega arith)

-- a keyword and the other words
pub clean_words : (keyword : List ℕ) (words : List (List ℕ)) → HasNoLineEnd keyword → All HasNoLineEnd words → HasNoLineEnd (line_of (keyword ∷ words))
clean_words keyword words own clean = All-join (λ byte. ends_line byte ≡ false) 32 (keyword ∷ words) refl (All-cons HasNoLineEnd keyword words own clean)

pub clean_header : (version : Version) → HasNoLineEnd (header version)
clean_header One = clean_words (codes "tfpg") (codes "1" ∷ []) (clean_name (codes "tfpg") refl) (clean_one (codes "1") (number_lacks 10 (codes "1") refl refl))
clean_header Two = clean_words (codes "tfpg") (codes "2" ∷ []) (clean_name (codes "tfpg") refl) (clean_one (codes "2") (number_lacks 10 (codes "2") refl refl))

pub clean_end : HasNoLineEnd (codes "end")
clean_end = clean_name (codes "end") refl

pub clean_mode : (name : List ℕ) → IsTrue (is_name name) → HasNoLineEnd (mode_line name)
clean_mode name named = clean_words (codes "mode") (name ∷ []) (clean_name (codes "mode") refl) (clean_one name (clean_name name named))

clean_lag : (version : Version) (lag : Lag) → IsValidLag lag → All HasNoLineEnd (words_of_lag version (lag_words lag))
clean_lag One lag small = clean_one (decimal lag.most) (clean_number lag.most small.most)
clean_lag Two lag small =
    All-cons HasNoLineEnd (decimal lag.least) (decimal lag.most ∷ []) (clean_number lag.least (omega (arith, small.in_order, small.most)))
    (clean_one (decimal lag.most) (clean_number lag.most small.most))

clean_watch : (version : Version) (lag : Option Lag) → IfSome lag IsValidLag → All HasNoLineEnd (watch_words version lag)
clean_watch version None small = clean_one (codes "hidden") (clean_name (codes "hidden") refl)
clean_watch version (Some lag) small =
    All-cons HasNoLineEnd (codes "watch") (words_of_lag version (lag_words lag)) (clean_name (codes "watch") refl) (clean_lag version lag small)

pub clean_node : (version : Version) (name : List ℕ) (kind : Kind) → IsTrue (is_name name) → HasValidNumber kind
    → HasNoLineEnd (line_of (node_words version name kind))
clean_node version name (Failure rarity) named small =
    clean_words (codes "failure") (name ∷ decimal rarity ∷ []) (clean_name (codes "failure") refl)
    (All-cons HasNoLineEnd name (decimal rarity ∷ []) (clean_name name named) (clean_one (decimal rarity) (clean_number rarity (omega arith))))
clean_node version name (Or lag) named small =
    clean_words (codes "or") (name ∷ watch_words version lag) (clean_name (codes "or") refl) (All-cons HasNoLineEnd name (watch_words version lag) (clean_name name named) (clean_watch version lag small))
clean_node version name (And lag) named small =
    clean_words (codes "and") (name ∷ watch_words version lag) (clean_name (codes "and") refl) (All-cons HasNoLineEnd name (watch_words version lag) (clean_name name named) (clean_watch version lag small))

clean_name_in : (nodes : List Node) (node : ℕ) → All (λ n. IsTrue (is_name n.name)) nodes → HasNoLineEnd (unwrap_or (option_map (λ n. n.name) (slice_get nodes node)) [])
clean_name_in [] node named = All-nil (λ byte. eqb byte 10 ≡ false)
clean_name_in (first ∷ others) zero named = clean_name first.name (All-head (λ n. IsTrue (is_name n.name)) first others named)
clean_name_in (first ∷ others) (suc node) named = clean_name_in others node (All-tail (λ n. IsTrue (is_name n.name)) first others named)

clean_tmax : (tmax : Option ℕ) (tmin : ℕ) → IfSome tmax (λ time. (tmin ≤ time) × (time ≤ MAX_TIME)) → HasNoLineEnd (tmax_word tmax)
clean_tmax None tmin small = clean_name (codes "inf") refl
clean_tmax (Some tmax) tmin small = clean_number tmax small.1

clean_modes : (graph : Tfpg) (bits : ℕ) → All (λ mode. IsTrue (is_name mode)) graph.modes → HasNoLineEnd (modes_word graph bits)
clean_modes graph bits named =
    cond_both (bits == all_modes graph) (codes "*") (join_with_byte 44 (mode_names_before graph bits (length graph.modes))) HasNoLineEnd
    (λ all. All-cons (λ byte. eqb byte 10 ≡ false) 42 [] refl (All-nil (λ byte. eqb byte 10 ≡ false)))
    (λ some. All-join (λ byte. ends_line byte ≡ false) 44 (mode_names_before graph bits (length graph.modes)) refl
    (All-filter_map-slice_get HasNoLineEnd graph.modes (λ k d within. clean_name _ (named k d within)) (modes_before bits (length graph.modes))))

pub clean_edge : (graph : Tfpg) (edge : Edge) → All (λ n. IsTrue (is_name n.name)) graph.nodes → All (λ mode. IsTrue (is_name mode)) graph.modes → IsValidEdge graph edge
    → HasNoLineEnd (edge_line graph edge (modes_word graph edge.modes))
clean_edge graph edge nodes modes valid =
    let source = name_word graph edge.source in
    let target = name_word graph edge.target in
    let tmin = decimal edge.tmin in
    let tmax = tmax_word edge.tmax in
    let word = modes_word graph edge.modes in
    clean_words (codes "edge") (source ∷ target ∷ tmin ∷ tmax ∷ word ∷ []) (clean_name (codes "edge") refl)
    (All-cons HasNoLineEnd source (target ∷ tmin ∷ tmax ∷ word ∷ []) (clean_name_in graph.nodes edge.source nodes)
    (All-cons HasNoLineEnd target (tmin ∷ tmax ∷ word ∷ []) (clean_name_in graph.nodes edge.target nodes)
    (All-cons HasNoLineEnd tmin (tmax ∷ word ∷ []) (clean_number edge.tmin valid.least)
    (All-cons HasNoLineEnd tmax (word ∷ []) (clean_tmax edge.tmax edge.tmin valid.greatest) (clean_one word (clean_modes graph edge.modes modes))))))
