-- A statement without a cause has a value, and its words are those of the value.
use Rattle.std.proofs.Common.{◌≡◌, ℕ, Bool, true, false, nat_lt, cond, List, [], ◌∷◌, Option, Some, None, IfSome, unwrap_or, codes, refl, ap, sym, arith}
use Rattle.std.specs.Prelude.{decimal}
use Rattle.std.specs.Str.{bytes_eq}
use Rattle.std.specs.Str.Parse.{digits_value}
use Rattle.std.specs.List.{list_all, list_any}
use Rattle.std.specs.Option.{option_map, option_and_then, option_zip}
use Rattle.std.proofs.lemmas.Bool.{and_parts, or_parts, not-false}
use Rattle.std.proofs.lemmas.Slice.Eq.{bytes_eq-Decides}
use Rattle.tfpg_base.specs.Words.{line_of, is_number, number_of}
use Rattle.tfpg_base.proofs.lemmas.Numbers.{number_of-within}
use Rattle.tfpg_base.proofs.lemmas.lists.LookedUp.{found}
use Rattle.tfpg_graph.specs.declared.kind.Kind.{Kind}
use Rattle.tfpg_graph.specs.declared.kind.Lag.{Lag}
use Rattle.tfpg_graph.specs.declared.kind.Kind.TheVariants.{Failure, Or, And}
use Rattle.tfpg_graph.specs.declared.edge.Edge.{Edge}
use Rattle.tfpg_graph.specs.declared.version.Version.{Version}
use Rattle.tfpg_graph.specs.declared.version.Version.TheVariants.{One, Two}
use Rattle.tfpg_graph.specs.Graph.{Tfpg, name_word, node_named}
use Rattle.tfpg_graph.specs.Text.{tmax_word, SpellsEdge}
use Rattle.tfpg_graph.specs.inside.writing.Written.{node_words, watch_words}
use Rattle.tfpg_base.specs.declared.limits.TheConstants.{MAX_TIME}
use Rattle.tfpg_graph.specs.declared.limits.TheConstants.{MAX_RARITY}
use Rattle.tfpg_graph.specs.Statements.{LagWords, NodeWords, FailureWords, OrWords, AndWords, DeclaresNode, DeclaresEdge, words_of_watch, words_of_node, words_of_statement, CanSayLag, CanSay}
use Rattle.tfpg_graph.specs.Declares.{lag_of_words, kind_of_words, edge_declared, modes_of_word}
use Rattle.tfpg_graph.specs.inside.reading.WordValues.{delays_of_words, ends_named}
use Rattle.tfpg_graph.specs.Causes.{has_bad_number, has_large_number, lag_numbers, node_numbers}
use Rattle.tfpg_graph.proofs.lemmas.writing.WrittenVersion.{CanSpellLag, CanSpell}
use Rattle.tfpg_graph.proofs.lemmas.declaring.Named.{named_found}
use Rattle.tfpg_graph.proofs.lemmas.reading.causes.NoCause.{HasNoCause}
use Rattle.tfpg_graph.proofs.lemmas.reading.saying.SaidModes.{SpellsModes-said}

-- ---- numbers

-- each of these words is a number
abbrev are_numbers : List (List ℕ × ℕ) → Bool
are_numbers numbers = list_all (λ number. is_number number.0) numbers

-- one of these words is above the greatest that it may be
abbrev has_large : List (List ℕ × ℕ) → Bool
has_large numbers = list_any (λ number. nat_lt number.1 (digits_value 10 number.0)) numbers

-- ---- nodes

-- a version that can say a lag can spell it
can_spell : (version : Version) (words : LagWords) (most : ℕ) → CanSayLag version words
    → CanSpellLag version (record { least = digits_value 10 words.least; most = most })
can_spell One words most sayable = ap (digits_value 10) sayable
can_spell Two words most sayable = tt

module _ (version : Version) where
  lag_said : (lag : Option LagWords) → IfSome lag (CanSayLag version) → are_numbers (lag_numbers lag) ≡ true → has_large (lag_numbers lag) ≡ false
      → (value : Option Lag) × (lag_of_words lag ≡ Some value) × (words_of_watch version lag ≡ watch_words version value) × IfSome value (CanSpellLag version)
  lag_said None sayable numbers small = (None, refl, refl, tt)
  lag_said (Some words) sayable numbers small =
      let right = and_parts (is_number words.least) _ numbers in
      let within = or_parts (nat_lt MAX_TIME (digits_value 10 words.least)) _ small in
      let least = number_of-within words.least MAX_TIME (omega arith) right.0 within.0 in
      let most = number_of-within words.most MAX_TIME (omega arith) (and_parts (is_number words.most) true right.1).0 (or_parts _ false within.1).0 in (
        Some (record { least = digits_value 10 words.least; most = digits_value 10 words.most }),
        (λ i. option_map (λ (range : ℕ × ℕ). Some (record { least = range.0; most = range.1 }))
            (option_zip (least.0 i) (most.0 i))),
        (λ i. words_of_watch version (Some (record { least = least.1 i; most = most.1 i }))),
        can_spell version words (digits_value 10 words.most) sayable,
      )

  kind_said : (name : List ℕ) (words : NodeWords) → CanSay version (DeclaresNode name words)
      → are_numbers (node_numbers words) ≡ true → has_large (node_numbers words) ≡ false
      → (kind : Kind) × (kind_of_words words ≡ Some kind) × (words_of_node version name words ≡ node_words version name kind) × CanSpell version kind
  kind_said name (FailureWords rarity) sayable numbers small =
      let is = number_of-within rarity MAX_RARITY (omega arith) (and_parts (is_number rarity) true numbers).0 (or_parts _ false small).0 in
      (Failure (digits_value 10 rarity), ap (option_map Failure) is.0, ap (λ word. codes "failure" ∷ name ∷ word ∷ []) is.1, tt)
  kind_said name (OrWords lag) sayable numbers small =
      let is = lag_said lag sayable numbers small in
      (Or is.0, ap (option_map Or) is.1, ap (λ words. codes "or" ∷ name ∷ words) is.2, is.3)
  kind_said name (AndWords lag) sayable numbers small =
      let is = lag_said lag sayable numbers small in
      (And is.0, ap (option_map And) is.1, ap (λ words. codes "and" ∷ name ∷ words) is.2, is.3)

  -- A node whose numbers have no cause is of a kind, its words are those of this kind, and the version can spell it.
  pub node_from_words : (name : List ℕ) (words : NodeWords) → CanSay version (DeclaresNode name words)
      → has_bad_number (DeclaresNode name words) ≡ false → has_large_number (DeclaresNode name words) ≡ false
      → (kind : Kind) × (kind_of_words words ≡ Some kind)
      × (words_of_statement version (DeclaresNode name words) ≡ node_words version name kind) × CanSpell version kind
  node_from_words name words sayable numbers small = kind_said name words sayable (not-false (are_numbers (node_numbers words)) numbers) small

-- ---- edges

-- the greatest delay, as the test for `inf` comes out
tmax_said : (tmax : List ℕ) (endless : Bool) → bytes_eq tmax (codes "inf") ≡ endless
    → are_numbers (cond endless [] ((tmax, MAX_TIME) ∷ [])) ≡ true
    → has_large (cond endless [] ((tmax, MAX_TIME) ∷ [])) ≡ false
    → (greatest : Option ℕ) × (cond endless (Some None) (option_map Some (number_of tmax)) ≡ Some greatest) × (tmax ≡ tmax_word greatest)
tmax_said tmax true is numbers small = (None, refl, (bytes_eq-Decides tmax (codes "inf")).0 is)
tmax_said tmax false is numbers small =
    let value = number_of-within tmax MAX_TIME (omega arith) (and_parts (is_number tmax) true numbers).0 (or_parts _ false small).0 in
    (Some (digits_value 10 tmax), ap (option_map Some) value.0, value.1)

-- the words for an edge's delays
delays_said : (source target tmin tmax modes : List ℕ)
    → has_bad_number (DeclaresEdge source target tmin tmax modes) ≡ false
    → has_large_number (DeclaresEdge source target tmin tmax modes) ≡ false
    → (least : ℕ) × (greatest : Option ℕ) × (delays_of_words tmin tmax ≡ Some (least, greatest)) × (tmin ≡ decimal least) × (tmax ≡ tmax_word greatest)
delays_said source target tmin tmax modes numbers small =
    let right = and_parts (is_number tmin) _ (not-false _ numbers) in
    let within = or_parts _ _ small in
    let first = number_of-within tmin MAX_TIME (omega arith) right.0 within.0 in
    let second = tmax_said tmax (bytes_eq tmax (codes "inf")) refl right.1 within.1 in (
      digits_value 10 tmin,
      second.0,
      (λ i. option_zip (first.0 i) (second.1 i)),
      first.1,
      second.2,
    )

-- An edge without a cause has its value, and its words spell it.
pub edge_from_words : (version : Version) (graph : Tfpg) (out_of_order : Bool) (source target tmin tmax modes : List ℕ)
    → HasNoCause out_of_order graph (DeclaresEdge source target tmin tmax modes)
    → (edge : Edge) × (edge_declared graph (DeclaresEdge source target tmin tmax modes) ≡ Some edge)
    × SpellsEdge graph edge (line_of (words_of_statement version (DeclaresEdge source target tmin tmax modes)))
edge_from_words version graph out_of_order source target tmin tmax modes is =
    let unknown = or_parts _ _ is.known in
    let unknown_target = or_parts _ _ unknown.1 in
    let from = found (node_named graph) source unknown.0 in
    let to = found (node_named graph) target unknown_target.0 in
    let delays = delays_said source target tmin tmax modes is.numbers is.small in
    let edge : Edge = edge_with (from.0, to.0) (delays.0, delays.1) in
    let ends : ends_named graph source target ≡ Some (from.0, to.0) =
    (λ i. option_zip (from.1 i) (to.1 i)) in
    let source_word : name_word graph from.0 ≡ source = ap (λ o. unwrap_or o []) (named_found graph source from.0 from.1).1 in
    let target_word : name_word graph to.0 ≡ target = ap (λ o. unwrap_or o []) (named_found graph target to.0 to.1).1 in (
      edge,
      (λ i. option_and_then (λ ends. option_map (edge_with ends) (delays.2 i)) (ends i)),
      (
        modes,
        SpellsModes-said graph modes is.some_mode is.new unknown_target.1,
        (λ i. line_of (codes "edge" ∷ sym source_word i ∷ sym target_word i ∷ delays.3 i ∷ delays.4 i ∷ modes ∷ [])),
      ),
    )
  where
    edge_with : ℕ × ℕ → ℕ × Option ℕ → Edge
    edge_with ends delays = record { source = ends.0; target = ends.1; tmin = delays.0; tmax = delays.1; modes = modes_of_word graph modes }
