-- What was read of the first of some words is what they say, and what they say is read.
use Rattle.std.proofs.Common.{◌≡◌, ℕ, ◌<◌, ◌≤◌, ◌^◌, ◌&&◌, ◌==◌, Bool, true, false, cond, leb, List, [], ◌∷◌, ◌++◌, length, get_or, Option, Some, None, unwrap_or, codes, refl, ap, sym, subst, ◌∙◌, arith}
use Rattle.std.specs.Prelude.{decimal, slice_get}
use Rattle.std.specs.Option.{option_and_then, option_map}
use Rattle.std.specs.Str.{bytes_eq}
use Rattle.std.proofs.lemmas.Bool.{eqb-true, eq-eqb}
use Rattle.std.proofs.lemmas.Bool.Decides.{nat_tests}
use Rattle.std.proofs.lemmas.List.Quantifiers.{position-Some}
use Rattle.std.proofs.lemmas.Option.{option_and_then_some, same_Some, slice_get-get_or}
use Rattle.tfpg_base.specs.declared.word.Number.{Number}
use Rattle.tfpg_base.specs.declared.word.Number.TheVariants.{Value, TooLarge, NotANumber}
use Rattle.tfpg_base.specs.Words.{number_of, number_up_to}
use Rattle.tfpg_base.proofs.lemmas.Numbers.{number_of-decimal, decimal-number_of, number_up_to-value}
use Rattle.tfpg_base.proofs.lemmas.lists.Positions.{position-at}
use Rattle.tfpg_base.proofs.lemmas.lists.SameBytes.{bytes_eq-true}
use Rattle.tfpg_graph.specs.Graph.{Tfpg, name_word, node_named, edge_from_to}
use Rattle.tfpg_graph.specs.Valid.{IsSamePair, IsValid}
use Rattle.tfpg_graph.specs.declared.edge.Edge.{Edge}
use Rattle.tfpg_report.specs.LineWords.{edge_words}
use Rattle.tfpg_report.specs.ReportLines.{Has32Bits}
use Rattle.tfpg_report.specs.inside.FirstWords.{value_of, number_within, small, number_first, small_first, node_first, edge_first, after_word, number_after, small_after, if_last, set_last}
use Rattle.tfpg_report.specs.inside.LinesRead.{Rest}
use Rattle.tfpg_report.proofs.lemmas.MemberWords.{node_of_word, word_of_named}

-- ---- what was read is said

-- The words are these, before the words that were left, and what was read is of this kind.
pub record Reads {X : Type 0} (IsOne : X → Type 0) (spelled : X → List (List ℕ)) (words : List (List ℕ)) (read : X × List (List ℕ)) : Type 0 where
  pub words_are : words ≡ spelled read.0 ++ read.1
  pub is : IsOne read.0

module _ {X Y : Type 0} (f : X → Option Y) (o : Option X) (y : Y) where
  -- what went on from something
  pub went_on : option_and_then f o ≡ Some y → (x : X) × ((o ≡ Some x) × (f x ≡ Some y))
  went_on e = option_and_then_some f o y e (λ x is more. (x, (is, more)))

-- what was made of something
pub made_of : {X Y : Type 0} (f : X → Y) (o : Option X) (y : Y) → option_map f o ≡ Some y → (x : X) × ((o ≡ Some x) × (f x ≡ y))
made_of f None y e = absurd cc
made_of f (Some x) y e = (x, (refl, same_Some (f x) y e))

value_of-is : (number : Number) (value : ℕ) → value_of number ≡ Some value → number ≡ Value value
value_of-is (Value number) value e = ap Value (same_Some number value e)
value_of-is TooLarge value e = absurd cc
value_of-is NotANumber value e = absurd cc

-- a word that is read as a number up to a limit is the text of it
pub number_within-is : (limit : ℕ) (word : List ℕ) (value : ℕ) → limit < 2 ^ 64 → number_within limit word ≡ Some value → (word ≡ decimal value) × (value ≤ limit)
number_within-is limit word value fits e =
    let read = number_up_to-value limit value (number_of word) (value_of-is (number_up_to limit (number_of word)) value e) in
    (decimal-number_of word value read.0 (omega (arith, read.1, fits)), read.1)

-- the text of a number up to the limit is read as it
pub number_within-reads : (limit value : ℕ) → limit < 2 ^ 64 → value ≤ limit → number_within limit (decimal value) ≡ Some value
number_within-reads limit value fits within =
    ap (λ o. value_of (number_up_to limit o)) (number_of-decimal value (omega (arith, within, fits))) ∙ by (leb value limit) refl
  where
    by : (b : Bool) → leb value limit ≡ b → value_of (cond b (Value value) TooLarge) ≡ Some value
    by true is = refl
    by false is = absurd (grind (arith, nat_tests))

-- both tests of two pairs of numbers pass
both_equal : (a b c d : ℕ) → ((a == b) && (c == d)) ≡ true → (a ≡ b) × (c ≡ d)
both_equal a b c d e = by (a == b) (c == d) refl refl e
  where
    by : (x y : Bool) → (a == b) ≡ x → (c == d) ≡ y → (x && y) ≡ true → (a ≡ b) × (c ≡ d)
    by true true first second is = (eqb-true a b first, eqb-true c d second)
    by true false first second is = absurd cc
    by false y first second is = absurd cc

-- one word for a number
abbrev pub number_word : ℕ → List (List ℕ)
number_word number = decimal number ∷ []

-- the number of a first word
pub number_first-is : (limit : ℕ) (words : List (List ℕ)) (read : Rest) → limit < 2 ^ 64 → number_first limit words ≡ Some read → Reads (λ n. n ≤ limit) number_word words read
number_first-is limit [] read fits e = absurd cc
number_first-is limit (word ∷ others) read fits e =
    let number = made_of (λ (n : ℕ). (n, others)) (number_within limit word) read e in
    let is = number_within-is limit word number.0 fits number.1.0 in
    subst (Reads (λ n. n ≤ limit) number_word (word ∷ others)) number.1.1 (record { words_are = ap (λ (w : List ℕ). w ∷ others) is.0; is = is.1 })

-- and one of 32 bits
pub small_first-is : (words : List (List ℕ)) (read : Rest) → small_first words ≡ Some read → Reads Has32Bits number_word words read
small_first-is [] read e = absurd cc
small_first-is (word ∷ others) read e =
    let number = made_of (λ (n : ℕ). (n, others)) (small word) read e in
    let is = number_within-is 4294967295 word number.0 (omega arith) number.1.0 in
    subst (Reads Has32Bits number_word (word ∷ others)) number.1.1 (record { words_are = ap (λ (w : List ℕ). w ∷ others) is.0; is = omega (arith, is.1) })

-- the words after a first one
pub after_word-is : (word : List ℕ) (words others : List (List ℕ)) → after_word word words ≡ Some others → words ≡ word ∷ others
after_word-is word [] others e = absurd cc
after_word-is word (first ∷ more) others e = by (bytes_eq first word) refl e
  where
    by : (b : Bool) → bytes_eq first word ≡ b → cond b (Some more) None ≡ Some others → first ∷ more ≡ word ∷ others
    by true is same = λ i. bytes_eq-true first word is i ∷ same_Some more others same i
    by false is same = absurd cc

-- the number after a word
pub number_after-is : (word : List ℕ) (limit : ℕ) (words : List (List ℕ)) (read : Rest) → limit < 2 ^ 64 → number_after word limit words ≡ Some read
    → Reads (λ n. n ≤ limit) (λ n. word ∷ number_word n) words read
number_after-is word limit words read fits e =
    let after = went_on (number_first limit) (after_word word words) read e in
    let number = number_first-is limit after.0 read fits after.1.1 in
    record { words_are = after_word-is word words after.0 after.1.0 ∙ ap (λ (ws : List (List ℕ)). word ∷ ws) number.words_are; is = number.is }

-- and one of 32 bits
pub small_after-is : (word : List ℕ) (words : List (List ℕ)) (read : Rest) → small_after word words ≡ Some read → Reads Has32Bits (λ n. word ∷ number_word n) words read
small_after-is word words read e =
    let after = went_on small_first (after_word word words) read e in
    let number = small_first-is after.0 read after.1.1 in
    record { words_are = after_word-is word words after.0 after.1.0 ∙ ap (λ (ws : List (List ℕ)). word ∷ ws) number.words_are; is = number.is }

-- no word is left
pub if_last-is : {X : Type 0} (words : List (List ℕ)) (value read : X) → if_last words value ≡ Some read → (words ≡ []) × (value ≡ read)
if_last-is [] value read e = (refl, same_Some value read e)
if_last-is (more ∷ others) value read e = absurd cc

-- the word after `set`
pub set_last-is : (words : List (List ℕ)) (set : List ℕ) → set_last words ≡ Some set → words ≡ codes "set" ∷ set ∷ []
set_last-is [] set e = absurd cc
set_last-is (keyword ∷ []) set e = absurd cc
set_last-is (keyword ∷ word ∷ []) set e = by (bytes_eq keyword (codes "set")) refl e
  where
    by : (b : Bool) → bytes_eq keyword (codes "set") ≡ b → cond b (Some word) None ≡ Some set → keyword ∷ word ∷ [] ≡ codes "set" ∷ set ∷ []
    by true is same = λ i. bytes_eq-true keyword (codes "set") is i ∷ same_Some word set same i ∷ []
    by false is same = absurd cc
set_last-is (keyword ∷ word ∷ more ∷ others) set e = absurd cc

module _ (graph : Tfpg) where
  -- one word for a node
  abbrev pub node_word : ℕ → List (List ℕ)
  node_word node = name_word graph node ∷ []

  -- the number is that of a node
  abbrev pub IsNode : ℕ → Type 0
  IsNode node = node < length graph.nodes

  -- the number is that of an edge
  abbrev pub IsEdge : ℕ → Type 0
  IsEdge edge = edge < length graph.edges

  -- the node of a first word
  pub node_first-is : (words : List (List ℕ)) (read : Rest) → node_first graph words ≡ Some read → Reads IsNode node_word words read
  node_first-is [] read e = absurd cc
  node_first-is (word ∷ others) read e =
      let node = made_of (λ (n : ℕ). (n, others)) (node_named graph word) read e in
      let is = word_of_named graph word node.0 node.1.0 in
      subst (Reads IsNode node_word (word ∷ others)) node.1.1 (record { words_are = ap (λ (w : List ℕ). w ∷ others) is.1; is = is.0 })

  -- an edge from one node to another has their names
  edge_named : (source target edge : ℕ) → edge_from_to graph source target ≡ Some edge → (edge < length graph.edges) × (edge_words graph edge ≡ name_word graph source ∷ name_word graph target ∷ [])
  edge_named source target edge e =
      let nothing : Edge = record { source = 0; target = 0; tmin = 0; tmax = None; modes = 0 } in
      let found = position-Some (λ (one : Edge). (one.source == source) && (one.target == target)) graph.edges edge nothing e in
      let one : Edge = get_or graph.edges edge nothing in
      let at : slice_get graph.edges edge ≡ Some one = slice_get-get_or graph.edges edge nothing found.0 in
      let ends = both_equal one.source source one.target target found.1 in (
        found.0,
        ap (λ (o : Option Edge). unwrap_or (option_map (λ (d : Edge). name_word graph d.source ∷ name_word graph d.target ∷ []) o) []) at
            ∙ (λ i. name_word graph (ends.0 i) ∷ name_word graph (ends.1 i) ∷ []),
      )

  -- the edge of two first words
  pub edge_first-is : (words : List (List ℕ)) (read : Rest) → edge_first graph words ≡ Some read → Reads IsEdge (edge_words graph) words read
  edge_first-is words read e =
      let source = went_on _ (node_first graph words) read e in
      let from = node_first-is words source.0 source.1.0 in
      let target = went_on _ (node_first graph source.0.1) read source.1.1 in
      let to = node_first-is source.0.1 target.0 target.1.0 in
      let edge = made_of (λ (n : ℕ). (n, target.0.1)) (edge_from_to graph source.0.0 target.0.0) read target.1.1 in
      let named = edge_named source.0.0 target.0.0 edge.0 edge.1.0 in
      subst (Reads IsEdge (edge_words graph) words) edge.1.1 (record {
        words_are = from.words_are ∙ ap (λ (ws : List (List ℕ)). name_word graph source.0.0 ∷ ws) to.words_are ∙ ap (λ (ws : List (List ℕ)). ws ++ target.0.1) (sym named.1);
        is = named.0;
      })

-- ---- what is said is read

-- a first word that is the text of a number up to a limit
pub number_first-reads : (limit number : ℕ) (others : List (List ℕ)) → limit < 2 ^ 64 → number ≤ limit → number_first limit (decimal number ∷ others) ≡ Some (number, others)
number_first-reads limit number others fits within = ap (option_map (λ (n : ℕ). (n, others))) (number_within-reads limit number fits within)

-- of one of 32 bits
pub small-reads : (number : ℕ) → Has32Bits number → small (decimal number) ≡ Some number
small-reads number within = number_within-reads 4294967295 number (omega arith) (omega (arith, within))

pub small_first-reads : (number : ℕ) (others : List (List ℕ)) → Has32Bits number → small_first (decimal number ∷ others) ≡ Some (number, others)
small_first-reads number others within = ap (option_map (λ (n : ℕ). (n, others))) (small-reads number within)

module _ (graph : Tfpg) (valid : IsValid graph) where
  -- the name of a node
  pub node_first-reads : (node : ℕ) (others : List (List ℕ)) → node < length graph.nodes → node_first graph (name_word graph node ∷ others) ≡ Some (node, others)
  node_first-reads node others within = ap (option_map (λ (n : ℕ). (n, others))) (node_of_word graph valid node within)

  -- ---- the names of the ends of an edge

  -- an edge, as code reads it
  pub record IsEdgeAt (edge : ℕ) : Type 0 where
    pub source : ℕ
    pub target : ℕ
    pub words_are : edge_words graph edge ≡ name_word graph source ∷ name_word graph target ∷ []
    pub source_in : source < length graph.nodes
    pub target_in : target < length graph.nodes
    pub found : edge_from_to graph source target ≡ Some edge

  nothing : Edge
  nothing = record { source = 0; target = 0; tmin = 0; tmax = None; modes = 0 }

  differ : (one other : Edge) → (IsSamePair one other → ⊥) → ((one.source == other.source) && (one.target == other.target)) ≡ false
  differ one other apart = by ((one.source == other.source) && (one.target == other.target)) refl
    where
      by : (b : Bool) → ((one.source == other.source) && (one.target == other.target)) ≡ b → b ≡ false
      by false is = refl
      by true is = absurd (apart (both_equal one.source other.source one.target other.target is))

  -- each edge is one
  pub edge_at : (edge : ℕ) → edge < length graph.edges → IsEdgeAt edge
  edge_at edge within =
      let one : Edge = get_or graph.edges edge nothing in
      let at : slice_get graph.edges edge ≡ Some one = slice_get-get_or graph.edges edge nothing within in
      let is = valid.so_far.edges edge nothing within in
      record {
        source = one.source;
        target = one.target;
        words_are = ap (λ (o : Option Edge). unwrap_or (option_map (λ (d : Edge). name_word graph d.source ∷ name_word graph d.target ∷ []) o) []) at;
        source_in = is.source;
        target_in = is.target;
        found = position-at (λ (other : Edge). (other.source == one.source) && (other.target == one.target)) graph.edges edge nothing within
            (λ i. eq-eqb one.source one.source refl i && eq-eqb one.target one.target refl i)
            (λ earlier before. differ (get_or graph.edges earlier nothing) one (valid.so_far.edges_differ earlier edge nothing before within));
      }

  -- they are read as it
  pub edge_first-reads : (edge : ℕ) (others : List (List ℕ)) → edge < length graph.edges → edge_first graph (edge_words graph edge ++ others) ≡ Some (edge, others)
  edge_first-reads edge others within =
      let at = edge_at edge within in
      ap (λ (ws : List (List ℕ)). edge_first graph (ws ++ others)) at.words_are
      ∙ rw (node_first-reads at.source (name_word graph at.target ∷ others) at.source_in, node_first-reads at.target others at.target_in, at.found) refl
