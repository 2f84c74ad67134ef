-- What the lines that spell a graph say.
use Rattle.std.proofs.Common.{◌≡◌, ℕ, ◌<◌, ◌≤◌, ◌^◌, ◌==◌, true, false, not, cond, List, [], ◌∷◌, ◌++◌, length, IsTrue, Option, Some, None, IfSome, codes, refl, ap, ◌∙◌, arith, eqb, sym}
use Rattle.std.specs.Prelude.{decimal}
use Rattle.std.specs.Fmt.{digits}
use Rattle.std.specs.Option.{option_map}
use Rattle.std.specs.List.{AllByRecursion, list_any, list_all, join_with_byte}
use Rattle.std.proofs.lemmas.Bool.{ne_eqb, le-ltb, false≢true, or_from}
use Rattle.std.proofs.lemmas.List.{append-nil}
use Rattle.std.proofs.lemmas.List.Elements.{All-weaker, All-from_recursion}
use Rattle.tfpg_base.specs.Words.{line_of, is_name}
use Rattle.tfpg_base.specs.declared.limits.TheConstants.{LONGEST_LINE, MAX_TIME}
use Rattle.tfpg_base.proofs.lemmas.Numbers.{is_number-decimal, number_nonempty}
use Rattle.tfpg_base.proofs.lemmas.Separators.{name_lacks}
use Rattle.tfpg_base.proofs.lemmas.lists.Lacking.{Lacks, lacks_checked, decimal_lacks, slice_split-join}
use Rattle.tfpg_base.proofs.lemmas.lists.Joined.{All-join}
use Rattle.tfpg_graph.specs.declared.kind.Kind.{Kind}
use Rattle.tfpg_graph.specs.declared.kind.Lag.{Lag}
use Rattle.tfpg_graph.specs.declared.kind.Kind.TheVariants.{Failure, Or, And}
use Rattle.tfpg_graph.specs.declared.version.Version.{Version}
use Rattle.tfpg_graph.specs.declared.version.Version.TheVariants.{One, Two}
use Rattle.tfpg_graph.specs.Text.{mode_line, lag_words, words_of_kind, tmax_word}
use Rattle.tfpg_graph.specs.inside.writing.Written.{node_words, watch_words}
use Rattle.tfpg_graph.specs.Valid.{IsValidLag, HasValidNumber}
use Rattle.tfpg_graph.specs.Statements.{Statement, DeclaresMode, DeclaresNode, DeclaresEdge, Ends, words_of_lag, CanSayLag, CanSay, statement_in, statement_of}
use Rattle.tfpg_graph.proofs.lemmas.reading.saying.SaidWords.{statement_in-words}
use Rattle.tfpg_graph.proofs.lemmas.writing.LineLengths.{short_mode, short_node}
use Rattle.tfpg_graph.proofs.lemmas.writing.WrittenVersion.{CanSpellLag, CanSpell}

-- a word of a line: it is not empty, and has no space
pub record IsWord (word : List ℕ) : Type 0 where
  pub some : (length word == 0) ≡ false
  pub lacks : Lacks 32 word

-- words of a line, of which none is empty
pub no_empty_word : (words : List (List ℕ)) → AllByRecursion IsWord words
    → list_any (λ word. length word == 0) words ≡ false
no_empty_word [] are = refl
no_empty_word (word ∷ words) are = or_from _ _ are.0.some (no_empty_word words are.1)

-- and none has a space
pub no_space : (words : List (List ℕ)) → AllByRecursion IsWord words → AllByRecursion (Lacks 32) words
no_space [] are = tt
no_space (word ∷ words) are = (are.0.lacks, no_space words are.1)

-- A line of words that is short says what the words say.
pub short_line_says : (version : Version) (words : List (List ℕ)) → 0 < length words → AllByRecursion IsWord words
    → length (line_of words) ≤ LONGEST_LINE → statement_of version (line_of words) ≡ statement_in version words
short_line_says version words some are short =
    (λ i. cond (le-ltb LONGEST_LINE (length (line_of words)) short i) None
    (said (slice_split-join 32 words some (no_space words are) i)))
    ∙ ap (λ b. cond b None (statement_in version words)) (no_empty_word words are)
  where
    said : List (List ℕ) → Option Statement
    said parts = cond (list_any (λ word. length word == 0) parts) None (statement_in version parts)

-- a word that is written out
pub keyword : (word : List ℕ) → (length word == 0) ≡ false → list_all (λ other. not (other == 32)) word ≡ true → IsWord word
keyword word some all = record { some = some; lacks = lacks_checked 32 word all }

-- a name and more bytes are not empty
some_append : (name others : List ℕ) → is_name name ≡ true → (length (name ++ others) == 0) ≡ false
some_append [] others named = absurd (false≢true named)
some_append (first ∷ name) others named = ne_eqb (length (first ∷ (name ++ others))) 0 (λ e. omega (arith, e))

-- nor is a name
pub some_name : (name : List ℕ) → is_name name ≡ true → (length name == 0) ≡ false
some_name name named = ap (λ word. length word == 0) (sym (append-nil name)) ∙ some_append name [] named

pub IsWord-name : (name : List ℕ) → is_name name ≡ true → IsWord name
IsWord-name name named = record { some = some_name name named; lacks = name_lacks 32 name refl named }

-- the text of a number is a word
pub IsWord-decimal : (number : ℕ) → number < 2 ^ 64 → IsWord (decimal number)
IsWord-decimal number small =
    record { some = ne_eqb (length (decimal number)) 0 (λ e. omega (arith, e, number_nonempty (decimal number) (is_number-decimal number small))); lacks = decimal_lacks 32 number refl small }

-- The line of a mode says that it declares the mode.
pub statement_of-mode : (version : Version) (name : List ℕ) → IsTrue (is_name name) → statement_of version (mode_line name) ≡ Some (DeclaresMode name)
statement_of-mode version name named =
    short_line_says version (codes "mode" ∷ name ∷ []) (omega arith)
    (keyword (codes "mode") refl refl, (IsWord-name name named, tt)) (short_mode name named)

-- the words of a lag
are_lag_words : (version : Version) (lag : Lag) → IsValidLag lag → AllByRecursion IsWord (words_of_lag version (lag_words lag))
are_lag_words One lag small = (IsWord-decimal lag.most (omega (arith, small.most)), tt)
are_lag_words Two lag small =
    (IsWord-decimal lag.least (omega (arith, small.in_order, small.most)), (IsWord-decimal lag.most (omega (arith, small.most)), tt))

are_watch_words : (version : Version) (lag : Option Lag) → IfSome lag IsValidLag → AllByRecursion IsWord (watch_words version lag)
are_watch_words version None small = (keyword (codes "hidden") refl refl, tt)
are_watch_words version (Some lag) small = (keyword (codes "watch") refl refl, are_lag_words version lag small)

are_node_words : (version : Version) (name : List ℕ) (kind : Kind) → IsTrue (is_name name) → HasValidNumber kind
    → AllByRecursion IsWord (node_words version name kind)
are_node_words version name (Failure rarity) named small =
    (keyword (codes "failure") refl refl, (IsWord-name name named, (IsWord-decimal rarity (omega arith), tt)))
are_node_words version name (Or lag) named small =
    (keyword (codes "or") refl refl, (IsWord-name name named, are_watch_words version lag small))
are_node_words version name (And lag) named small =
    (keyword (codes "and") refl refl, (IsWord-name name named, are_watch_words version lag small))

some_node_words : (version : Version) (name : List ℕ) (kind : Kind) → 0 < length (node_words version name kind)
some_node_words version name (Failure rarity) = omega arith
some_node_words version name (Or lag) = omega arith
some_node_words version name (And lag) = omega arith

-- the word for 0
decimal-zero : decimal 0 ≡ codes "0"
unfolding digits
decimal-zero = refl

-- a version that can spell a kind can say it
sayable_lag : (version : Version) (lag : Option Lag) → IfSome lag (CanSpellLag version) → IfSome (option_map lag_words lag) (CanSayLag version)
sayable_lag version None can = tt
sayable_lag One (Some lag) can = ap decimal can ∙ decimal-zero
sayable_lag Two (Some lag) can = tt

sayable_kind : (version : Version) (name : List ℕ) (kind : Kind) → CanSpell version kind → CanSay version (DeclaresNode name (words_of_kind kind))
sayable_kind version name (Failure rarity) can = tt
sayable_kind version name (Or lag) can = sayable_lag version lag can
sayable_kind version name (And lag) can = sayable_lag version lag can

-- The line of a node says that it declares the node.
pub statement_of-node : (version : Version) (name : List ℕ) (kind : Kind) → IsTrue (is_name name) → HasValidNumber kind → CanSpell version kind
    → statement_of version (line_of (node_words version name kind)) ≡ Some (DeclaresNode name (words_of_kind kind))
statement_of-node version name kind named small can =
    short_line_says version (node_words version name kind) (some_node_words version name kind) (are_node_words version name kind named small)
    (short_node version name kind named small)
    ∙ statement_in-words version (DeclaresNode name (words_of_kind kind)) (sayable_kind version name kind can)

IsWord-tmax : (tmax : Option ℕ) → IfSome tmax (λ time. time ≤ MAX_TIME) → IsWord (tmax_word tmax)
IsWord-tmax None small = keyword (codes "inf") refl refl
IsWord-tmax (Some time) small = IsWord-decimal time (omega arith)

-- The line of an edge says that it declares the edge.
pub statement_of-edge : (version : Version) (source target : List ℕ) (tmin : ℕ) (tmax : Option ℕ) (modes : List ℕ) → IsTrue (is_name source)
    → IsTrue (is_name target) → tmin ≤ MAX_TIME
    → IfSome tmax (λ time. time ≤ MAX_TIME) → IsWord modes
    → length (line_of (codes "edge" ∷ source ∷ target ∷ decimal tmin ∷ tmax_word tmax ∷ modes ∷ [])) ≤ LONGEST_LINE
    → statement_of version (line_of (codes "edge" ∷ source ∷ target ∷ decimal tmin ∷ tmax_word tmax ∷ modes ∷ []))
    ≡ Some (DeclaresEdge source target (decimal tmin) (tmax_word tmax) modes)
statement_of-edge version source target tmin tmax modes from to least greatest word short =
    short_line_says version (codes "edge" ∷ source ∷ target ∷ decimal tmin ∷ tmax_word tmax ∷ modes ∷ []) (omega arith) (
      keyword (codes "edge") refl refl,
      (
        IsWord-name source from,
        (IsWord-name target to, (IsWord-decimal tmin (omega arith), (IsWord-tmax tmax greatest, (word, tt)))),
      ),
    )
    short

-- The last line says that the text ends.
pub statement_of-end : (version : Version) → statement_of version (codes "end") ≡ Some Ends
statement_of-end version = refl

-- a star is a word
pub IsWord-star : IsWord (codes "*")
IsWord-star = keyword (codes "*") refl refl

some_join : (names : List (List ℕ)) → 0 < length names → AllByRecursion (λ name. IsTrue (is_name name)) names
    → (length (join_with_byte 44 names) == 0) ≡ false
some_join [] some named = absurd (omega arith)
some_join (name ∷ []) some named = some_name name named.0
some_join (name ∷ second ∷ others) some named = some_append name (44 ∷ join_with_byte 44 (second ∷ others)) named.0

-- Names with commas between are a word.
pub IsWord-names : (names : List (List ℕ)) → 0 < length names → AllByRecursion (λ name. IsTrue (is_name name)) names
    → IsWord (join_with_byte 44 names)
IsWord-names names some named = record {
  some = some_join names some named;
  lacks = All-join (λ other. eqb other 32 ≡ false) 44 names refl
      (All-weaker (λ name. IsTrue (is_name name)) (Lacks 32) (λ name is. name_lacks 32 name refl is) names
      (All-from_recursion (λ name. IsTrue (is_name name)) names named));
}
