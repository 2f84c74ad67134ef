-- What words say by their shape is what they say keyword by keyword.
use Rattle.std.proofs.Common.{◌≡◌, ℕ, Bool, true, false, List, [], ◌∷◌, Option, Some, None, codes, refl, ap, sym, ◌∙◌, subst}
use Rattle.std.specs.Str.{bytes_eq}
use Rattle.std.specs.Option.{option_map}
use Rattle.std.proofs.lemmas.Slice.Eq.{bytes_eq-Decides}
use Rattle.tfpg_graph.specs.declared.version.Version.{Version}
use Rattle.tfpg_graph.specs.declared.version.Version.TheVariants.{One, Two}
use Rattle.tfpg_graph.specs.Statements.{LagWords, NodeWords, OrWords, AndWords, DeclaresNode, lag_in, node_words_in, statement_in}
use Rattle.tfpg_graph.specs.inside.reading.Shapes.{lag_by_state, statement_by_keyword}

-- what holds where the word is the key, and where it is not
by_key : (P : List ℕ → Type 0) (word key : List ℕ) → P key → (bytes_eq word key ≡ false → P word) → P word
by_key P word key keyed elsewhere = by (bytes_eq word key) refl
  where
    by : (b : Bool) → bytes_eq word key ≡ b → P word
    by true same = subst P (sym ((bytes_eq-Decides word key).0 same)) keyed
    by false differ = elsewhere differ

-- ---- the lag

hidden_lag : (version : Version) (others : List (List ℕ)) → lag_by_state version (codes "hidden" ∷ others) ≡ lag_in version (codes "hidden" ∷ others)
hidden_lag version [] = refl
hidden_lag One (most ∷ []) = refl
hidden_lag One (most ∷ more ∷ others) = refl
hidden_lag Two (least ∷ []) = refl
hidden_lag Two (least ∷ most ∷ []) = refl
hidden_lag Two (least ∷ most ∷ more ∷ others) = refl

watched_lag : (version : Version) (others : List (List ℕ)) → lag_by_state version (codes "watch" ∷ others) ≡ lag_in version (codes "watch" ∷ others)
watched_lag One [] = refl
watched_lag One (most ∷ []) = refl
watched_lag One (most ∷ more ∷ others) = refl
watched_lag Two [] = refl
watched_lag Two (least ∷ []) = refl
watched_lag Two (least ∷ most ∷ []) = refl
watched_lag Two (least ∷ most ∷ more ∷ others) = refl

no_lag : (version : Version) (state : List ℕ) (others : List (List ℕ)) → bytes_eq state (codes "hidden") ≡ false → bytes_eq state (codes "watch") ≡ false
    → lag_by_state version (state ∷ others) ≡ lag_in version (state ∷ others)
no_lag version state [] hidden watch = rw (hidden, watch) refl
no_lag One state (most ∷ []) hidden watch = rw (hidden, watch) refl
no_lag One state (most ∷ more ∷ others) hidden watch = rw (hidden, watch) refl
no_lag Two state (least ∷ []) hidden watch = rw (hidden, watch) refl
no_lag Two state (least ∷ most ∷ []) hidden watch = rw (hidden, watch) refl
no_lag Two state (least ∷ most ∷ more ∷ others) hidden watch = rw (hidden, watch) refl

-- words after a state say the same lag
abbrev SameLag : Version → List (List ℕ) → List ℕ → Type 0
SameLag version others state = lag_by_state version (state ∷ others) ≡ lag_in version (state ∷ others)

-- A discrepancy's last words say the same lag.
pub same_lag : (version : Version) (words : List (List ℕ)) → lag_by_state version words ≡ lag_in version words
same_lag One [] = refl
same_lag Two [] = refl
same_lag version (state ∷ others) =
    by_key (SameLag version others) state (codes "hidden") (hidden_lag version others)
    (λ hidden. by_key (SameLag version others) state (codes "watch") (watched_lag version others)
    (λ watch. no_lag version state others hidden watch))

-- ---- the statement

-- words after a keyword say the same
abbrev Same : Version → List (List ℕ) → List ℕ → Type 0
Same version others keyword = statement_by_keyword version (keyword ∷ others) ≡ statement_in version (keyword ∷ others)

in_two : {A B C : Type 0} (f : A → B) (g : B → C) (o : Option A) → option_map (λ a. g (f a)) o ≡ option_map g (option_map f o)
in_two f g None = refl
in_two f g (Some a) = refl

-- of a discrepancy, after its name
lagged : (version : Version) (with_lag : Option LagWords → NodeWords) (name : List ℕ) (words : List (List ℕ))
    → option_map (λ lag. DeclaresNode name (with_lag lag)) (lag_by_state version words) ≡ option_map (DeclaresNode name) (option_map with_lag (lag_in version words))
lagged version with_lag name words =
    ap (option_map (λ lag. DeclaresNode name (with_lag lag))) (same_lag version words) ∙ in_two with_lag (DeclaresNode name) (lag_in version words)

-- four words after a name are no lag
four_lag : (version : Version) (with_lag : Option LagWords → NodeWords) (name a b c d : List ℕ)
    → option_map (λ lag. DeclaresNode name (with_lag lag)) (lag_by_state version (a ∷ b ∷ c ∷ d ∷ [])) ≡ None
four_lag One with_lag name a b c d = ap (option_map (λ lag. DeclaresNode name (with_lag lag))) (same_lag One (a ∷ b ∷ c ∷ d ∷ []))
four_lag Two with_lag name a b c d = ap (option_map (λ lag. DeclaresNode name (with_lag lag))) (same_lag Two (a ∷ b ∷ c ∷ d ∷ []))

-- nor is there one without a word
no_word_lag : (version : Version) (with_lag : Option LagWords → NodeWords) (name : List ℕ)
    → option_map (λ lag. DeclaresNode name (with_lag lag)) (lag_by_state version []) ≡ None
no_word_lag version with_lag name = refl

same_mode : (version : Version) (others : List (List ℕ)) → Same version others (codes "mode")
same_mode version [] = refl
same_mode version (a ∷ []) = refl
same_mode version (a ∷ b ∷ []) = refl
same_mode version (a ∷ b ∷ c ∷ []) = refl
same_mode version (a ∷ b ∷ c ∷ d ∷ []) = refl
same_mode version (a ∷ b ∷ c ∷ d ∷ e ∷ []) = refl
same_mode version (a ∷ b ∷ c ∷ d ∷ e ∷ f ∷ more) = refl

same_failure : (version : Version) (others : List (List ℕ)) → Same version others (codes "failure")
same_failure version [] = refl
same_failure version (a ∷ []) = refl
same_failure version (a ∷ b ∷ []) = refl
same_failure version (a ∷ b ∷ c ∷ []) = refl
same_failure version (a ∷ b ∷ c ∷ d ∷ []) = refl
same_failure version (a ∷ b ∷ c ∷ d ∷ e ∷ []) = refl
same_failure version (a ∷ b ∷ c ∷ d ∷ e ∷ f ∷ more) = refl

same_or : (version : Version) (others : List (List ℕ)) → Same version others (codes "or")
same_or version [] = refl
same_or version (a ∷ []) = no_word_lag version OrWords a
same_or version (a ∷ b ∷ []) = lagged version OrWords a (b ∷ [])
same_or version (a ∷ b ∷ c ∷ []) = lagged version OrWords a (b ∷ c ∷ [])
same_or version (a ∷ b ∷ c ∷ d ∷ []) = lagged version OrWords a (b ∷ c ∷ d ∷ [])
same_or version (a ∷ b ∷ c ∷ d ∷ e ∷ []) = four_lag version OrWords a b c d e
same_or version (a ∷ b ∷ c ∷ d ∷ e ∷ f ∷ more) = lagged version OrWords a (b ∷ c ∷ d ∷ e ∷ f ∷ more)

same_and : (version : Version) (others : List (List ℕ)) → Same version others (codes "and")
same_and version [] = refl
same_and version (a ∷ []) = no_word_lag version AndWords a
same_and version (a ∷ b ∷ []) = lagged version AndWords a (b ∷ [])
same_and version (a ∷ b ∷ c ∷ []) = lagged version AndWords a (b ∷ c ∷ [])
same_and version (a ∷ b ∷ c ∷ d ∷ []) = lagged version AndWords a (b ∷ c ∷ d ∷ [])
same_and version (a ∷ b ∷ c ∷ d ∷ e ∷ []) = four_lag version AndWords a b c d e
same_and version (a ∷ b ∷ c ∷ d ∷ e ∷ f ∷ more) = lagged version AndWords a (b ∷ c ∷ d ∷ e ∷ f ∷ more)

same_edge : (version : Version) (others : List (List ℕ)) → Same version others (codes "edge")
same_edge version [] = refl
same_edge version (a ∷ []) = refl
same_edge version (a ∷ b ∷ []) = refl
same_edge version (a ∷ b ∷ c ∷ []) = refl
same_edge version (a ∷ b ∷ c ∷ d ∷ []) = refl
same_edge version (a ∷ b ∷ c ∷ d ∷ e ∷ []) = refl
same_edge version (a ∷ b ∷ c ∷ d ∷ e ∷ f ∷ more) = refl

same_end : (version : Version) (others : List (List ℕ)) → Same version others (codes "end")
same_end version [] = refl
same_end version (a ∷ []) = refl
same_end version (a ∷ b ∷ []) = refl
same_end version (a ∷ b ∷ c ∷ []) = refl
same_end version (a ∷ b ∷ c ∷ d ∷ []) = refl
same_end version (a ∷ b ∷ c ∷ d ∷ e ∷ []) = refl
same_end version (a ∷ b ∷ c ∷ d ∷ e ∷ f ∷ more) = refl

-- The word is no keyword.
record IsNoKeyword (word : List ℕ) : Type 0 where
  mode : bytes_eq word (codes "mode") ≡ false
  failure : bytes_eq word (codes "failure") ≡ false
  or_node : bytes_eq word (codes "or") ≡ false
  and_node : bytes_eq word (codes "and") ≡ false
  edge : bytes_eq word (codes "edge") ≡ false
  ends : bytes_eq word (codes "end") ≡ false

-- then nothing is said
nothing_by_keyword : (version : Version) (word : List ℕ) (others : List (List ℕ)) → IsNoKeyword word → statement_by_keyword version (word ∷ others) ≡ None
nothing_by_keyword version word others is = rw (is.mode, is.failure, is.or_node, is.and_node, is.edge, is.ends) refl

no_node_words : (version : Version) (word : List ℕ) (others : List (List ℕ)) → IsNoKeyword word → node_words_in version word others ≡ None
no_node_words version word others is = rw (is.failure, is.or_node, is.and_node) refl

nothing_by_shape : (version : Version) (word : List ℕ) (others : List (List ℕ)) → IsNoKeyword word → statement_in version (word ∷ others) ≡ None
nothing_by_shape version word [] is = rw (is.ends) refl
nothing_by_shape version word (a ∷ []) is = rw (is.mode) refl
nothing_by_shape version word (a ∷ b ∷ []) is = ap (option_map (DeclaresNode a)) (no_node_words version word (b ∷ []) is)
nothing_by_shape version word (a ∷ b ∷ c ∷ []) is = ap (option_map (DeclaresNode a)) (no_node_words version word (b ∷ c ∷ []) is)
nothing_by_shape version word (a ∷ b ∷ c ∷ d ∷ []) is = ap (option_map (DeclaresNode a)) (no_node_words version word (b ∷ c ∷ d ∷ []) is)
nothing_by_shape version word (a ∷ b ∷ c ∷ d ∷ e ∷ []) is = rw (is.edge) refl
nothing_by_shape version word (a ∷ b ∷ c ∷ d ∷ e ∷ f ∷ more) is =
    ap (option_map (DeclaresNode a)) (no_node_words version word (b ∷ c ∷ d ∷ e ∷ f ∷ more) is)

-- Words say the same by their shape and keyword by keyword.
pub same_statement : (version : Version) (words : List (List ℕ)) → statement_by_keyword version words ≡ statement_in version words
same_statement version [] = refl
same_statement version (keyword ∷ others) =
    by_key (Same version others) keyword (codes "mode") (same_mode version others)
    (λ mode. by_key (Same version others) keyword (codes "failure") (same_failure version others)
    (λ failure. by_key (Same version others) keyword (codes "or") (same_or version others)
    (λ or_node. by_key (Same version others) keyword (codes "and") (same_and version others)
    (λ and_node. by_key (Same version others) keyword (codes "edge") (same_edge version others)
    (λ edge. by_key (Same version others) keyword (codes "end") (same_end version others)
    (λ ends. let is : IsNoKeyword keyword = record { mode = mode; failure = failure; or_node = or_node; and_node = and_node; edge = edge; ends = ends } in
    nothing_by_keyword version keyword others is ∙ sym (nothing_by_shape version keyword others is)))))))
