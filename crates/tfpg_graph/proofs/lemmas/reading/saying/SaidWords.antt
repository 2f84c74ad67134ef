-- A line that says something has the words of what it says.
use Rattle.std.proofs.Common.{◌≡◌, ℕ, ◌≤◌, Bool, true, false, cond, List, [], ◌∷◌, length, Option, Some, None, IfSome, codes, refl, ap, sym, ◌∙◌, subst}
use Rattle.std.specs.Str.{bytes_eq}
use Rattle.std.specs.List.{onto_first}
use Rattle.std.specs.Option.{option_map}
use Rattle.std.proofs.lemmas.Bool.{ltb-false, eqb-true, cond_both}
use Rattle.std.proofs.lemmas.Option.{same_Some}
use Rattle.tfpg_base.proofs.lemmas.lists.Choices.{option_map-some, cond-some_second}
use Rattle.std.proofs.lemmas.Slice.Eq.{bytes_eq-Decides}
use Rattle.tfpg_base.specs.Words.{line_of, words_of, has_empty_word}
use Rattle.tfpg_base.specs.declared.limits.TheConstants.{LONGEST_LINE}
use Rattle.tfpg_base.proofs.lemmas.Separators.{join_with_byte-words_of}
use Rattle.tfpg_base.specs.Lines.{is_too_long}
use Rattle.tfpg_graph.specs.declared.version.Version.{Version}
use Rattle.tfpg_graph.specs.declared.version.Version.TheVariants.{One, Two}
use Rattle.tfpg_graph.specs.Statements.{is_empty_or_comment, LagWords, NodeWords, FailureWords, OrWords, AndWords, Statement, DeclaresMode, DeclaresNode, DeclaresEdge, Ends, words_of_lag, words_of_watch, words_of_node, words_of_statement, lag_words_of, CanSayLag, CanSay, statement_in, statement_of}
use Rattle.tfpg_graph.specs.inside.reading.Shapes.{watched_in, hidden_in, lag_by_state, mode_in, failure_in, discrepancy_in, edge_in, end_in, statement_by_keyword}
use Rattle.tfpg_graph.proofs.lemmas.reading.saying.KeywordShapes.{same_statement}

-- ---- laws of choices

-- a choice by the first word: where the word is the key, its way gives the value, and else the other way
keyword_chosen : {X : Type 0} (P : List (List ℕ) → Type 0) (word key : List ℕ) (others : List (List ℕ)) (here other : Option X) (said : X)
    → cond (bytes_eq word key) here other ≡ Some said → (here ≡ Some said → P (key ∷ others))
    → (other ≡ Some said → P (word ∷ others)) → P (word ∷ others)
keyword_chosen P word key others here other said some keyed elsewhere = by (bytes_eq word key) refl some
  where
    by : (b : Bool) → bytes_eq word key ≡ b → cond b here other ≡ Some said → P (word ∷ others)
    by true same some = subst (λ (first : List ℕ). P (first ∷ others)) (sym ((bytes_eq-Decides word key).0 same)) (keyed some)
    by false differ some = elsewhere some

-- ---- the words of a statement say it

watched_in-words : (version : Version) (lag : LagWords) → CanSayLag version lag → watched_in version (words_of_lag version lag) ≡ Some (Some lag)
watched_in-words One lag sayable = ap (λ least. Some (Some (record { least = least; most = lag.most }))) (sym sayable)
watched_in-words Two lag sayable = refl

lag_by_state-words : (version : Version) (lag : Option LagWords) → IfSome lag (CanSayLag version) → lag_by_state version (words_of_watch version lag) ≡ Some lag
lag_by_state-words version None sayable = refl
lag_by_state-words version (Some lag) sayable = watched_in-words version lag sayable

statement_by_keyword-node : (version : Version) (name : List ℕ) (words : NodeWords) → IfSome (lag_words_of words) (CanSayLag version)
    → statement_by_keyword version (words_of_node version name words) ≡ Some (DeclaresNode name words)
statement_by_keyword-node version name (FailureWords rarity) sayable = refl
statement_by_keyword-node version name (OrWords lag) sayable = ap (option_map (λ l. DeclaresNode name (OrWords l))) (lag_by_state-words version lag sayable)
statement_by_keyword-node version name (AndWords lag) sayable = ap (option_map (λ l. DeclaresNode name (AndWords l))) (lag_by_state-words version lag sayable)

-- The words of a statement say it, where the version can say it.
pub statement_in-words : (version : Version) (said : Statement) → CanSay version said
    → statement_in version (words_of_statement version said) ≡ Some said
statement_in-words version (DeclaresMode name) sayable = refl
statement_in-words version (DeclaresNode name words) sayable =
    sym (same_statement version (words_of_node version name words)) ∙ statement_by_keyword-node version name words sayable
statement_in-words version (DeclaresEdge source target tmin tmax modes) sayable = refl
statement_in-words version Ends sayable = refl

-- ---- what is said has the words of its shape

-- The words are those of the lag, and the version can say it.
record SayLag (version : Version) (words : List (List ℕ)) (lag : Option LagWords) : Type 0 where
  words_are : words ≡ words_of_watch version lag
  sayable : IfSome lag (CanSayLag version)

watched_in_words : (version : Version) (words : List (List ℕ)) (lag : Option LagWords) → watched_in version words ≡ Some lag
    → SayLag version (codes "watch" ∷ words) lag
watched_in_words One [] lag some = absurd cc
watched_in_words One (most ∷ []) lag some =
    subst (SayLag One (codes "watch" ∷ most ∷ [])) (same_Some (Some (record { least = codes "0"; most = most })) lag some)
    (record { words_are = refl; sayable = refl })
watched_in_words One (most ∷ more ∷ others) lag some = absurd cc
watched_in_words Two [] lag some = absurd cc
watched_in_words Two (least ∷ []) lag some = absurd cc
watched_in_words Two (least ∷ most ∷ []) lag some =
    subst (SayLag Two (codes "watch" ∷ least ∷ most ∷ [])) (same_Some (Some (record { least = least; most = most })) lag some)
    (record { words_are = refl; sayable = tt })
watched_in_words Two (least ∷ most ∷ more ∷ others) lag some = absurd cc

hidden_in_words : (version : Version) (words : List (List ℕ)) (lag : Option LagWords) → hidden_in words ≡ Some lag
    → SayLag version (codes "hidden" ∷ words) lag
hidden_in_words version [] lag some =
    subst (SayLag version (codes "hidden" ∷ [])) (same_Some None lag some) (record { words_are = refl; sayable = tt })
hidden_in_words version (more ∷ others) lag some = absurd cc

lag_in_words : (version : Version) (words : List (List ℕ)) (lag : Option LagWords) → lag_by_state version words ≡ Some lag → SayLag version words lag
lag_in_words version [] lag some = absurd cc
lag_in_words version (state ∷ others) lag some =
    keyword_chosen (λ words. SayLag version words lag) state (codes "hidden") others (hidden_in others) _ lag some (hidden_in_words version others lag)
    (λ some. keyword_chosen (λ words. SayLag version words lag) state (codes "watch") others (watched_in version others) None lag some (watched_in_words version others lag)
    (λ none. absurd cc))

-- The words are those of the statement, and the version can say it.
pub record Say (version : Version) (words : List (List ℕ)) (said : Statement) : Type 0 where
  pub words_are : words ≡ words_of_statement version said
  pub sayable : CanSay version said

module _ (version : Version) where
  mode_in_words : (words : List (List ℕ)) (said : Statement) → mode_in words ≡ Some said → Say version (codes "mode" ∷ words) said
  mode_in_words [] said some = absurd cc
  mode_in_words (name ∷ []) said some =
      subst (Say version (codes "mode" ∷ name ∷ [])) (same_Some (DeclaresMode name) said some) (record { words_are = refl; sayable = tt })
  mode_in_words (name ∷ more ∷ others) said some = absurd cc

  failure_in_words : (words : List (List ℕ)) (said : Statement) → failure_in words ≡ Some said → Say version (codes "failure" ∷ words) said
  failure_in_words [] said some = absurd cc
  failure_in_words (name ∷ []) said some = absurd cc
  failure_in_words (name ∷ rarity ∷ []) said some =
      subst (Say version (codes "failure" ∷ name ∷ rarity ∷ [])) (same_Some (DeclaresNode name (FailureWords rarity)) said some)
      (record { words_are = refl; sayable = tt })
  failure_in_words (name ∷ rarity ∷ more ∷ others) said some = absurd cc

  -- of a discrepancy, whose keyword this is
  discrepancy_in_words : (key : List ℕ) (with_lag : Option LagWords → NodeWords)
      → ((name : List ℕ) (lag : Option LagWords) → words_of_node version name (with_lag lag) ≡ key ∷ name ∷ words_of_watch version lag)
      → ((lag : Option LagWords) → lag_words_of (with_lag lag) ≡ lag)
      → (words : List (List ℕ)) (said : Statement) → discrepancy_in version with_lag words ≡ Some said → Say version (key ∷ words) said
  discrepancy_in_words key with_lag keyed lagged [] said some = absurd cc
  discrepancy_in_words key with_lag keyed lagged (name ∷ others) said some =
      let is = option_map-some (λ lag. DeclaresNode name (with_lag lag)) (lag_by_state version others) said some in
      let lag = lag_in_words version others is.0 is.1 in
      subst (Say version (key ∷ name ∷ others)) is.2 (record {
        words_are = ap (λ words. key ∷ name ∷ words) lag.words_are ∙ sym (keyed name is.0);
        sayable = subst (λ (o : Option LagWords). IfSome o (CanSayLag version)) (sym (lagged is.0)) lag.sayable;
      })

  edge_in_words : (words : List (List ℕ)) (said : Statement) → edge_in words ≡ Some said → Say version (codes "edge" ∷ words) said
  edge_in_words [] said some = absurd cc
  edge_in_words (source ∷ []) said some = absurd cc
  edge_in_words (source ∷ target ∷ []) said some = absurd cc
  edge_in_words (source ∷ target ∷ tmin ∷ []) said some = absurd cc
  edge_in_words (source ∷ target ∷ tmin ∷ tmax ∷ []) said some = absurd cc
  edge_in_words (source ∷ target ∷ tmin ∷ tmax ∷ modes ∷ []) said some =
      subst (Say version (codes "edge" ∷ source ∷ target ∷ tmin ∷ tmax ∷ modes ∷ [])) (same_Some (DeclaresEdge source target tmin tmax modes) said some)
      (record { words_are = refl; sayable = tt })
  edge_in_words (source ∷ target ∷ tmin ∷ tmax ∷ modes ∷ more ∷ others) said some = absurd cc

  end_in_words : (words : List (List ℕ)) (said : Statement) → end_in words ≡ Some said → Say version (codes "end" ∷ words) said
  end_in_words [] said some = subst (Say version (codes "end" ∷ [])) (same_Some Ends said some) (record { words_are = refl; sayable = tt })
  end_in_words (more ∷ others) said some = absurd cc

  statement_by_keyword_words : (words : List (List ℕ)) (said : Statement) → statement_by_keyword version words ≡ Some said → Say version words said
  statement_by_keyword_words [] said some = absurd cc
  statement_by_keyword_words (keyword ∷ others) said some =
      chosen (codes "mode") (mode_in others) _ some (mode_in_words others said)
      (λ some. chosen (codes "failure") (failure_in others) _ some (failure_in_words others said)
      (λ some. chosen (codes "or") (discrepancy_in version OrWords others) _ some (discrepancy_in_words (codes "or") OrWords (λ _ _. refl) (λ _. refl) others said)
      (λ some. chosen (codes "and") (discrepancy_in version AndWords others) _ some (discrepancy_in_words (codes "and") AndWords (λ _ _. refl) (λ _. refl) others said)
      (λ some. chosen (codes "edge") (edge_in others) _ some (edge_in_words others said)
      (λ some. chosen (codes "end") (end_in others) None some (end_in_words others said)
      (λ none. absurd cc))))))
    where
      chosen : (key : List ℕ) (here other : Option Statement) → cond (bytes_eq keyword key) here other ≡ Some said
          → (here ≡ Some said → Say version (key ∷ others) said) → (other ≡ Some said → Say version (keyword ∷ others) said)
          → Say version (keyword ∷ others) said
      chosen key here other = keyword_chosen (λ words. Say version words said) keyword key others here other said

  -- words of a shape are the words of what they say
  pub statement_in_words : (words : List (List ℕ)) (said : Statement) → statement_in version words ≡ Some said → Say version words said
  statement_in_words words said some = statement_by_keyword_words words said (same_statement version words ∙ some)

  -- A line that says something is not too long, and is the words of what it says, which the version can say.
  pub said_by_words : (line : List ℕ) (said : Statement) → statement_of version line ≡ Some said
      → (length line ≤ LONGEST_LINE) × (line ≡ line_of (words_of_statement version said)) × CanSay version said
  said_by_words line said some =
      let short = cond-some_second _ _ said some in
      let shaped = cond-some_second _ _ said short.1 in
      let words = statement_in_words (words_of line) said shaped.1 in
      (ltb-false LONGEST_LINE (length line) short.0, sym (join_with_byte-words_of line) ∙ ap line_of words.words_are, words.sayable)

  -- ---- lines that are skipped

  -- no keyword begins with a number sign
  no_keyword : (parts : List (List ℕ)) → statement_in version (onto_first 35 parts) ≡ None
  no_keyword [] = refl
  no_keyword (part ∷ parts) = sym (same_statement version ((35 ∷ part) ∷ parts))

  -- A line that is skipped says nothing.
  pub skipped_says_nothing : (line : List ℕ) → is_empty_or_comment line ≡ true → statement_of version line ≡ None
  skipped_says_nothing [] skipped = refl
  skipped_says_nothing (first ∷ others) skipped =
      let sign : first ≡ 35 = eqb-true first 35 skipped in
      let words = words_of (first ∷ others) in
      cond_both (is_too_long (first ∷ others)) None (cond (has_empty_word words) None (statement_in version words)) (λ (said : Option Statement). said ≡ None) (λ long. refl)
      (λ short. cond_both (has_empty_word words) None (statement_in version words) (λ (said : Option Statement). said ≡ None) (λ empty. refl)
      (λ full. ap (λ byte. statement_in version (words_of (byte ∷ others))) sign ∙ no_keyword (words_of others)))
