-- A line end after a JSON text changes none of its tokens.
use Rattle.std.proofs.Common.{◌≡◌, ℕ, Bool, true, false, cond, List, [], ◌∷◌, ◌++◌, refl, sym, ap, ap₂, ◌∙◌, append_assoc, append-nil}
use Rattle.std.specs.Prelude.{◌&&◌}
use Rattle.json.specs.Token.{Token, begin_object, end_object, begin_array, end_array, key, string, number, boolean, null, bad}
use Rattle.json.specs.Word.{ends_word, word}
use Rattle.json.specs.Lex.{token, comma, colon, string_token, lex, between, fresh, punctuate, tokens}
use Rattle.json.specs.Print.{escape, quoted, token_text, begins, ends, separator, print_from, print, IsPrintable, ArePrintable}
use Rattle.json.proofs.Printed.Strings.{content-escape, lex-escape}
use Rattle.json.proofs.Printed.Numbers.{lex-number, in_word-ended}

-- a text before another
lex-quoted : (text after : List ℕ) → lex between (quoted text ++ after) ≡ token (string text) ∷ lex between after
unfolding lex
lex-quoted text after =
    ap (λ (rest : List ℕ). lex between (34 ∷ rest)) (append_assoc (escape text) (34 ∷ []) after)
    ∙ ap₂ (λ found rest. token (string_token found) ∷ rest) (content-escape text after) (lex-escape text after)

-- A token before two texts that are read alike.
lex-token : (t : Token) (one other : List ℕ) → IsPrintable t → (ends t ≡ true → ends_word one ≡ true) → (ends t ≡ true → ends_word other ≡ true) → lex between one ≡ lex between other
    → lex between (token_text t ++ one) ≡ lex between (token_text t ++ other)
unfolding lex word
lex-token begin_object one other is ended too same = ap (λ rest. token begin_object ∷ rest) same
lex-token end_object one other is ended too same = ap (λ rest. token end_object ∷ rest) same
lex-token begin_array one other is ended too same = ap (λ rest. token begin_array ∷ rest) same
lex-token end_array one other is ended too same = ap (λ rest. token end_array ∷ rest) same
lex-token (key text) one other is ended too same =
    ap (lex between) (append_assoc (quoted text) (58 ∷ []) one) ∙ lex-quoted text (58 ∷ one)
    ∙ ap (λ rest. token (string text) ∷ colon ∷ rest) same
    ∙ sym (ap (lex between) (append_assoc (quoted text) (58 ∷ []) other) ∙ lex-quoted text (58 ∷ other))
lex-token (string text) one other is ended too same = lex-quoted text one ∙ ap (λ rest. token (string text) ∷ rest) same ∙ sym (lex-quoted text other)
lex-token (number text) one other is ended too same =
    lex-number text one is (ended refl) ∙ ap (λ rest. token (number text) ∷ rest) same ∙ sym (lex-number text other is (too refl))
lex-token (boolean true) one other is ended too same =
    ap₂ (λ b rest. token (cond b (boolean true) bad) ∷ rest) (ended refl) (in_word-ended one (ended refl) ∙ same)
    ∙ sym (ap₂ (λ b rest. token (cond b (boolean true) bad) ∷ rest) (too refl) (in_word-ended other (too refl)))
lex-token (boolean false) one other is ended too same =
    ap₂ (λ b rest. token (cond b (boolean false) bad) ∷ rest) (ended refl) (in_word-ended one (ended refl) ∙ same)
    ∙ sym (ap₂ (λ b rest. token (cond b (boolean false) bad) ∷ rest) (too refl) (in_word-ended other (too refl)))
lex-token null one other is ended too same =
    ap₂ (λ b rest. token (cond b null bad) ∷ rest) (ended refl) (in_word-ended one (ended refl) ∙ same)
    ∙ sym (ap₂ (λ b rest. token (cond b null bad) ∷ rest) (too refl) (in_word-ended other (too refl)))
lex-token bad one other is ended too same = absurd is

lex-separator : (b : Bool) (one other : List ℕ) → lex between one ≡ lex between other → lex between (cond b (44 ∷ []) [] ++ one) ≡ lex between (cond b (44 ∷ []) [] ++ other)
unfolding lex
lex-separator true one other same = ap (λ rest. comma ∷ rest) same
lex-separator false one other same = same

module _ (after : List ℕ) (ended : ends_word after ≡ true) where
  -- after a value stands what ends a word
  value_ends : (ts : List Token) → ends_word (print_from true ts ++ after) ≡ true
  unfolding print_from
  value_ends [] = ended
  value_ends (begin_object ∷ ts) = refl
  value_ends (end_object ∷ ts) = refl
  value_ends (begin_array ∷ ts) = refl
  value_ends (end_array ∷ ts) = refl
  value_ends (key text ∷ ts) = refl
  value_ends (string text ∷ ts) = refl
  value_ends (number text ∷ ts) = refl
  value_ends (boolean b ∷ ts) = refl
  value_ends (null ∷ ts) = refl
  value_ends (bad ∷ ts) = refl

module _ (one other : List ℕ) (ended : ends_word one ≡ true) (too : ends_word other ≡ true) (same : lex between one ≡ lex between other) where
  -- tokens before two texts that are read alike
  lex-tokens : (c : Bool) (ts : List Token) → ArePrintable ts → lex between (print_from c ts ++ one) ≡ lex between (print_from c ts ++ other)
  unfolding print_from ArePrintable
  lex-tokens c [] are = same
  lex-tokens c (t ∷ ts) are =
      let rest = print_from (ends t) ts in
      let grouped = λ (after : List ℕ). append_assoc (separator c t) (token_text t ++ rest) after ∙ ap (λ (text : List ℕ). separator c t ++ text) (append_assoc (token_text t) rest after) in
      ap (lex between) (grouped one)
      ∙ lex-separator (c && begins t) (token_text t ++ (rest ++ one)) (token_text t ++ (rest ++ other))
      (lex-token t (rest ++ one) (rest ++ other) are.0
      (λ e. ap (λ b. ends_word (print_from b ts ++ one)) e ∙ value_ends one ended ts)
      (λ e. ap (λ b. ends_word (print_from b ts ++ other)) e ∙ value_ends other too ts)
      (lex-tokens (ends t) ts are.1))
      ∙ sym (ap (lex between) (grouped other))

-- A line end after what is printed leaves its tokens.
pub tokens-line_end : (ts : List Token) → ArePrintable ts → tokens (print ts ++ 10 ∷ []) ≡ tokens (print ts)
unfolding lex
tokens-line_end ts are = ap (punctuate fresh) (lex-tokens (10 ∷ []) [] refl refl refl false ts are ∙ ap (lex between) (append-nil (print ts)))
