-- What the words of the lines of a map say.
use Rattle.std.proofs.Common.{◌≡◌, ℕ, ◌≤◌, Bool, true, false, cond, List, [], ◌∷◌, leb, Option, Some, None, codes, refl, ap, sym, ◌∙◌, arith}
use Rattle.std.specs.Prelude.{decimal, IfSome}
use Rattle.std.specs.List.{join_with_byte}
use Rattle.std.specs.Str.{bytes_eq}
use Rattle.std.proofs.lemmas.Bool.Decides.{nat_tests}
use Rattle.std.proofs.lemmas.Option.{same_Some}
use Rattle.std.proofs.lemmas.Slice.Eq.{bytes_eq-Decides}
use Rattle.tfpg_base.specs.Hypothesis.{Hypothesis}
use Rattle.tfpg_base.specs.declared.activation.Activation.{Activation}
use Rattle.tfpg_base.specs.declared.word.Number.TheVariants.{Value, TooLarge}
use Rattle.tfpg_base.specs.declared.limits.TheConstants.{MAX_TIME}
use Rattle.tfpg_base.specs.Words.{words_of, line_of, number_of, number_up_to}
use Rattle.tfpg_base.proofs.lemmas.Numbers.{number_of-decimal, decimal-number_of, number_up_to-value}
use Rattle.tfpg_base.proofs.lemmas.Separators.{join_with_byte-words_of}
use Rattle.tfpg_base.proofs.lemmas.lists.Lacking.{lacks_checked, slice_split-join}
use Rattle.tfpg_graph.specs.Graph.{Tfpg, name_word}
use Rattle.tfpg_graph.specs.Valid.{IsValid}
use Rattle.tfpg_report.specs.inside.LineNames.{activation_line}
use Rattle.tfpg_report.specs.SetText.{IsHypothesisOf, set_word}
use Rattle.tfpg_report.proofs.lemmas.ActivationLines.{IsInRange, activation_words, one_activation}
use Rattle.tfpg_report.proofs.lemmas.SetWords.{set_word-no_space}
use Rattle.tfpg_map.specs.Spelling.{IsActivationOf, set_line}
use Rattle.tfpg_map.specs.inside.Lines.{word_after_set, words_after_at}

-- ---- words and lines

-- the words of a line that is read as that of an activation
words_are-at : (words : List (List ℕ)) (read : List ℕ × List ℕ) → words_after_at words ≡ Some read → words ≡ codes "at" ∷ read.0 ∷ read.1 ∷ []
words_are-at [] read e = absurd cc
words_are-at (keyword ∷ []) read e = absurd cc
words_are-at (keyword ∷ name ∷ []) read e = absurd cc
words_are-at (keyword ∷ name ∷ time ∷ []) read e = by (bytes_eq keyword (codes "at")) refl e
  where
    by : (b : Bool) → bytes_eq keyword (codes "at") ≡ b → cond b (Some (name, time)) None ≡ Some read → keyword ∷ name ∷ time ∷ [] ≡ codes "at" ∷ read.0 ∷ read.1 ∷ []
    by true is same =
        ap (λ (word : List ℕ). word ∷ name ∷ time ∷ []) ((bytes_eq-Decides keyword (codes "at")).0 is)
        ∙ ap (λ (words : List ℕ × List ℕ). codes "at" ∷ words.0 ∷ words.1 ∷ []) (same_Some (name, time) read same)
    by false is same = absurd cc
words_are-at (keyword ∷ name ∷ time ∷ more ∷ others) read e = absurd cc

-- the words of a line that is read as that of a set
words_are-set : (words : List (List ℕ)) (read : List ℕ) → word_after_set words ≡ Some read → words ≡ codes "set" ∷ read ∷ []
words_are-set [] read e = absurd cc
words_are-set (keyword ∷ []) read e = absurd cc
words_are-set (keyword ∷ word ∷ []) read e = by (bytes_eq keyword (codes "set")) refl e
  where
    by : (b : Bool) → bytes_eq keyword (codes "set") ≡ b → cond b (Some word) None ≡ Some read → keyword ∷ word ∷ [] ≡ codes "set" ∷ read ∷ []
    by true is same =
        ap (λ (k : List ℕ). k ∷ word ∷ []) ((bytes_eq-Decides keyword (codes "set")).0 is) ∙ ap (λ (w : List ℕ). codes "set" ∷ w ∷ []) (same_Some word read same)
    by false is same = absurd cc
words_are-set (keyword ∷ word ∷ more ∷ others) read e = absurd cc

-- a line that is read as that of an activation
pub line_is-at : (line name time : List ℕ) → words_after_at (words_of line) ≡ Some (name, time) → line ≡ line_of (codes "at" ∷ name ∷ time ∷ [])
line_is-at line name time e = sym (join_with_byte-words_of line) ∙ ap (join_with_byte 32) (words_are-at (words_of line) (name, time) e)

-- a line that is read as that of a set
pub line_is-set : (line word : List ℕ) → word_after_set (words_of line) ≡ Some word → line ≡ line_of (codes "set" ∷ word ∷ [])
line_is-set line word e = sym (join_with_byte-words_of line) ∙ ap (join_with_byte 32) (words_are-set (words_of line) word e)

-- a number up to the greatest time is read as it is
pub time_read : (time : ℕ) → time ≤ MAX_TIME → number_up_to MAX_TIME (number_of (decimal time)) ≡ Value time
time_read time within = ap (number_up_to MAX_TIME) (number_of-decimal time (omega (arith, within))) ∙ by (leb time MAX_TIME) refl
  where
    by : (b : Bool) → leb time MAX_TIME ≡ b → cond b (Value time) TooLarge ≡ Value time
    by true is = refl
    by false is = absurd (grind (arith, nat_tests))

-- a word that is read as a time up to the greatest one
pub time_spelled : (word : List ℕ) (time : ℕ) → number_up_to MAX_TIME (number_of word) ≡ Value time → (word ≡ decimal time) × (time ≤ MAX_TIME)
time_spelled word time e =
    let read = number_up_to-value MAX_TIME time (number_of word) e in
    (decimal-number_of word time read.0 (omega (arith, read.1)), read.1)

module _ (graph : Tfpg) (valid : IsValid graph) where
  -- an activation of the graph is in range
  pub is_in_range : (activation : Activation) → IsActivationOf graph activation → IsInRange graph valid activation
  is_in_range activation of = record { node = of.in_graph; time = of.in_range }

  -- the line of an activation is read so
  pub activation_line-read : (activation : Activation) → IsActivationOf graph activation → words_after_at (words_of (activation_line graph activation)) ≡ Some (name_word graph activation.node, decimal activation.time)
  activation_line-read activation of = ap words_after_at (activation_words graph valid activation (is_in_range activation of))

  -- two lines of activations that are the same are of one node
  pub one_node : (one other : Activation) → IsActivationOf graph one → IsActivationOf graph other → activation_line graph one ≡ activation_line graph other → one.node ≡ other.node
  one_node one other of too same = ap (λ (activation : Activation). activation.node) (one_activation graph valid one other (is_in_range one of) (is_in_range other too) same)

-- ---- the line of a set

-- the line of a set is read so
pub set_line-read : (graph : Tfpg) → IsValid graph → (hypothesis : Hypothesis) → IsHypothesisOf graph hypothesis → word_after_set (words_of (set_line graph hypothesis)) ≡ Some (set_word graph hypothesis)
set_line-read graph valid hypothesis of =
    ap word_after_set (slice_split-join 32 (codes "set" ∷ set_word graph hypothesis ∷ []) (omega arith)
    (lacks_checked 32 (codes "set") refl, (set_word-no_space graph valid hypothesis of, tt)))

-- ---- as the code comes to it

module _ (graph : Tfpg) (valid : IsValid graph) (line : List ℕ) where
  -- a line that is not read as that of an activation spells none
  pub no_activation-unread : words_after_at (words_of line) ≡ None → (activation : Activation) → IsActivationOf graph activation → line ≡ activation_line graph activation → ⊥
  no_activation-unread unread activation of e =
      let same = sym unread ∙ ap (λ l. words_after_at (words_of l)) e ∙ activation_line-read graph valid activation of in
      cc

  -- nor does one whose words are those of no activation
  pub no_activation-read : (name time : List ℕ) → words_after_at (words_of line) ≡ Some (name, time)
      → ((activation : Activation) → IsActivationOf graph activation → name ≡ name_word graph activation.node → time ≡ decimal activation.time → ⊥)
      → (activation : Activation) → IsActivationOf graph activation → line ≡ activation_line graph activation → ⊥
  no_activation-read name time read none activation of e =
      let words = same_Some _ _ (sym read ∙ ap (λ l. words_after_at (words_of l)) e ∙ activation_line-read graph valid activation of) in
      none activation of (ap (λ (w : List ℕ × List ℕ). w.0) words) (ap (λ (w : List ℕ × List ℕ). w.1) words)

  -- a line that is not read as that of a set spells none
  pub no_set-unread : word_after_set (words_of line) ≡ None → (hypothesis : Hypothesis) → IsHypothesisOf graph hypothesis → line ≡ set_line graph hypothesis → ⊥
  no_set-unread unread hypothesis of e =
      let same = sym unread ∙ ap (λ l. word_after_set (words_of l)) e ∙ set_line-read graph valid hypothesis of in
      cc

  -- nor does one whose word spells none
  pub no_set-read : (word : List ℕ) → word_after_set (words_of line) ≡ Some word → ((hypothesis : Hypothesis) → IsHypothesisOf graph hypothesis → word ≡ set_word graph hypothesis → ⊥)
      → (hypothesis : Hypothesis) → IsHypothesisOf graph hypothesis → line ≡ set_line graph hypothesis → ⊥
  no_set-read word read none hypothesis of e =
      none hypothesis of (same_Some _ _ (sym read ∙ ap (λ l. word_after_set (words_of l)) e ∙ set_line-read graph valid hypothesis of))

-- a line whose words are those of an activation spells it
pub activation_spelled : (graph : Tfpg) (line name time : List ℕ) (result : Option Activation) → words_after_at (words_of line) ≡ Some (name, time)
    → IfSome result (λ activation. IsActivationOf graph activation × (name ≡ name_word graph activation.node) × (time ≡ decimal activation.time))
    → IfSome result (λ activation. IsActivationOf graph activation × (line ≡ activation_line graph activation))
activation_spelled graph line name time None read h = tt
activation_spelled graph line name time (Some activation) read h = (
  h.0,
  line_is-at line name time read ∙ ap (λ (n : List ℕ). line_of (codes "at" ∷ n ∷ time ∷ [])) h.1
      ∙ ap (λ (t : List ℕ). line_of (codes "at" ∷ name_word graph activation.node ∷ t ∷ [])) h.2,
)

-- a line whose word spells a set
pub set_line_spelled : (graph : Tfpg) (line word : List ℕ) (hypothesis : Hypothesis) → word_after_set (words_of line) ≡ Some word → word ≡ set_word graph hypothesis
    → line ≡ set_line graph hypothesis
set_line_spelled graph line word hypothesis read e = line_is-set line word read ∙ ap (λ (w : List ℕ). line_of (codes "set" ∷ w ∷ [])) e
