-- The text of a set: what its parts are, which bytes it lacks, and that it is of one hypothesis.
use Rattle.std.proofs.Common.{◌≡◌, ℕ, ◌<◌, false, eqb, List, [], ◌∷◌, ◌++◌, length, map, All, IsTrue, codes, refl, sym, ap, ◌∙◌, arith}
use Rattle.std.specs.List.{AllByRecursion}
use Rattle.std.proofs.lemmas.List.Elements.{All-cons, All-head, All-nil, All-tail, All-weaker}
use Rattle.tfpg_base.specs.Hypothesis.{Hypothesis}
use Rattle.tfpg_base.specs.Words.{comma_parts, is_name_byte}
use Rattle.tfpg_base.proofs.lemmas.lists.Images.{map-injective}
use Rattle.tfpg_base.proofs.lemmas.lists.Joined.{All-join}
use Rattle.tfpg_base.proofs.lemmas.lists.Lacking.{Lacks, slice_split-join}
use Rattle.tfpg_graph.specs.Graph.{Tfpg, failures, failure_word, is_monitored}
use Rattle.tfpg_graph.specs.Valid.{IsValid}
use Rattle.tfpg_report.specs.SetText.{IsHypothesisOf, hyphen_or_joined, set_word}
use Rattle.tfpg_graph.specs.Members.{doubt_word, member_words}
use Rattle.tfpg_report.proofs.lemmas.MemberWords.{IsMemberWord, failure_not_doubt, member_lacks, member_not_hyphen, member_words_are, one_doubt, one_failure}

-- ---- words with commas between

words_lack : (byte : ℕ) (words : List (List ℕ)) → is_name_byte byte ≡ false → eqb 33 byte ≡ false → All IsMemberWord words → AllByRecursion (Lacks byte) words
words_lack byte [] no_name no_mark are = tt
words_lack byte (word ∷ words) no_name no_mark are = (
  member_lacks byte word no_name no_mark (All-head IsMemberWord word words are),
  words_lack byte words no_name no_mark (All-tail IsMemberWord word words are),
)

-- the parts of words that are joined are those words
joined_parts : (word : List ℕ) (words : List (List ℕ)) → All IsMemberWord (word ∷ words) → comma_parts (hyphen_or_joined (word ∷ words)) ≡ word ∷ words
joined_parts word words are = slice_split-join 44 (word ∷ words) (omega arith) (words_lack 44 (word ∷ words) refl refl are)

-- they are no hyphen
joined_not_hyphen : (word : List ℕ) (words : List (List ℕ)) → All IsMemberWord (word ∷ words) → hyphen_or_joined (word ∷ words) ≡ codes "-" → ⊥
joined_not_hyphen word words are e =
    let same : word ∷ words ≡ codes "-" ∷ [] = sym (joined_parts word words are) ∙ ap comma_parts e in
    let first : word ≡ codes "-" = cc in
    member_not_hyphen word (All-head IsMemberWord word words are) first

-- and of one list
one_list : (words more : List (List ℕ)) → All IsMemberWord words → All IsMemberWord more → hyphen_or_joined words ≡ hyphen_or_joined more → words ≡ more
one_list [] [] are too e = refl
one_list [] (next ∷ more) are too e = absurd (joined_not_hyphen next more too (sym e))
one_list (word ∷ words) [] are too e = absurd (joined_not_hyphen word words are e)
one_list (word ∷ words) (next ∷ more) are too e = sym (joined_parts word words are) ∙ ap comma_parts e ∙ joined_parts next more too

joined_lacks : (byte : ℕ) (words : List (List ℕ)) → is_name_byte byte ≡ false → eqb 33 byte ≡ false → eqb 44 byte ≡ false → eqb 45 byte ≡ false → All IsMemberWord words
    → Lacks byte (hyphen_or_joined words)
joined_lacks byte [] no_name no_mark no_comma no_hyphen are = All-cons (λ other. eqb other byte ≡ false) 45 [] no_hyphen (All-nil (λ other. eqb other byte ≡ false))
joined_lacks byte (word ∷ words) no_name no_mark no_comma no_hyphen are =
    All-join (λ other. eqb other byte ≡ false) 44 (word ∷ words) no_comma
    (All-weaker IsMemberWord (Lacks byte) (λ w is. member_lacks byte w no_name no_mark is) (word ∷ words) are)

-- ---- two lists of members

module _ {X : Type 0} (f g : ℕ → X) (P Q : ℕ → Type 0) (one_f : (a b : ℕ) → P a → P b → f a ≡ f b → a ≡ b) (one_g : (a b : ℕ) → Q a → Q b → g a ≡ g b → a ≡ b)
    (apart : (a b : ℕ) → P a → f a ≡ g b → ⊥) where
  -- images of the one function, and then of the other, are of the same items
  same_items : (xs ys zs ws : List ℕ) → All P xs → All Q ys → All P zs → All Q ws → map f xs ++ map g ys ≡ map f zs ++ map g ws → (xs ≡ zs) × (ys ≡ ws)
  same_items [] ys [] ws xs_are ys_are zs_are ws_are e = (refl, map-injective Q g one_g ys ws ys_are ws_are e)
  same_items [] [] (z ∷ zs) ws xs_are ys_are zs_are ws_are e = absurd cc
  same_items [] (y ∷ ys) (z ∷ zs) ws xs_are ys_are zs_are ws_are e =
      let head : g y ≡ f z = cc in
      absurd (apart z y (All-head P z zs zs_are) (sym head))
  same_items (x ∷ xs) ys [] [] xs_are ys_are zs_are ws_are e = absurd cc
  same_items (x ∷ xs) ys [] (w ∷ ws) xs_are ys_are zs_are ws_are e =
      let head : f x ≡ g w = cc in
      absurd (apart x w (All-head P x xs xs_are) head)
  same_items (x ∷ xs) ys (z ∷ zs) ws xs_are ys_are zs_are ws_are e =
      let head : f x ≡ f z = cc in
      let tail : map f xs ++ map g ys ≡ map f zs ++ map g ws = cc in
      let first : x ≡ z = one_f x z (All-head P x xs xs_are) (All-head P z zs zs_are) head in
      let others = same_items xs ys zs ws (All-tail P x xs xs_are) ys_are (All-tail P z zs zs_are) ws_are tail in
      (λ i. first i ∷ others.0 i, others.1)

-- ---- hypotheses

module _ (graph : Tfpg) (valid : IsValid graph) where
  -- the parts of the text of a set with a member are the words for its members
  pub set_word-parts : (hypothesis : Hypothesis) → IsHypothesisOf graph hypothesis → (set_word graph hypothesis ≡ codes "-" → ⊥) → comma_parts (set_word graph hypothesis) ≡ member_words graph hypothesis
  set_word-parts hypothesis of some = by (member_words graph hypothesis) (member_words_are graph hypothesis valid of) some
    where
      by : (words : List (List ℕ)) → All IsMemberWord words → (hyphen_or_joined words ≡ codes "-" → ⊥) → comma_parts (hyphen_or_joined words) ≡ words
      by [] are some = absurd (some refl)
      by (word ∷ words) are some = joined_parts word words are

  -- it has neither a space nor a line end
  pub set_word-no_space : (hypothesis : Hypothesis) → IsHypothesisOf graph hypothesis → Lacks 32 (set_word graph hypothesis)
  set_word-no_space hypothesis of = joined_lacks 32 (member_words graph hypothesis) refl refl refl refl (member_words_are graph hypothesis valid of)

  pub set_word-no_line_end : (hypothesis : Hypothesis) → IsHypothesisOf graph hypothesis → Lacks 10 (set_word graph hypothesis)
  set_word-no_line_end hypothesis of = joined_lacks 10 (member_words graph hypothesis) refl refl refl refl (member_words_are graph hypothesis valid of)

  -- Equal words for members are of equal hypotheses.
  pub one_by_members : (one other : Hypothesis) → IsHypothesisOf graph one → IsHypothesisOf graph other → member_words graph one ≡ member_words graph other → one ≡ other
  one_by_members one other of too e =
      let same = same_items (failure_word graph) (doubt_word graph) (λ position. position < length (failures graph)) (λ node. IsTrue (is_monitored graph node))
      (one_failure graph valid) (one_doubt graph valid) (λ position node within. failure_not_doubt graph valid position node within)
      one.set one.doubts other.set other.doubts of.set.members of.monitored too.set.members too.monitored e in
      λ i. record { set = same.0 i; doubts = same.1 i }

  -- Equal texts of sets are of equal hypotheses.
  pub one_hypothesis : (one other : Hypothesis) → IsHypothesisOf graph one → IsHypothesisOf graph other → set_word graph one ≡ set_word graph other → one ≡ other
  one_hypothesis one other of too e =
      one_by_members one other of too
      (one_list (member_words graph one) (member_words graph other) (member_words_are graph one valid of) (member_words_are graph other valid too) e)
