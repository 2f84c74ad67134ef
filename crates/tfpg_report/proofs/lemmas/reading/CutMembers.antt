-- Words for members, cut before the first that has an exclamation mark.
use Rattle.std.proofs.Common.{◌≡◌, ℕ, suc, ◌==◌, Bool, true, false, cond, List, [], ◌∷◌, ◌++◌, length, map, take, drop, get_or, position, All, IsTrue, Option, Some, None, unwrap_or, refl, ap, sym, ◌∙◌, arith}
use Rattle.std.specs.List.{take-map, drop-map}
use Rattle.std.specs.Option.{option_map}
use Rattle.std.proofs.Math.Seq.{take-append_seam, drop-append_seam}
use Rattle.std.proofs.lemmas.Bool.{eqb-true, false≢true}
use Rattle.std.proofs.lemmas.List.{length-map, map-append, take-append-drop}
use Rattle.std.proofs.lemmas.List.Elements.{All-head, All-map, All-tail}
use Rattle.tfpg_base.specs.Hypothesis.{Hypothesis}
use Rattle.tfpg_base.specs.Words.{is_name}
use Rattle.tfpg_base.proofs.lemmas.lists.Positions.{position-cons, position-map}
use Rattle.tfpg_graph.specs.Graph.{Tfpg, failure_word}
use Rattle.tfpg_graph.specs.Valid.{IsValid}
use Rattle.tfpg_report.specs.SetText.{IsHypothesisOf}
use Rattle.tfpg_graph.specs.Members.{doubt_word, member_words}
use Rattle.tfpg_report.proofs.lemmas.MemberWords.{failure_word-is_name}
use Rattle.tfpg_report.specs.inside.ReadMembers.{is_marked, IsPosition, IsMonitor, AreRisingFrom}

-- no name has a mark
name_unmarked : (word : List ℕ) → IsTrue (is_name word) → is_marked word ≡ false
name_unmarked [] named = refl
name_unmarked (first ∷ others) named = by (first == 33) refl
  where
    by : (b : Bool) → (first == 33) ≡ b → (first == 33) ≡ false
    by false is = is
    by true is = absurd (false≢true (sym (ap (λ (byte : ℕ). is_name (byte ∷ others)) (eqb-true first 33 is)) ∙ named))

-- how many words stand before the first with a mark
abbrev pub unmarked : List (List ℕ) → ℕ
unmarked words = unwrap_or (position is_marked words) (length words)

unwrap_or-suc : (o : Option ℕ) (n : ℕ) → unwrap_or (option_map suc o) (suc n) ≡ suc (unwrap_or o n)
unwrap_or-suc None n = refl
unwrap_or-suc (Some m) n = refl

-- as many as there are without one, where those with one come after them
unmarked-cut : (words more : List (List ℕ)) → All (λ word. is_marked word ≡ false) words → All (λ word. is_marked word ≡ true) more → unmarked (words ++ more) ≡ length words
unmarked-cut [] [] plain marked = refl
unmarked-cut [] (word ∷ more) plain marked =
    ap (λ (o : Option ℕ). unwrap_or o (length (word ∷ more)))
    (position-cons is_marked word more ∙ ap (λ (b : Bool). cond b (Some 0) (option_map suc (position is_marked more))) (All-head (λ w. is_marked w ≡ true) word more marked))
unmarked-cut (word ∷ words) more plain marked =
    ap (λ (o : Option ℕ). unwrap_or o (suc (length (words ++ more))))
    (position-cons is_marked word (words ++ more)
    ∙ ap (λ (b : Bool). cond b (Some 0) (option_map suc (position is_marked (words ++ more)))) (All-head (λ w. is_marked w ≡ false) word words plain))
    ∙ unwrap_or-suc (position is_marked (words ++ more)) (length (words ++ more))
    ∙ ap suc (unmarked-cut words more (All-tail (λ w. is_marked w ≡ false) word words plain) marked)

module _ (graph : Tfpg) where
  -- the failure modes of a hypothesis rise from 0
  pub positions_rise : (hypothesis : Hypothesis) → IsHypothesisOf graph hypothesis → AreRisingFrom (IsPosition graph) 0 hypothesis.set
  positions_rise hypothesis of = record { rising = of.set.rising; not_before = λ k d within. omega arith; members = of.set.members }

  -- and so do its doubts
  pub doubts_rise : (hypothesis : Hypothesis) → IsHypothesisOf graph hypothesis → AreRisingFrom (IsMonitor graph) 0 hypothesis.doubts
  doubts_rise hypothesis of = record { rising = of.rising; not_before = λ k d within. omega arith; members = of.monitored }

  module _ {R : Type 0} (f : R → List ℕ) (refs : List R) (count : ℕ) where
    -- members that were read from both parts are those of all words
    pub members_of_parts : (hypothesis : Hypothesis) → AreRisingFrom (IsPosition graph) 0 hypothesis.set → map (failure_word graph) hypothesis.set ≡ map f (take count refs)
        → AreRisingFrom (IsMonitor graph) 0 hypothesis.doubts → map (doubt_word graph) hypothesis.doubts ≡ map f (drop count refs)
        → IsHypothesisOf graph hypothesis × (member_words graph hypothesis ≡ map f refs)
    members_of_parts hypothesis rise names rise_too marked = (
      record { set = record { rising = rise.rising; members = rise.members }; rising = rise_too.rising; monitored = rise_too.members },
      (λ i. names i ++ marked i) ∙ sym (map-append f (take count refs) (drop count refs)) ∙ ap (map f) (take-append-drop count refs),
    )

    -- and each part of all words has its members
    pub parts_of_members : IsValid graph → count ≡ unwrap_or (position (λ (r : R). is_marked (f r)) refs) (length refs) → (hypothesis : Hypothesis) → IsHypothesisOf graph hypothesis
        → member_words graph hypothesis ≡ map f refs
        → (map (failure_word graph) hypothesis.set ≡ map f (take count refs)) × (map (doubt_word graph) hypothesis.doubts ≡ map f (drop count refs))
    parts_of_members valid count_is hypothesis of e =
        let names : List (List ℕ) = map (failure_word graph) hypothesis.set in
        let marked : List (List ℕ) = map (doubt_word graph) hypothesis.doubts in
        let plain : All (λ word. is_marked word ≡ false) names =
        All-map (λ word. is_marked word ≡ false) (failure_word graph) hypothesis.set
        (λ k d within. name_unmarked (failure_word graph (get_or hypothesis.set k d)) (failure_word-is_name graph valid (get_or hypothesis.set k d) (of.set.members k d within))) in
        let have_marks : All (λ word. is_marked word ≡ true) marked = All-map (λ word. is_marked word ≡ true) (doubt_word graph) hypothesis.doubts (λ k d within. refl) in
        let counted : count ≡ length names =
        count_is ∙ sym (λ i. unwrap_or (position-map is_marked f refs i) (length-map refs f i)) ∙ ap unmarked (sym e) ∙ unmarked-cut names marked plain have_marks in (
          sym (sym (take-map f count refs) ∙ ap (take count) (sym e) ∙ ap (λ (n : ℕ). take n (names ++ marked)) counted ∙ take-append_seam names marked),
          sym (sym (drop-map f count refs) ∙ ap (drop count) (sym e) ∙ ap (λ (n : ℕ). drop n (names ++ marked)) counted ∙ drop-append_seam names marked),
        )
