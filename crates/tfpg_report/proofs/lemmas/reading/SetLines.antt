-- The lines that have a set, but for their sets: what was read is said, and what is said is read.
use Rattle.std.proofs.Common.{◌≡◌, ℕ, suc, ◌==◌, false, cond, List, [], ◌∷◌, ◌++◌, length, take, drop, get_or, position, Some, codes, refl, ap, sym, subst, ◌∙◌, arith, append_assoc}
use Rattle.std.specs.Prelude.{decimal}
use Rattle.std.specs.Option.{option_and_then, option_map}
use Rattle.std.proofs.Math.Seq.{drop-cons, take-append_seam, drop-append_seam}
use Rattle.std.proofs.lemmas.Bool.{eqb-true}
use Rattle.std.proofs.lemmas.List.{take-append-drop}
use Rattle.std.proofs.lemmas.List.Elements.{All-head, All-tail}
use Rattle.std.proofs.lemmas.List.Quantifiers.{position-Some}
use Rattle.std.proofs.lemmas.Option.{same_Some}
use Rattle.tfpg_base.proofs.lemmas.lists.Lacking.{Lacks}
use Rattle.tfpg_base.proofs.lemmas.lists.Positions.{position-cons}
use Rattle.tfpg_report.specs.LineWords.{robustness_word}
use Rattle.tfpg_report.specs.ReportLines.{Has32Bits}
use Rattle.tfpg_report.specs.inside.FirstWords.{after_word, set_last, small, small_after, small_first}
use Rattle.tfpg_report.specs.inside.LinesRead.{counts_first, numbered_in, ranked_first, ranked_in, robust_at, robust_first, robust_in, without_first}
use Rattle.tfpg_report.specs.declared.reading.read_findings.RankedNumbers.{RankedNumbers}
use Rattle.tfpg_report.proofs.lemmas.CleanLines.{number_lacks}
use Rattle.tfpg_report.proofs.lemmas.reading.FirstWords.{after_word-is, made_of, number_within-is, set_last-is, small-reads, small_after-is, small_first-is, small_first-reads, went_on}

-- ---- two counts with a slash between

-- the first slash comes after a text without one
first_slash : (before after : List ℕ) → Lacks 47 before → position (λ byte. byte == 47) (before ++ 47 ∷ after) ≡ Some (length before)
first_slash [] after lacks = position-cons (λ other. other == 47) 47 after
first_slash (byte ∷ before) after lacks =
    position-cons (λ other. other == 47) byte (before ++ 47 ∷ after)
    ∙ (λ i. cond (All-head (λ other. (other == 47) ≡ false) byte before lacks i) (Some 0)
    (option_map suc (first_slash before after (All-tail (λ other. (other == 47) ≡ false) byte before lacks) i)))

-- the word for two counts, as it is cut
robust_cut : (alarmed monitored : ℕ) → robustness_word alarmed monitored ≡ decimal alarmed ++ 47 ∷ decimal monitored
robust_cut alarmed monitored = append_assoc (decimal alarmed) (codes "/") (decimal monitored)

-- The word is for these counts.
record IsRobust (word : List ℕ) (counts : ℕ × ℕ) : Type 0 where
  word_is : word ≡ robustness_word counts.0 counts.1
  alarmed : Has32Bits counts.0
  monitored : Has32Bits counts.1

-- a small number that was read
small-is : (word : List ℕ) (number : ℕ) → small word ≡ Some number → (word ≡ decimal number) × Has32Bits number
small-is word number e = let is = number_within-is 4294967295 word number (omega arith) e in (is.0, omega (arith, is.1))

robust-is : (word : List ℕ) (counts : ℕ × ℕ) → robust_in word ≡ Some counts → IsRobust word counts
robust-is word counts e =
    let slash = went_on (robust_at word) (position (λ byte. byte == 47) word) counts e in
    let found = position-Some (λ byte. byte == 47) word slash.0 0 slash.1.0 in
    let later = went_on _ (without_first (drop slash.0 word)) counts slash.1.1 in
    let alarmed = went_on _ (small (take slash.0 word)) counts later.1.1 in
    let monitored = made_of _ (small later.0) counts alarmed.1.1 in
    let first = small-is (take slash.0 word) alarmed.0 alarmed.1.0 in
    let second = small-is later.0 monitored.0 monitored.1.0 in
    let cut : drop slash.0 word ≡ get_or word slash.0 0 ∷ drop (suc slash.0) word = drop-cons word slash.0 0 found.0 in
    let rest : drop (suc slash.0) word ≡ later.0 = same_Some (drop (suc slash.0) word) later.0 (sym (ap without_first cut) ∙ later.1.0) in
    let whole : word ≡ robustness_word alarmed.0 monitored.0 =
    sym (take-append-drop slash.0 word)
    ∙ (λ i. first.0 i ++ (cut ∙ (λ j. eqb-true (get_or word slash.0 0) 47 found.1 j ∷ (rest ∙ second.0) j)) i)
    ∙ sym (robust_cut alarmed.0 monitored.0) in
    subst (IsRobust word) monitored.1.1 (record { word_is = whole; alarmed = first.1; monitored = second.1 })

robust-reads : (alarmed monitored : ℕ) → Has32Bits alarmed → Has32Bits monitored → robust_in (robustness_word alarmed monitored) ≡ Some (alarmed, monitored)
robust-reads alarmed monitored few some =
    ap robust_in (robust_cut alarmed monitored)
    ∙ ap (option_and_then (robust_at (decimal alarmed ++ 47 ∷ decimal monitored)))
    (first_slash (decimal alarmed) (decimal monitored) (number_lacks 47 alarmed (omega arith)))
    ∙ rw (
      drop-append_seam (decimal alarmed) (47 ∷ decimal monitored),
      take-append_seam (decimal alarmed) (47 ∷ decimal monitored),
      small-reads alarmed few,
      small-reads monitored some,
    ) refl

-- ---- the line of a ranked hypothesis

-- its words before its set
abbrev pub ranked_words : RankedNumbers → List (List ℕ) → List (List ℕ)
ranked_words numbers others =
    decimal numbers.number ∷ codes "cost" ∷ decimal numbers.cost ∷ codes "robust" ∷ robustness_word numbers.alarmed numbers.monitored ∷ others

-- The numbers are within their limits.
pub record AreRankedWithin (numbers : RankedNumbers) : Type 0 where
  pub number : Has32Bits numbers.number
  pub cost : Has32Bits numbers.cost
  pub alarmed : Has32Bits numbers.alarmed
  pub monitored : Has32Bits numbers.monitored

-- The words are those for the numbers of a ranked hypothesis and the text of its set.
pub record HasRanked (words : List (List ℕ)) (read : RankedNumbers × List ℕ) : Type 0 where
  pub words_are : words ≡ ranked_words read.0 (codes "set" ∷ read.1 ∷ [])
  pub within : AreRankedWithin read.0

record HasRankedFirst (words : List (List ℕ)) (read : RankedNumbers × List (List ℕ)) : Type 0 where
  words_are : words ≡ ranked_words read.0 read.1
  within : AreRankedWithin read.0

-- two counts after `robust`
record HasRobustFirst (words : List (List ℕ)) (read : (ℕ × ℕ) × List (List ℕ)) : Type 0 where
  words_are : words ≡ codes "robust" ∷ robustness_word read.0.0 read.0.1 ∷ read.1
  alarmed : Has32Bits read.0.0
  monitored : Has32Bits read.0.1

robust_first-is : (words : List (List ℕ)) (read : (ℕ × ℕ) × List (List ℕ)) → robust_first words ≡ Some read → HasRobustFirst words read
robust_first-is words read e =
    let after = went_on counts_first (after_word (codes "robust") words) read e in
    subst (λ (ws : List (List ℕ)). HasRobustFirst ws read) (sym (after_word-is (codes "robust") words after.0 after.1.0)) (of after.0 after.1.1)
  where
    of : (others : List (List ℕ)) → counts_first others ≡ Some read → HasRobustFirst (codes "robust" ∷ others) read
    of [] none = absurd cc
    of (word ∷ others) is =
        let robust = made_of (λ (counts : ℕ × ℕ). (counts, others)) (robust_in word) read is in
        let has = robust-is word robust.0 robust.1.0 in
        subst (HasRobustFirst (codes "robust" ∷ word ∷ others)) robust.1.1 (record {
          words_are = ap (λ (w : List ℕ). codes "robust" ∷ w ∷ others) has.word_is;
          alarmed = has.alarmed;
          monitored = has.monitored;
        })

ranked_first-is : (words : List (List ℕ)) (read : RankedNumbers × List (List ℕ)) → ranked_first words ≡ Some read → HasRankedFirst words read
ranked_first-is words read e =
    let number = went_on _ (small_first words) read e in
    let first = small_first-is words number.0 number.1.0 in
    let cost = went_on _ (small_after (codes "cost") number.0.1) read number.1.1 in
    let second = small_after-is (codes "cost") number.0.1 cost.0 cost.1.0 in
    let robust = made_of _ (robust_first cost.0.1) read cost.1.1 in
    let third = robust_first-is cost.0.1 robust.0 robust.1.0 in
    subst (HasRankedFirst words) robust.1.1 (record {
      words_are = first.words_are
          ∙ ap (λ (ws : List (List ℕ)). decimal number.0.0 ∷ ws) (second.words_are ∙ ap (λ (ws : List (List ℕ)). codes "cost" ∷ decimal cost.0.0 ∷ ws) third.words_are);
      within = record { number = first.is; cost = second.is; alarmed = third.alarmed; monitored = third.monitored };
    })

-- what was read of the line of a ranked hypothesis is said
pub ranked-is : (words : List (List ℕ)) (read : RankedNumbers × List ℕ) → ranked_in words ≡ Some read → HasRanked words read
ranked-is words read e =
    let numbers = went_on _ (ranked_first words) read e in
    let first = ranked_first-is words numbers.0 numbers.1.0 in
    let set = made_of _ (set_last numbers.0.1) read numbers.1.1 in
    subst (HasRanked words) set.1.1 (record {
      words_are = first.words_are ∙ ap (ranked_words numbers.0.0) (set_last-is numbers.0.1 set.0 set.1.0);
      within = first.within;
    })

-- and what is said is read
pub ranked-reads : (numbers : RankedNumbers) (set : List ℕ) → AreRankedWithin numbers → ranked_in (ranked_words numbers (codes "set" ∷ set ∷ [])) ≡ Some (numbers, set)
ranked-reads numbers set within =
    rw (
      small_first-reads numbers.number (codes "cost" ∷ decimal numbers.cost ∷ codes "robust" ∷ robustness_word numbers.alarmed numbers.monitored ∷ codes "set" ∷ set ∷ []) within.number,
      small_first-reads numbers.cost (codes "robust" ∷ robustness_word numbers.alarmed numbers.monitored ∷ codes "set" ∷ set ∷ []) within.cost,
      robust-reads numbers.alarmed numbers.monitored within.alarmed within.monitored,
    ) refl

-- ---- the line of an open or a rejected hypothesis

-- The words are those for a number and the text of a set.
pub record HasNumberedText (words : List (List ℕ)) (read : ℕ × List ℕ) : Type 0 where
  pub words_are : words ≡ decimal read.0 ∷ codes "set" ∷ read.1 ∷ []
  pub within : Has32Bits read.0

pub numbered-is : (words : List (List ℕ)) (read : ℕ × List ℕ) → numbered_in words ≡ Some read → HasNumberedText words read
numbered-is words read e =
    let number = went_on _ (small_first words) read e in
    let first = small_first-is words number.0 number.1.0 in
    let set = made_of _ (set_last number.0.1) read number.1.1 in
    subst (HasNumberedText words) set.1.1 (record {
      words_are = first.words_are ∙ ap (λ (ws : List (List ℕ)). decimal number.0.0 ∷ ws) (set_last-is number.0.1 set.0 set.1.0);
      within = first.is;
    })

pub numbered-reads : (number : ℕ) (set : List ℕ) → Has32Bits number → numbered_in (decimal number ∷ codes "set" ∷ set ∷ []) ≡ Some (number, set)
numbered-reads number set within = rw (small_first-reads number (codes "set" ∷ set ∷ []) within) refl
