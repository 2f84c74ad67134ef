-- Proper parts of hypotheses by their numbers, and of which hypotheses the flag of a proper part is up.
use Rattle.std.proofs.Common.{◌≡◌, ◌↔◌, ◌<◌, ◌≤◌, ◌+◌, ◌||◌, ◌∷◌, ◌++◌, ◌⊎◌, ℕ, List, Bool, Some, [], length, false, slice_get, inl, inr, sym, ap, subst, ⊎_elim, arith, ◌∙◌, length-append}
use Rattle.std.specs.List.{Contains, list_any}
use Rattle.std.specs.Prelude.{IsTrue}
use Rattle.std.proofs.lemmas.Bool.{or_cases, or_left, or_right}
use Rattle.std.proofs.lemmas.List.Elements.{All-contains, All-push, All-nil, All-weaker, Contains-append_left, Contains-append_right}
use Rattle.std.proofs.lemmas.Option.{same_Some}
use Rattle.tfpg_base.specs.Hypothesis.{Hypothesis, IsProperPart}
use Rattle.tfpg_base.specs.Set.{IsSubset}
use Rattle.tfpg_base.proofs.lemmas.lists.Elements.{Contains-at, Contains-head, list_any-found, list_any-passes}
use Rattle.tfpg_base.proofs.lemmas.lists.Written.{each_get_or-push, slice_get-append_some, slice_get-push_cases}
use Rattle.tfpg_check.specs.inside.Lookups.{flag_at}
use Rattle.tfpg_check.specs.inside.LargestParts.{IsPartAmong, IsPartOfOne, AreLargestFrom, AreLargestBelow, ListsLargestParts, ArePartsBefore, HasFlaggedPart, SayFlaggedParts}

-- ---- the largest ones

module _ (hypotheses : List Hypothesis) (whole : ℕ) where
  pub largest_none : AreLargestFrom hypotheses whole whole []
  largest_none = record {
    before = All-nil (λ part. part < whole);
    proper = All-nil (λ part. IsPartAmong hypotheses part whole);
    largest = λ part from below is. absurd (omega (arith, from, below));
  }

module _ (hypotheses : List Hypothesis) (whole number : ℕ) (parts : List ℕ) (are : AreLargestFrom hypotheses whole (number + 1) parts) where
  -- One that is no proper part, or one of another one, is passed over;
  pub largest_over : (IsPartAmong hypotheses number whole → IsPartOfOne hypotheses number parts) → AreLargestFrom hypotheses whole number parts
  largest_over passed = record {
    before = are.before;
    proper = are.proper;
    largest = λ part from below is. ⊎_elim
        (λ same. inr (subst (λ (n : ℕ). IsPartOfOne hypotheses n parts) same (passed (subst (λ (n : ℕ). IsPartAmong hypotheses n whole) (sym same) is))))
        (λ later. are.largest part (omega (arith, later)) below is)
        (first_or_later part from);
  }
    where
      first_or_later : (part : ℕ) → number ≤ part → (number ≡ part) ⊎ (number < part)
      first_or_later part from = grind arith

  -- else it is one of the largest.
  pub largest_more : (more : List ℕ) → number < whole → IsPartAmong hypotheses number whole → more ≡ parts ++ number ∷ [] → AreLargestFrom hypotheses whole number more
  largest_more more below is same =
      subst (AreLargestFrom hypotheses whole number) (sym same)
      (record {
        before = All-push (λ part. part < whole) parts number are.before below;
        proper = All-push (λ part. IsPartAmong hypotheses part whole) parts number are.proper is;
        largest = λ part from under part_is. ⊎_elim
            (λ here. inl (subst (Contains (parts ++ number ∷ [])) here (Contains-append_right parts (number ∷ []) number (Contains-head number []))))
            (λ later. ⊎_elim
            (λ has. inl (Contains-append_left parts (number ∷ []) part has))
            (λ within. inr (within.0, within.1, slice_get-append_some parts (number ∷ []) within.0 within.1 within.2, within.3))
            (are.largest part (omega (arith, later)) under part_is))
            (first_or_later part from);
      })
    where
      first_or_later : (part : ℕ) → number ≤ part → (number ≡ part) ⊎ (number < part)
      first_or_later part from = grind arith

-- those of one hypothesis more
pub rows_more : (hypotheses : List Hypothesis) (count : ℕ) (rows longer : List (List ℕ)) (parts : List ℕ) → AreLargestBelow hypotheses count rows → AreLargestFrom hypotheses count 0 parts
    → longer ≡ rows ++ parts ∷ [] → AreLargestBelow hypotheses (count + 1) longer
rows_more hypotheses count rows longer parts are next same = record {
  one_each = ap length same ∙ length-append rows (parts ∷ []) ∙ ap (λ (n : ℕ). n + 1) are.one_each;
  exact = λ whole row at. ⊎_elim
      (λ old. are.exact whole row old)
      (λ last. subst (AreLargestFrom hypotheses whole 0) last.1 (subst (λ (n : ℕ). AreLargestFrom hypotheses n 0 parts) (sym (last.0 ∙ are.one_each)) next))
      (slice_get-push_cases rows parts whole row (ap (λ (rs : List (List ℕ)). slice_get rs whole) (sym same) ∙ at));
}

-- ---- of which hypotheses the flag of a proper part is up

module _ (hypotheses : List Hypothesis) (before : ArePartsBefore hypotheses) where
  -- a proper part of a proper part is a proper part, since the hypotheses stand in the table in order
  deeper : (least middle greatest : ℕ) → IsPartAmong hypotheses least middle → IsPartAmong hypotheses middle greatest → IsPartAmong hypotheses least greatest
  deeper least middle greatest first second = record {
    less = first.less;
    less_at = first.less_at;
    more = second.more;
    more_at = second.more_at;
    proper = record {
      set = All-weaker (Contains second.less.set) (Contains second.more.set) (λ key has. All-contains (Contains second.more.set) second.less.set key second.proper.set has) first.less.set
          (subst (λ (h : Hypothesis). IsSubset first.less.set h.set) same first.proper.set);
      doubts = All-weaker (Contains second.less.doubts) (Contains second.more.doubts) (λ key has. All-contains (Contains second.more.doubts) second.less.doubts key second.proper.doubts has) first.less.doubts
          (subst (λ (h : Hypothesis). IsSubset first.less.doubts h.doubts) same first.proper.doubts);
      proper = λ equal. omega (arith, before least middle first, before middle least (back equal));
    };
  }
    where
      same : first.more ≡ second.less
      same = same_Some first.more second.less (sym first.more_at ∙ second.less_at)

      back : first.less ≡ second.more → IsPartAmong hypotheses middle least
      back equal = record {
        less = second.less;
        less_at = second.less_at;
        more = first.less;
        more_at = first.less_at;
        proper = subst (IsProperPart second.less) (sym equal) second.proper;
      }

  module _ (rows : List (List ℕ)) (lists : ListsLargestParts hypotheses rows) (flags said : List Bool) (whole : ℕ) (row : List ℕ) (at : slice_get rows whole ≡ Some row)
      (each : SayFlaggedParts hypotheses flags whole said) where
    abbrev pub is_up_at : ℕ → Bool
    is_up_at number = flag_at flags number || flag_at said number

    are : AreLargestFrom hypotheses whole 0 row
    are = lists.exact whole row at

    by_part : (part : ℕ) → Contains row part → (IsTrue (flag_at flags part)) ⊎ (IsTrue (flag_at said part)) → HasFlaggedPart hypotheses flags whole
    by_part part has up =
        let is = All-contains (λ (n : ℕ). IsPartAmong hypotheses n whole) row part are.proper has in
        ⊎_elim
        (λ own. (part, is, own))
        (λ within. (let found = (each part (All-contains (λ (n : ℕ). n < whole) row part are.before has)).0 within in
        (found.0, deeper found.0 part whole found.1 is, found.2)))
        up

    flagged_by : IsTrue (list_any is_up_at row) → HasFlaggedPart hypotheses flags whole
    flagged_by any = let found = list_any-found is_up_at row any in
        by_part found.0 found.1 (or_cases (flag_at flags found.0) (flag_at said found.0) found.2)

    flagged_from : HasFlaggedPart hypotheses flags whole → IsTrue (list_any is_up_at row)
    flagged_from has = ⊎_elim
        (λ own. list_any-passes is_up_at row has.0 own (or_left (flag_at flags has.0) (flag_at said has.0) has.2))
        (λ within. (let between = Contains-at row within.0 within.1 within.2 in
        list_any-passes is_up_at row within.1 between
        (or_right (flag_at flags within.1) (flag_at said within.1)
        ((each within.1 (All-contains (λ (n : ℕ). n < whole) row within.1 are.before between)).1 (has.0, within.3, has.2)))))
        (are.largest has.0 (omega arith) (before has.0 whole has.1) has.1)

    -- the flag of one hypothesis more
    pub flagged_more : (more : List Bool) (is_up : Bool) → length said ≡ whole → is_up ≡ list_any is_up_at row → more ≡ said ++ is_up ∷ [] → SayFlaggedParts hypotheses flags (whole + 1) more
    flagged_more more is_up count is same =
        each_get_or-push false (λ number flag. IsTrue flag ↔ HasFlaggedPart hypotheses flags number) said more is_up whole same count each
        (λ up. flagged_by (sym is ∙ up), λ has. is ∙ flagged_from has)
