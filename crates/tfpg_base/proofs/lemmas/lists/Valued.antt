-- Laws of lists of which some items have a value: how many they are, and what one item more does.
use Rattle.std.proofs.Common.{◌≡◌, ◌⊎◌, inl, inr, ℕ, ◌+◌, ◌<◌, ◌≤◌, get_or, take, length-append, subst, Bool, true, false, cond, List, [], ◌∷◌, ◌++◌, length, All, Option, Some, None, is_some, filter_map, count_by, refl, ap, sym, ◌∙◌, arith}
use Rattle.std.specs.List.{cons_option, Contains}
use Rattle.std.proofs.lemmas.Bool.{false≢true}
use Rattle.std.proofs.lemmas.List.{append-nil, take_more}
use Rattle.std.proofs.lemmas.List.Sums.{sum_by-cons}
use Rattle.std.proofs.lemmas.List.Elements.{filter_map-append, All-head, All-tail}
use Rattle.tfpg_base.proofs.lemmas.lists.Elements.{Contains-nil, Contains-cons_cases}

module _ {X Y : Type 0} (value : X → Option Y) where
  -- what one item more that has a value adds
  pub filter_map-push_some : (xs : List X) (x : X) (y : Y) → value x ≡ Some y
      → filter_map value (xs ++ x ∷ []) ≡ filter_map value xs ++ y ∷ []
  filter_map-push_some xs x y has = filter_map-append value xs (x ∷ []) ∙ ap (λ o. filter_map value xs ++ cons_option o []) has

  -- one item more that has no value adds nothing
  pub filter_map-push_none : (xs : List X) (x : X) → value x ≡ None → filter_map value (xs ++ x ∷ []) ≡ filter_map value xs
  filter_map-push_none xs x lacks =
      filter_map-append value xs (x ∷ []) ∙ ap (λ o. filter_map value xs ++ cons_option o []) lacks ∙ append-nil (filter_map value xs)

  -- where no item has a value, there is none
  pub filter_map-none : (xs : List X) → All (λ x. value x ≡ None) xs → filter_map value xs ≡ []
  filter_map-none [] none = refl
  filter_map-none (x ∷ xs) none =
      ap (λ o. cons_option o (filter_map value xs)) (All-head (λ y. value y ≡ None) x xs none)
      ∙ filter_map-none xs (All-tail (λ y. value y ≡ None) x xs none)

  -- where those that pass have the values, there are as many of the one as of the other
  pub count_by-valued : (test : X → Bool) (xs : List X) → All (λ x. is_some (value x) ≡ test x) xs
      → count_by test xs ≡ length (filter_map value xs)
  count_by-valued test [] same = refl
  count_by-valued test (x ∷ xs) same =
      sum_by-cons (λ y. cond (test y) 1 0) x xs
      ∙ by (test x) (value x) (All-head (λ y. is_some (value y) ≡ test y) x xs same)
      (count_by-valued test xs (All-tail (λ y. is_some (value y) ≡ test y) x xs same))
    where
      by : (b : Bool) (o : Option Y) → is_some o ≡ b → count_by test xs ≡ length (filter_map value xs)
          → cond b 1 0 + count_by test xs ≡ length (cons_option o (filter_map value xs))
      by true (Some y) e rest = omega (arith, rest)
      by true None e rest = absurd (false≢true e)
      by false (Some y) e rest = absurd (false≢true (sym e))
      by false None e rest = omega (arith, rest)

one_value : {Y : Type 0} (o : Option Y) → is_some o ≡ true → length (cons_option o []) ≡ 1
one_value None there = absurd cc
one_value (Some y) there = refl

no_value : {Y : Type 0} (o : Option Y) → is_some o ≡ false → length (cons_option o []) ≡ 0
no_value None there = refl
no_value (Some y) there = absurd cc

module _ {X Y : Type 0} (value : X → Option Y) (xs : List X) (i : ℕ) (d : X) (within : i < length xs) where
  count_more : length (filter_map value (take (i + 1) xs)) ≡ length (filter_map value (take i xs)) + length (cons_option (value (get_or xs i d)) [])
  count_more =
      ap (λ (ys : List X). length (filter_map value ys)) (take_more xs i d within)
      ∙ ap length (filter_map-append value (take i xs) (get_or xs i d ∷ []))
      ∙ length-append (filter_map value (take i xs)) (cons_option (value (get_or xs i d)) [])

  -- one value more is counted where the next item has one
  pub filter_map-counts_some : (count : ℕ) → is_some (value (get_or xs i d)) ≡ true → (count ≡ length (filter_map value (take i xs))) × (count ≤ i)
      → (count + 1 ≡ length (filter_map value (take (i + 1) xs))) × (count + 1 ≤ i + 1)
  filter_map-counts_some count there upto = (omega (arith, upto.0, count_more, one_value (value (get_or xs i d)) there), omega (arith, upto.1))

  -- and as many as before where it has none
  pub filter_map-counts_none : (count : ℕ) → is_some (value (get_or xs i d)) ≡ false → (count ≡ length (filter_map value (take i xs))) × (count ≤ i)
      → (count ≡ length (filter_map value (take (i + 1) xs))) × (count ≤ i + 1)
  filter_map-counts_none count there upto = (omega (arith, upto.0, count_more, no_value (value (get_or xs i d)) there), omega (arith, upto.1))

-- ---- the best of the values

module _ {X Y : Type 0} (Below : Y → Y → Type 0) (total : (one other : Y) → Below one other ⊎ Below other one)
    (through : (one middle other : Y) → Below one middle → Below middle other → Below one other) (value : X → Option Y) where
  -- This is the value of an item, and those of all these items are below it.
  pub record IsBest (xs : List X) (best : Y) : Type 0 where
    pub item : X
    pub is : value item ≡ Some best
    pub others : (x : X) (y : Y) → Contains xs x → value x ≡ Some y → Below y best

  itself : (y : Y) → Below y y
  itself y = elim (total y y) [ inl so ↦ so | inr so ↦ so ]

  -- the best of the values of some items and one value more
  pub best_from : (xs : List X) (y : Y) (x : X) → value x ≡ Some y → (best : Y) × IsBest xs best × Below y best
  best_from [] y x is = (
    y,
    record {
      item = x;
      is = is;
      others = λ other z member at. absurd (Contains-nil other member);
    },
    itself y,
  )
  best_from (first ∷ xs) y x is = by (best_from xs) (value first) refl
    where
      longer : (own : Option Y) → value first ≡ own → (best : Y) → IsBest xs best → ((z : Y) → own ≡ Some z → Below z best) → IsBest (first ∷ xs) best
      longer own at best rest here = record {
        item = rest.item;
        is = rest.is;
        others = λ other z member of.
            elim (Contains-cons_cases first xs other member) [
              | inl same ↦ here z (sym at ∙ ap value same ∙ of)
              | inr more ↦ rest.others other z more of
            ];
      }

      by : ((z : Y) (w : X) → value w ≡ Some z → (best : Y) × IsBest xs best × Below z best) → (own : Option Y) → value first ≡ own
          → (best : Y) × IsBest (first ∷ xs) best × Below y best
      by further None at =
          let rest = further y x is in
          (rest.0, longer None at rest.0 rest.1 (λ z of. absurd cc), rest.2)
      by further (Some z) at = elim (total y z) [
        | inl more ↦ (
            let rest = further z first at in
            (rest.0, longer (Some z) at rest.0 rest.1 (λ own of. subst (λ w. Below w rest.0) (let same : z ≡ own = cc in same) rest.2), through y z rest.0 more rest.2)
            )
        | inr less ↦ (
            let rest = further y x is in
            (rest.0, longer (Some z) at rest.0 rest.1 (λ own of. subst (λ w. Below w rest.0) (let same : z ≡ own = cc in same) (through z y rest.0 less rest.2)), rest.2)
            )
      ]
