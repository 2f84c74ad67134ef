-- Of the lists of numbers up to a limit of which something decided holds, one is greatest at every index, where it holds of
-- the greater items of each two.
use Rattle.std.proofs.Common.{◌≡◌, ℕ, zero, suc, ◌+◌, ◌-◌, ◌<◌, ◌≤◌, List, [], ◌∷◌, length, refl, sym, subst, ◌∙◌, inl, inr, arith}
use Rattle.std.specs.Prelude.{slice_index}
use Rattle.tfpg_base.proofs.lemmas.lists.Decided.{IsDecided, IsFirstBelow, first_below, both_decided, le_decided}
use Rattle.tfpg_search.proofs.lemmas.solutions.GreaterItems.{greater_items, greater_items-at}

-- a list of so many numbers up to a limit, of which something holds
pub record IsSmallList (limit count : ℕ) (P : List ℕ → Type 0) (xs : List ℕ) : Type 0 where
  pub long : length xs ≡ count
  pub small : (index : ℕ) → slice_index xs index ≤ limit
  pub has : P xs

module _ (limit : ℕ) where
  headed : (count : ℕ) (P : List ℕ → Type 0) (first : ℕ) → first ≤ limit → (rest : List ℕ) → IsSmallList limit count (λ others. P (first ∷ others)) rest
      → IsSmallList limit (suc count) P (first ∷ rest)
  headed count P first low rest is = record { long = omega (arith, is.long); small = small; has = is.has }
    where
      small : (index : ℕ) → slice_index (first ∷ rest) index ≤ limit
      small zero = low
      small (suc index) = is.small index

  unheaded : (count : ℕ) (P : List ℕ → Type 0) (xs : List ℕ) → IsSmallList limit (suc count) P xs
      → (first : ℕ) × (first < suc limit) × ((rest : List ℕ) × IsSmallList limit count (λ others. P (first ∷ others)) rest)
  unheaded count P [] is = absurd (omega (arith, is.long))
  unheaded count P (first ∷ rest) is =
      (first, omega (arith, is.small 0), (rest, record { long = omega (arith, is.long); small = λ index. is.small (suc index); has = is.has }))

  none_of_none : (P : List ℕ → Type 0) → (P [] → ⊥) → (xs : List ℕ) → IsSmallList limit 0 P xs → ⊥
  none_of_none P fails [] is = fails is.has
  none_of_none P fails (first ∷ rest) is = omega (arith, is.long)

  none_small : (index : ℕ) → slice_index [] index ≤ limit
  none_small index = omega arith

  -- whether there is such a list is decided
  pub small_list_decided : (count : ℕ) (P : List ℕ → Type 0) → ((xs : List ℕ) → IsDecided (P xs)) → IsDecided ((xs : List ℕ) × IsSmallList limit count P xs)
  small_list_decided zero P decided = elim (decided []) [
    | inl holds ↦ inl ([], record { long = refl; small = none_small; has = holds })
    | inr fails ↦ inr (λ some. none_of_none P fails some.0 some.1)
  ]
  small_list_decided (suc count) P decided = elim (first_below
      (λ first. (rest : List ℕ) × IsSmallList limit count (λ others. P (first ∷ others)) rest)
      (λ first. ((rest : List ℕ) × IsSmallList limit count (λ others. P (first ∷ others)) rest) → ⊥)
      (λ first. small_list_decided count (λ others. P (first ∷ others)) (λ others. decided (first ∷ others))) (suc limit)) [
        | inl found ↦ inl (found.0 ∷ found.1.holds.0, headed count P found.0 (omega (arith, found.1.below)) found.1.holds.0 found.1.holds.1)
        | inr none ↦ inr (λ some. (let parts = unheaded count P some.0 some.1 in none parts.0 parts.1 parts.2))
      ]

module _ (P : List ℕ → Type 0) (decided : (xs : List ℕ) → IsDecided (P xs)) (limit count : ℕ)
    (long : (xs : List ℕ) → P xs → length xs ≡ count) (small : (xs : List ℕ) → P xs → (index : ℕ) → slice_index xs index ≤ limit)
    (greater : (xs ys : List ℕ) → P xs → P ys → P (greater_items xs ys)) where
  -- no list that has it is greater at these indexes
  abbrev pub IsGreatestBelow : ℕ → List ℕ → Type 0
  IsGreatestBelow end xs = (other : List ℕ) → P other → (index : ℕ) → index < end → slice_index other index ≤ slice_index xs index

  -- a list that has it, with this number less than the limit at an index
  abbrev Reaches : ℕ → ℕ → List ℕ → Type 0
  Reaches index less xs = P xs × (limit ≤ slice_index xs index + less)

  reaches_decided : (index less : ℕ) → IsDecided ((xs : List ℕ) × IsSmallList limit count (Reaches index less) xs)
  reaches_decided index less =
      small_list_decided limit count (Reaches index less) (λ xs. both_decided (P xs) (limit ≤ slice_index xs index + less) (decided xs) (le_decided limit (slice_index xs index + less)))

  as_small : (index less : ℕ) (xs : List ℕ) → Reaches index less xs → IsSmallList limit count (Reaches index less) xs
  as_small index less xs reaches = record { long = long xs reaches.0; small = small xs reaches.0; has = reaches }

  -- one is greatest at an index
  greatest_at : (start : List ℕ) → P start → (index : ℕ) → (xs : List ℕ) × P xs × ((other : List ℕ) → P other → slice_index other index ≤ slice_index xs index)
  greatest_at start has index = elim (first_below
      (λ less. (xs : List ℕ) × IsSmallList limit count (Reaches index less) xs)
      (λ less. ((xs : List ℕ) × IsSmallList limit count (Reaches index less) xs) → ⊥)
      (reaches_decided index) (suc limit)) [
        | inl found ↦ (
          found.1.holds.0,
          found.1.holds.1.has.0,
          λ other also. at_most found.0 found.1 other also,
        )
        | inr none ↦ absurd (none limit (omega arith) (start, as_small index limit start (has, omega arith)))
      ]
    where
      at_most : (less : ℕ)
          → (found : IsFirstBelow (λ less. (xs : List ℕ) × IsSmallList limit count (Reaches index less) xs) (λ less. ((xs : List ℕ) × IsSmallList limit count (Reaches index less) xs) → ⊥) (suc limit) less)
          → (other : List ℕ) → P other → slice_index other index ≤ slice_index found.holds.0 index
      at_most less found other also = elim (le_decided (slice_index other index) (slice_index found.holds.0 index)) [
        | inl within ↦ within
        | inr beyond ↦ absurd (by beyond (found.before (limit - slice_index other index)))
      ]
        where
          by : (slice_index other index ≤ slice_index found.holds.0 index → ⊥)
              → (limit - slice_index other index < less → ((xs : List ℕ) × IsSmallList limit count (Reaches index (limit - slice_index other index)) xs) → ⊥) → ⊥
          by beyond none =
              none (grind (arith, beyond, small other also index, found.holds.1.has.1)) (other, as_small index (limit - slice_index other index) other (also, omega (arith, small other also index)))

  -- One is greatest at all indexes before any.
  pub greatest_below : (start : List ℕ) → P start → (end : ℕ) → (xs : List ℕ) × P xs × IsGreatestBelow end xs
  greatest_below start has zero = (start, has, λ other also index within. absurd (omega (arith, within)))
  greatest_below start has (suc end) =
      let before = greatest_below start has end in
      let here = greatest_at start has end in
      let same : length before.0 ≡ length here.0 = long before.0 before.1 ∙ sym (long here.0 here.1) in (
        greater_items before.0 here.0,
        greater before.0 here.0 before.1 here.1,
        λ other also index within. elim (le_decided end index) [
          | inl last ↦ (
              let is : index ≡ end = omega (arith, within, last) in
              subst (λ i. slice_index other i ≤ slice_index (greater_items before.0 here.0) i) (sym is)
              (omega (arith, here.2 other also, greater_items-at before.0 here.0 end same)))
          | inr earlier ↦ omega (arith, before.2 other also index (grind (arith, earlier, within)), greater_items-at before.0 here.0 index same)
        ],
      )
