-- The values that there are of a list's items: whence they come, and how many pass a test.
use Rattle.std.proofs.Common.{◌≡◌, ◌≢◌, ◌+◌, ◌<◌, Bool, false, cond, List, [], ◌∷◌, ◌++◌, length, map, All, Option, Some, None, is_none, option_map, filter_map, count_by, refl, ap, sym, ◌∙◌, arith, ℕ, get_or, slice_get}
use Rattle.std.specs.List.{AllZip, list_any, cons_option, flat_map}
use Rattle.std.specs.Option.{option_map_or, unwrap_or}
use Rattle.std.proofs.lemmas.Bool.{or_parts}
use Rattle.std.proofs.lemmas.List.Sums.{sum_by-cons}
use Rattle.std.proofs.lemmas.List.Elements.{All-head, All-tail, All-nil, All-cons}
use Rattle.std.specs.Str.{bytes_eq}
use Rattle.std.proofs.lemmas.Option.{slice_get-get_or, same_Some}
use Rattle.tfpg_base.proofs.lemmas.lists.SameBytes.{bytes_eq-false}
use Rattle.tfpg_base.proofs.lemmas.lists.Valued.{filter_map-none}
use Rattle.tfpg_base.proofs.lemmas.lists.Elements.{All-list_any_none}

module _ {X Y : Type 0} (look : X → Option Y) where
  -- an item that is not missed is found
  pub found : (x : X) → is_none (look x) ≡ false → (y : Y) × (look x ≡ Some y)
  found x here = by (look x) here
    where
      by : (o : Option Y) → is_none o ≡ false → (y : Y) × (o ≡ Some y)
      by None here = absurd cc
      by (Some y) here = (y, refl)

  -- where an item is found, the values begin with its value
  pub filter_map-found : (x : X) (y : Y) (xs : List X) → look x ≡ Some y → filter_map look (x ∷ xs) ≡ y ∷ filter_map look xs
  filter_map-found x y xs is = ap (λ o. cons_option o (filter_map look xs)) is

  -- items of which none is missed have values where there are any
  pub filter_map-some : (xs : List X) → 0 < length xs → list_any (λ x. is_none (look x)) xs ≡ false → filter_map look xs ≢ []
  filter_map-some [] some here empty = omega (arith, some)
  filter_map-some (x ∷ xs) some here empty =
      let first = found x (or_parts (is_none (look x)) _ here).0 in
      let begins : filter_map look (x ∷ xs) ≡ first.0 ∷ filter_map look xs = filter_map-found x first.0 xs first.1 in
      cc

  -- where the values lead back to the items, no item is missed, and all are had back
  pub filter_map-back : (read : Y → Option X) → ((x : X) (y : Y) → look x ≡ Some y → read y ≡ Some x) → (xs : List X)
      → list_any (λ x. is_none (look x)) xs ≡ false → filter_map read (filter_map look xs) ≡ xs
  filter_map-back read leads [] here = refl
  filter_map-back read leads (x ∷ xs) here =
      let parts = or_parts (is_none (look x)) _ here in
      let first = found x parts.0 in
      ap (filter_map read) (filter_map-found x first.0 xs first.1)
      ∙ (λ i. cons_option (leads x first.0 first.1 i) (filter_map-back read leads xs parts.1 i))

  -- items that all fail a test without which there is no value have none
  pub filter_map-unlike : (p : X → Bool) → ((x : X) → p x ≡ false → look x ≡ None) → (xs : List X) → list_any p xs ≡ false
      → filter_map look xs ≡ []
  filter_map-unlike p fails xs all = filter_map-none look xs (λ index d within. fails (get_or xs index d) (All-list_any_none p xs all index d within))

  -- where each gives what it was made of
  pub filter_map-made : (make : Y → X) (ys : List Y) → All (λ y. look (make y) ≡ Some y) ys → filter_map look (map make ys) ≡ ys
  filter_map-made make [] gives = refl
  filter_map-made make (y ∷ ys) gives =
      λ i. cons_option (All-head (λ z. look (make z) ≡ Some z) y ys gives i)
      (filter_map-made make ys (All-tail (λ z. look (make z) ≡ Some z) y ys gives) i)

  -- where each gives what it is related to
  pub filter_map-related : (R : Y → X → Type 0) → ((y : Y) (x : X) → R y x → look x ≡ Some y) → (ys : List Y) (xs : List X)
      → AllZip R ys xs → filter_map look xs ≡ ys
  filter_map-related R gives [] [] related = refl
  filter_map-related R gives [] (x ∷ xs) related = absurd related
  filter_map-related R gives (y ∷ ys) [] related = absurd related
  filter_map-related R gives (y ∷ ys) (x ∷ xs) related =
      λ i. cons_option (gives y x related.0 i) (filter_map-related R gives ys xs related.1 i)

-- as many values pass as items whose value passes
pub count_by-filter_map : {X Y : Type 0} (value : X → Option Y) (test : Y → Bool) (xs : List X)
    → count_by (λ x. option_map_or test (value x) false) xs ≡ count_by test (filter_map value xs)
count_by-filter_map value test [] = refl
count_by-filter_map value test (x ∷ xs) =
    sum_by-cons (λ y. cond (option_map_or test (value y) false) 1 0) x xs ∙ by (value x) (count_by-filter_map value test xs)
  where
    by : (o : Option _) → count_by (λ y. option_map_or test (value y) false) xs ≡ count_by test (filter_map value xs)
        → cond (option_map_or test o false) 1 0 + count_by (λ y. option_map_or test (value y) false) xs ≡ count_by test (cons_option o (filter_map value xs))
    by None rest = omega (arith, rest)
    by (Some y) rest = ap (λ n. cond (test y) 1 0 + n) rest ∙ sym (sum_by-cons (λ z. cond (test z) 1 0) y (filter_map value xs))

-- the lists of what is found are those of the items, with none for an item that finds nothing
pub flat_map-filter_map : {X Y Z : Type 0} (g : Y → List Z) (h : X → Option Y) (xs : List X)
    → flat_map g (filter_map h xs) ≡ flat_map (λ x. unwrap_or (option_map g (h x)) []) xs
flat_map-filter_map g h [] = refl
flat_map-filter_map {Y = Y} {Z = Z} g h (x ∷ xs) = by (h x) (flat_map-filter_map g h xs)
  where
    by : (o : Option Y) → flat_map g (filter_map h xs) ≡ flat_map (λ x. unwrap_or (option_map g (h x)) []) xs
        → flat_map g (cons_option o (filter_map h xs)) ≡ unwrap_or (option_map g o) [] ++ flat_map (λ x. unwrap_or (option_map g (h x)) []) xs
    by None e = e
    by (Some y) e = ap (λ (t : List Z). g y ++ t) e

-- what is read at numbers that are all within a list
pub filter_map-slice_get : {X : Type 0} (xs : List X) (d : X) (numbers : List ℕ) → All (λ number. number < length xs) numbers
    → filter_map (slice_get xs) numbers ≡ map (λ number. get_or xs number d) numbers
filter_map-slice_get xs d [] within = refl
filter_map-slice_get xs d (number ∷ numbers) within =
    λ i. cons_option (slice_get-get_or xs number d (All-head (λ n. n < length xs) number numbers within) i)
    (filter_map-slice_get xs d numbers (All-tail (λ n. n < length xs) number numbers within) i)

-- where values lead back to their words, the value of a word that is none of others is not among theirs
pub filter_map-unlike_others : {Y : Type 0} (look : List ℕ → Option Y) (read : Y → Option (List ℕ))
    → ((word : List ℕ) (y : Y) → look word ≡ Some y → read y ≡ Some word) → (word : List ℕ) (y : Y) (others : List (List ℕ)) → look word ≡ Some y
    → list_any (bytes_eq word) others ≡ false → All (λ other. y ≢ other) (filter_map look others)
filter_map-unlike_others look read leads word y [] is differs = All-nil (λ other. y ≢ other)
filter_map-unlike_others {Y = Y} look read leads word y (first ∷ others) is differs =
    let parts = or_parts (bytes_eq word first) _ differs in
    by parts.0 (look first) refl (filter_map-unlike_others look read leads word y others is parts.1)
  where
    by : bytes_eq word first ≡ false → (o : Option Y) → look first ≡ o
        → All (λ other. y ≢ other) (filter_map look others)
        → All (λ other. y ≢ other) (cons_option o (filter_map look others))
    by unlike None none rest = rest
    by unlike (Some other) some rest =
        All-cons (λ other. y ≢ other) other (filter_map look others)
        (λ same. bytes_eq-false word first unlike (same_Some word first (sym (leads word y is) ∙ ap read same ∙ leads first other some)))
        rest
