-- Laws of choices among optional values and results, and of tests.
use Rattle.std.proofs.Common.{◌≡◌, ℕ, zero, suc, List, [], ◌∷◌, ◌++◌, length, slice_get, Option, Some, None, Ok, Err, map, cond, Bool, true, false, inl, inr, refl, sym, ap, subst, ◌∙◌, ◌⊎◌, ◌<◌, ◌≤◌, Result, arith, get_or}
use Rattle.std.specs.Option.{option_map, option_and_then, is_some, IsSomeAnd, option_map_or, ok_or, IfSome, option_or, is_none}
use Rattle.std.specs.List.{All, Contains}
use Rattle.tfpg_base.proofs.lemmas.lists.Elements.{Contains-head, Contains-tail, Contains-nil, Contains-cons_cases, slice_get-none}
use Rattle.tfpg_base.specs.Choice.{first_of, each_of, item_at, unless_refused}
use Rattle.std.proofs.lemmas.List.Elements.{All-nil, All-cons, All-head, All-tail}
use Rattle.std.proofs.lemmas.Option.{same_Some, none-some, slice_get_within, slice_get-get_or, slice_get-map}
use Rattle.std.proofs.lemmas.List.{length-map, map-append}
use Rattle.std.specs.Bool.{then_some}
use Rattle.std.proofs.lemmas.Bool.{false≢true}
use Rattle.std.specs.Prelude.{unwrap_or, IsErrAnd, IfErr, OnErr}

module _ {X : Type 0} where
  -- a value among the first is the first of all
  pub first_of-append_some : (first others : List (Option X)) (value : X) → first_of first ≡ Some value → first_of (first ++ others) ≡ Some value
  first_of-append_some [] others value is = absurd cc
  first_of-append_some (Some found ∷ first) others value is = is
  first_of-append_some (None ∷ first) others value is = first_of-append_some first others value is

  -- where there is none among the first, the others decide
  pub first_of-append_none : (first others : List (Option X)) → first_of first ≡ None → first_of (first ++ others) ≡ first_of others
  first_of-append_none [] others is = refl
  first_of-append_none (Some found ∷ first) others is = absurd cc
  first_of-append_none (None ∷ first) others is = first_of-append_none first others is

  -- values that there are, are there each
  pub each_of-some : (values : List X) → each_of (map Some values) ≡ Some values
  each_of-some [] = refl
  each_of-some (value ∷ values) = ap (option_map (λ (others : List X). value ∷ others)) (each_of-some values)

  -- one after another, where there is each of the one and of the other
  pub each_of-append : (first others : List (Option X)) (xs ys : List X) → each_of first ≡ Some xs → each_of others ≡ Some ys → each_of (first ++ others) ≡ Some (xs ++ ys)
  each_of-append [] others xs ys is are = let none : [] ≡ xs = cc in subst_nil none are where
    subst_nil : [] ≡ xs → each_of others ≡ Some ys → each_of others ≡ Some (xs ++ ys)
    subst_nil none all = rw (← none) all
  each_of-append (None ∷ first) others xs ys is are = absurd cc
  each_of-append (Some x ∷ first) others xs ys is are = go (each_of first) (λ all at. each_of-append first others all ys at are) refl is where
    go : (rest : Option (List X)) → ((all : List X) → each_of first ≡ Some all → each_of (first ++ others) ≡ Some (all ++ ys)) → each_of first ≡ rest
        → option_map (λ (all : List X). x ∷ all) rest ≡ Some xs → option_map (λ (all : List X). x ∷ all) (each_of (first ++ others)) ≡ Some (xs ++ ys)
    go None each at made = absurd cc
    go (Some all) each at made = let same : x ∷ all ≡ xs = cc in rw (← same) (ap (option_map (λ (more : List X). x ∷ more)) (each all at))

  -- where there is each, there is each of the others
  opened : (x : X) (others : Option (List X)) (xs : List X) → option_map (λ (ys : List X). x ∷ ys) others ≡ Some xs → (rest : List X) × (others ≡ Some rest) × (x ∷ rest ≡ xs)
  opened x None xs at = absurd cc
  opened x (Some rest) xs at = (rest, refl, cc)

  -- where there is each, it stands at its index
  pub each_of-at : (options : List (Option X)) (xs : List X) (k : ℕ) → each_of options ≡ Some xs → slice_get options k ≡ option_map Some (slice_get xs k)
  each_of-at [] [] k at = refl
  each_of-at [] (y ∷ ys) k at = absurd cc
  each_of-at (None ∷ options) xs k at = absurd cc
  each_of-at (Some x ∷ options) xs zero at = let parts = opened x (each_of options) xs at in ap (λ (ys : List X). option_map Some (slice_get ys 0)) parts.2
  each_of-at (Some x ∷ options) xs (suc k) at =
      let parts = opened x (each_of options) xs at in
      each_of-at options parts.0 k parts.1 ∙ ap (λ (ys : List X). option_map Some (slice_get ys (suc k))) parts.2

  -- and there are as many as options
  pub length-each_of : (options : List (Option X)) (xs : List X) → each_of options ≡ Some xs → length xs ≡ length options
  length-each_of [] [] at = refl
  length-each_of [] (y ∷ ys) at = absurd cc
  length-each_of (None ∷ options) xs at = absurd cc
  length-each_of (Some x ∷ options) xs at =
      let parts = opened x (each_of options) xs at in
      sym (ap length parts.2) ∙ ap suc (length-each_of options parts.0 parts.1)

  -- one more that there is
  pub each_of-push : (options : List (Option X)) (xs : List X) (x : X) → each_of options ≡ Some xs → each_of (options ++ Some x ∷ []) ≡ Some (xs ++ x ∷ [])
  each_of-push options xs x at = each_of-append options (Some x ∷ []) xs (x ∷ []) at refl

  -- where one is missing, there is not each
  pub each_of-none : (options : List (Option X)) (k : ℕ) → slice_get options k ≡ Some None → each_of options ≡ None
  each_of-none [] k at = absurd cc
  each_of-none (None ∷ options) k at = refl
  each_of-none (Some x ∷ options) zero at = absurd cc
  each_of-none (Some x ∷ options) (suc k) at = ap (option_map (λ (ys : List X). x ∷ ys)) (each_of-none options k at)

module _ {X Y : Type 0} (f : X → Option Y) where
  opened_image : (x : X) (xs : List X) (ys : List Y) → each_of (map f (x ∷ xs)) ≡ Some ys → (y : Y) × (rest : List Y) × (f x ≡ Some y) × (each_of (map f xs) ≡ Some rest) × (y ∷ rest ≡ ys)
  opened_image x xs ys at = by (f x) (each_of (map f xs)) refl refl at
    where
      by : (o : Option Y) (others : Option (List Y)) → f x ≡ o → each_of (map f xs) ≡ others → each_of (o ∷ map f xs) ≡ Some ys
          → (y : Y) × (rest : List Y) × (f x ≡ Some y) × (each_of (map f xs) ≡ Some rest) × (y ∷ rest ≡ ys)
      by None others is are all = absurd cc
      by (Some y) None is are all = absurd cc
      by (Some y) (Some rest) is are all = (y, rest, is, are, cc)

  -- what stands among the values is the value of an element
  pub Contains-each_of_only : (xs : List X) (ys : List Y) (y : Y) → each_of (map f xs) ≡ Some ys → Contains ys y → (x : X) × Contains xs x × (f x ≡ Some y)
  Contains-each_of_only [] ys y at member = absurd (let none : [] ≡ ys = cc in Contains-nil y (subst (λ zs. Contains zs y) (sym none) member))
  Contains-each_of_only (x ∷ xs) ys y at member =
      let parts = opened_image x xs ys at in
      elim (Contains-cons_cases parts.0 parts.1 y (subst (λ zs. Contains zs y) (sym parts.4) member)) [
        | inl same ↦ (x, Contains-head x xs, parts.2 ∙ ap Some same)
        | inr more ↦ (let found = Contains-each_of_only xs parts.1 y parts.3 more in (found.0, Contains-tail x xs found.0 found.1, found.2))
      ]

  -- and the value of each element stands among them
  pub Contains-each_of : (xs : List X) (ys : List Y) (x : X) → each_of (map f xs) ≡ Some ys → Contains xs x → (y : Y) × Contains ys y × (f x ≡ Some y)
  Contains-each_of [] ys x at member = absurd (Contains-nil x member)
  Contains-each_of (first ∷ others) ys x at member =
      let parts = opened_image first others ys at in
      elim (Contains-cons_cases first others x member) [
        | inl same ↦ (parts.0, subst (λ zs. Contains zs parts.0) parts.4 (Contains-head parts.0 parts.1), ap f (sym same) ∙ parts.2)
        | inr more ↦ (
            let found = Contains-each_of others parts.1 x parts.3 more in
            (found.0, subst (λ zs. Contains zs found.0) parts.4 (Contains-tail parts.0 parts.1 found.0 found.1), found.2)
            )
      ]

  -- There is each value where each element has one.
  pub each_of-from_each : (xs : List X) → ((x : X) → Contains xs x → (y : Y) × (f x ≡ Some y)) → (ys : List Y) × (each_of (map f xs) ≡ Some ys)
  each_of-from_each [] had = ([], refl)
  each_of-from_each (x ∷ xs) had =
      let first = had x (Contains-head x xs) in
      let rest = each_of-from_each xs (λ y member. had y (Contains-tail x xs y member)) in
      (first.0 ∷ rest.0, ap (λ (o : Option Y). each_of (o ∷ map f xs)) first.1 ∙ ap (option_map (λ (ys : List Y). first.0 ∷ ys)) rest.1)

module _ {X E : Type 0} where
  -- what is refused has that refusal
  pub refusal-from_err : (refusal : Option E) (value : X) (cause : E) → unless_refused refusal value ≡ Err cause → refusal ≡ Some cause
  refusal-from_err None value cause is = absurd cc
  refusal-from_err (Some found) value cause is = cc

  -- what is not refused has none, and is the value
  pub refusal-from_ok : (refusal : Option E) (value result : X) → unless_refused refusal value ≡ Ok result → (refusal ≡ None) × (value ≡ result)
  refusal-from_ok None value result is = (refl, cc)
  refusal-from_ok (Some found) value result is = absurd cc

module _ {X Y : Type 0} where
  -- what a chain of options comes from
  pub option_and_then-some : (f : X → Option Y) (o : Option X) (y : Y) → option_and_then f o ≡ Some y → (x : X) × (o ≡ Some x) × (f x ≡ Some y)
  option_and_then-some f None y is = absurd cc
  option_and_then-some f (Some x) y is = (x, refl, is)

  -- what an image comes from
  pub option_map-some : (f : X → Y) (o : Option X) (y : Y) → option_map f o ≡ Some y → (x : X) × (o ≡ Some x) × (f x ≡ y)
  option_map-some f None y is = absurd cc
  option_map-some f (Some x) y is = (x, refl, let same : f x ≡ y = cc in same)

module _ {X : Type 0} where
  -- what an option has, by its test
  pub is_some-there : (o : Option X) → is_some o ≡ true → (x : X) × (o ≡ Some x)
  is_some-there None is = absurd (cc)
  is_some-there (Some x) is = (x, refl)

  pub is_some-none : (o : Option X) → is_some o ≡ false → o ≡ None
  is_some-none None is = refl
  is_some-none (Some x) is = absurd (cc)

  -- what there is where a test holds
  pub then_some-true : (b : Bool) (x y : X) → then_some b x ≡ Some y → (b ≡ true) × (x ≡ y)
  then_some-true true x y at = (refl, same_Some x y at)
  then_some-true false x y at = absurd (none-some y at)

  -- a test that gives nothing fails
  pub then_some-none : (b : Bool) (x : X) → then_some b x ≡ None → b ≡ false
  then_some-none true x none = absurd cc
  then_some-none false x none = refl

  -- an option that can be no value is none
  pub none-from_never : (o : Option X) → ((x : X) → o ≡ Some x → ⊥) → o ≡ None
  none-from_never None never = refl
  none-from_never (Some x) never = absurd (never x refl)

  -- a value where a failed test gives nothing comes from the option, and the test holds
  pub cond-some_first : (test : Bool) (here : Option X) (x : X) → cond test here None ≡ Some x → (test ≡ true) × (here ≡ Some x)
  cond-some_first true here x at = (refl, at)
  cond-some_first false here x at = absurd cc

  -- a value where a test that holds gives nothing comes from the option, and the test fails
  pub cond-some_second : (b : Bool) (o : Option X) (x : X) → cond b None o ≡ Some x → (b ≡ false) × (o ≡ Some x)
  cond-some_second true o x at = absurd cc
  cond-some_second false o x at = (refl, at)

  -- where there is none of all, each is none
  pub first_of-none : (options : List (Option X)) → first_of options ≡ None → All (λ o. o ≡ None) options
  first_of-none [] none = All-nil (λ (o : Option X). o ≡ None)
  first_of-none (Some x ∷ options) none = absurd cc
  first_of-none (None ∷ options) none = All-cons (λ (o : Option X). o ≡ None) None options refl (first_of-none options none)

  -- and where each is none, there is none of all
  pub first_of-all_none : (options : List (Option X)) → All (λ o. o ≡ None) options → first_of options ≡ None
  first_of-all_none [] none = refl
  first_of-all_none (None ∷ options) none = first_of-all_none options (All-tail (λ (o : Option X). o ≡ None) None options none)
  first_of-all_none (Some x ∷ options) none = absurd (let no : Some x ≡ None = All-head (λ (o : Option X). o ≡ None) (Some x) options none in cc)

  -- a value of which a fact holds is one that there is
  pub IsSomeAnd-from : (P : X → Type 0) (o : Option X) (x : X) → o ≡ Some x → P x → IsSomeAnd o P
  IsSomeAnd-from P None x at holds = absurd (none-some x at)
  IsSomeAnd-from P (Some y) x at holds = subst P (sym (same_Some y x at)) holds

  -- and where there is one, the fact holds of it
  pub IsSomeAnd-there : (P : X → Type 0) (o : Option X) → IsSomeAnd o P → (x : X) × (o ≡ Some x) × P x
  IsSomeAnd-there P None none = absurd none
  IsSomeAnd-there P (Some x) holds = (x, refl, holds)

module _ {X Y : Type 0} where
  -- where there is no image, there is no value
  pub option_map-none : (f : X → Y) (o : Option X) → option_map f o ≡ None → o ≡ None
  option_map-none f None none = refl
  option_map-none f (Some x) none = absurd cc

  -- where one function gives the values that another gives, it gives each where that one does
  pub each_of-weaker : (f g : X → Option Y) → ((x : X) (y : Y) → f x ≡ Some y → g x ≡ Some y)
      → (xs : List X) (ys : List Y) → each_of (map f xs) ≡ Some ys → each_of (map g xs) ≡ Some ys
  each_of-weaker f g stays [] ys each = each
  each_of-weaker f g stays (x ∷ xs) ys each =
      let parts = opened_image f x xs ys each in
      ap (λ (o : Option Y). each_of (o ∷ map g xs)) (stays x parts.0 parts.2)
      ∙ ap (option_map (λ (zs : List Y). parts.0 ∷ zs)) (each_of-weaker f g stays xs parts.1 parts.3)
      ∙ ap Some parts.4

-- what a function gives of what another gives
pub option_map-twice : {A B C : Type 0} (f : A → B) (g : B → C) (o : Option A) → option_map g (option_map f o) ≡ option_map (λ x. g (f x)) o
option_map-twice f g None = refl
option_map-twice f g (Some x) = refl

-- a choice between a value and the same
pub cond-same : {X : Type 0} (b : Bool) (x : X) → cond b x x ≡ x
cond-same true x = refl
cond-same false x = refl

-- where there are two values, there is what is made of both
pub is_some-both : {X Y Z : Type 0} (f : X → Y → Z) (first : Option X) (second : Option Y) → is_some first ≡ true → is_some second ≡ true
    → is_some (option_and_then (λ x. option_map (λ y. f x y) second) first) ≡ true
is_some-both f None second here there = absurd (false≢true here)
is_some-both f (Some x) None here there = absurd (false≢true there)
is_some-both f (Some x) (Some y) here there = refl

module _ {X : Type 0} where
  -- an option has no value, or it has one
  pub option_cases : (o : Option X) → (o ≡ None) ⊎ ((x : X) × (o ≡ Some x))
  option_cases None = inl refl
  option_cases (Some x) = inr (x, refl)

  -- an option has not both a value and none
  pub some-not_none : (o : Option X) (x : X) → o ≡ Some x → o ≡ None → ⊥
  some-not_none o x some none = cc

  -- where there is none of all, a test whose value stands first fails, and there is none of the others
  pub first_of-none_tested : (holds : Bool) (x : X) (others : List (Option X))
      → first_of (then_some holds x ∷ others) ≡ None → (holds ≡ false) × (first_of others ≡ None)
  first_of-none_tested true x others none = absurd cc
  first_of-none_tested false x others none = (refl, none)

  -- where there is no value, a test that gives one where it fails holds
  pub cond-none_second : (b : Bool) (x : X) → cond b None (Some x) ≡ None → b ≡ true
  cond-none_second true x none = refl
  cond-none_second false x none = absurd cc

-- where a chain of options has a value, so has its first
pub is_some-option_and_then : {X Y : Type 0} (f : X → Option Y) (found : Option X) → is_some (option_and_then f found) ≡ true → is_some found ≡ true
is_some-option_and_then f None is = cc
is_some-option_and_then f (Some x) is = refl

module _ {X : Type 0} where
  -- the number of an item, counted from 1, is within its list
  pub number_in : (list : Option (List X)) (number : ℕ) (x : X) → option_and_then (λ (xs : List X). item_at xs number) list ≡ Some x → (1 ≤ number) × (number ≤ option_map_or length list 0)
  number_in None number x is = cc
  number_in (Some xs) zero x is = cc
  number_in (Some xs) (suc before) x is = let within = slice_get_within xs before x is in (omega arith, omega arith)

  -- and a number from 1 on that no item has is past the list
  pub number_out : (list : Option (List X)) (number : ℕ) → option_and_then (λ (xs : List X). item_at xs number) list ≡ None → 1 ≤ number → option_map_or length list 0 < number
  number_out None number is low = omega arith
  number_out (Some xs) zero is low = absurd (omega arith)
  number_out (Some xs) (suc before) is low = let past = slice_get-none xs before is in omega arith

module _ {X E : Type 0} where
  -- a value is no fault
  pub ok-err : (x : X) (e : E) → ◌≡◌ {A = Result X E} (Ok x) (Err e) → ⊥
  ok-err x e is = cc

  -- equal results have equal faults
  pub same_Err : (fault other : E) → ◌≡◌ {A = Result X E} (Err fault) (Err other) → fault ≡ other
  same_Err fault other is = cc

module _ {X Y : Type 0} (f : X → Option Y) where
  image_at : (xs : List X) (index : ℕ) (d : X) → index < length xs → slice_get (map f xs) index ≡ Some (f (get_or xs index d))
  image_at xs index d within = slice_get-map f xs index ∙ ap (option_map f) (slice_get-get_or xs index d within)

  -- where each item has a value, that of the item at an index stands there
  pub each_of-map_at : (xs : List X) (ys : List Y) (index : ℕ) (d : X) → index < length xs → each_of (map f xs) ≡ Some ys → f (get_or xs index d) ≡ slice_get ys index
  each_of-map_at xs ys index d within each = by (slice_get ys index) (sym (image_at xs index d within) ∙ each_of-at (map f xs) ys index each)
    where
      by : (o : Option Y) → Some (f (get_or xs index d)) ≡ option_map Some o → f (get_or xs index d) ≡ o
      by None at = absurd cc
      by (Some y) at = cc

  -- where an item has no value, not each has one
  pub each_of-map_none : (xs : List X) (index : ℕ) (d : X) → index < length xs → f (get_or xs index d) ≡ None → each_of (map f xs) ≡ None
  each_of-map_none xs index d within none = each_of-none (map f xs) index (image_at xs index d within ∙ ap Some none)

  -- there are as many values as items
  pub length-each_of_map : (xs : List X) (ys : List Y) → each_of (map f xs) ≡ Some ys → length ys ≡ length xs
  length-each_of_map xs ys each = length-each_of (map f xs) ys each ∙ length-map xs f

  -- one more item that has a value
  pub each_of-map_push : (xs : List X) (x : X) (ys : List Y) (y : Y) → each_of (map f xs) ≡ Some ys → f x ≡ Some y → each_of (map f (xs ++ x ∷ [])) ≡ Some (ys ++ y ∷ [])
  each_of-map_push xs x ys y each is =
      ap each_of (map-append f xs (x ∷ [])) ∙ ap (λ (o : Option Y). each_of (map f xs ++ o ∷ [])) is ∙ each_of-push (map f xs) ys y each

module _ {X Y : Type 0} where
  -- a chain that gives a value for each value is a map
  pub option_and_then-always : (f : X → Y) (o : Option X) → option_and_then (λ x. Some (f x)) o ≡ option_map f o
  option_and_then-always f None = refl
  option_and_then-always f (Some x) = refl

  -- what holds of what a function gives of each value holds of what a chain gives
  pub IfSome-option_and_then : (P : Y → Type 0) (f : X → Option Y) (o : Option X) → ((x : X) → o ≡ Some x → IfSome (f x) P) → IfSome (option_and_then f o) P
  IfSome-option_and_then P f None each = tt
  IfSome-option_and_then P f (Some x) each = each x refl

  -- what holds of the image of each value holds of the image
  pub IfSome-option_map : (P : Y → Type 0) (f : X → Y) (o : Option X) (y : Y) → IfSome o (λ x. P (f x)) → option_map f o ≡ Some y → P y
  IfSome-option_map P f None y holds at = absurd cc
  IfSome-option_map P f (Some x) y holds at = subst P (same_Some (f x) y at) holds

module _ {X : Type 0} where
  -- what holds of each value that an option can have holds of the one that it has
  pub IfSome-from : (P : X → Type 0) (o : Option X) → ((x : X) → o ≡ Some x → P x) → IfSome o P
  IfSome-from P None each = tt
  IfSome-from P (Some x) each = each x refl

  -- what holds of a value holds of it where a test gives it
  pub IfSome-then_some : (P : X → Type 0) (test : Bool) (x : X) → P x → IfSome (then_some test x) P
  IfSome-then_some P true x holds = holds
  IfSome-then_some P false x holds = tt

  -- a test that gives no value fails
  pub cond-none_first : (test : Bool) (x : X) → cond test (Some x) None ≡ None → test ≡ false
  cond-none_first true x none = absurd cc
  cond-none_first false x none = refl

module _ {X E : Type 0} where
  -- an error in the place of a value is that error, and there is no value
  pub ok_or-err : (o : Option X) (error other : E) → ok_or o error ≡ Err other → (o ≡ None) × (error ≡ other)
  ok_or-err None error other is = let same : error ≡ other = cc in (refl, same)
  ok_or-err (Some x) error other is = absurd cc

  -- where there is no error, there is the value
  pub ok_or-ok : (o : Option X) (error : E) (x : X) → ok_or o error ≡ Ok x → o ≡ Some x
  ok_or-ok None error x is = absurd cc
  ok_or-ok (Some y) error x is = let same : y ≡ x = cc in ap Some same

-- where there is no image, the image of what stands in for the value is the one that stands in
pub unwrap_or-option_map : {X Y : Type 0} (f : X → Y) (o : Option X) (x : X) → unwrap_or (option_map f o) (f x) ≡ f (unwrap_or o x)
unwrap_or-option_map f None x = refl
unwrap_or-option_map f (Some y) x = refl

-- an option, or else none, is the option
pub option_or-none : {X : Type 0} (o : Option X) → option_or o None ≡ o
option_or-none None = refl
option_or-none (Some x) = refl

module _ {T E : Type 0} where
  -- a result whose error is this one is this error
  pub Err-from : (result : Result T E) (fault : E) → IsErrAnd result (λ e. e ≡ fault) → result ≡ Err fault
  Err-from (Ok done) fault is = absurd is
  Err-from (Err e) fault is = ap Err is

  -- what holds of the error that a result has holds of its error
  pub IfErr-from : (P : E → Type 0) (result : Result T E) (fault : E) → IsErrAnd result (λ e. e ≡ fault) → P fault → IfErr result P
  IfErr-from P (Ok done) fault is holds = absurd is
  IfErr-from P (Err e) fault is holds = subst P (sym is) holds

  -- what follows of the one error that a result may have, from two facts that an error brings, holds of its error
  pub IfErr-from_both : (P : E → Type 0) (result : Result T E) (fault : E) (A B : Type 0) → IfErr result (λ e. e ≡ fault) → OnErr result A → OnErr result B
      → (A → B → P fault) → IfErr result P
  IfErr-from_both P (Ok done) fault A B only one other holds = tt
  IfErr-from_both P (Err e) fault A B only one other holds = subst P (sym only) (holds one other)

-- a value stays one when it is mapped
pub is_some-option_map : {X Y : Type 0} (f : X → Y) (o : Option X) → is_some (option_map f o) ≡ is_some o
is_some-option_map f None = refl
is_some-option_map f (Some x) = refl

-- a map leaves whether there is nothing
pub is_none-option_map : {X Y : Type 0} (f : X → Y) (o : Option X) → is_none (option_map f o) ≡ is_none o
is_none-option_map f None = refl
is_none-option_map f (Some x) = refl
