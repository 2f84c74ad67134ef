-- How tests in a row, and of each item in turn, pass and fail.
use Rattle.std.proofs.Common.{◌≡◌, ◌↔◌, ◌<◌, ◌≤◌, ℕ, Bool, false, zero, suc, ◌+◌, ◌∷◌, [], ◌++◌, List, Some, length, get_or, take, slice_get, inl, inr, refl, sym, ap, subst, arith, ◌∙◌, append-nil, append_assoc}
use Rattle.std.specs.Prelude.{IsTrue}
use Rattle.std.proofs.lemmas.Bool.{false≢true}
use Rattle.std.proofs.lemmas.List.Elements.{All-push, All-nil}
use Rattle.std.proofs.lemmas.Option.{none-some, same_Some, slice_get_within, slice_get_read, slice_get-get_or}
use Rattle.tfpg_base.proofs.lemmas.lists.Cuts.{take-next}
use Rattle.tfpg_base.proofs.lemmas.lists.Elements.{All-middle}
use Rattle.tfpg_base.proofs.lemmas.lists.Sequences.{below_or_last}
use Rattle.tfpg_check.specs.declared.cause.CheckCause.{CheckCause}
use Rattle.tfpg_check.specs.Tests.{Fails, Owes, Passes, Then, InTurn, HoldInTurn}
use Rattle.tfpg_check.specs.inside.InTurn.{HoldBefore, PassesWith}
use Rattle.tfpg_check.specs.inside.Parts.{IsNextAfter}

-- where a test fails, what it tests does not hold
pub not_where_false : (P : Type 0) (test : Bool) → test ≡ false → (IsTrue test → P) × (P → IsTrue test) → P → ⊥
not_where_false P test fails exact holds = false≢true (sym fails ∙ exact.1 holds)

-- what must hold passes where it holds
pub owes_passes : (condition : Type 0) (at : ℕ) (why : CheckCause) → condition → Passes (Owes condition at why)
owes_passes condition at why holds line cause fails = fails.2 holds

-- two tests in a row pass where each does
pub then_passes : (first next : Fails) → Passes first → Passes next → Passes (Then first next)
then_passes first next one other line cause (inl fails) = one line cause fails
then_passes first next one other line cause (inr fails) = other line cause fails.1

module _ {X : Type 0} (test : List X → X → Fails) where
  -- the first item whose test fails
  in_turn_from : (before xs : List X) (index : ℕ) (x : X) (line : ℕ) (why : CheckCause) → slice_get xs index ≡ Some x
      → ((k : ℕ) (y : X) → k < index → slice_get xs k ≡ Some y → Passes (test (before ++ take k xs) y)) → test (before ++ take index xs) x line why → InTurn test before xs line why
  in_turn_from before [] index x line why at passes fails = absurd (none-some x at)
  in_turn_from before (y ∷ xs) zero x line why at passes fails =
      inl (subst (λ (z : X). test before z line why) (sym (same_Some y x at)) (subst (λ (b : List X). test b x line why) (append-nil before) fails))
  in_turn_from before (y ∷ xs) (suc index) x line why at passes fails = inr (
    subst (λ (b : List X). Passes (test b y)) (append-nil before) (passes 0 y (omega arith) refl),
    in_turn_from (before ++ y ∷ []) xs index x line why at
        (λ k z less there. subst (λ (b : List X). Passes (test b z)) (sym (append_assoc before (y ∷ []) (take k xs))) (passes (suc k) z (omega (arith, less)) there))
        (subst (λ (b : List X). test b x line why) (sym (append_assoc before (y ∷ []) (take index xs))) fails),
  )

  -- Where the test of an item fails, and those before it pass, the tests in turn fail there.
  pub in_turn_fails : (xs : List X) (index : ℕ) (x : X) (line : ℕ) (why : CheckCause) → slice_get xs index ≡ Some x → HoldBefore (PassesWith test) xs index → test (take index xs) x line why
      → InTurn test [] xs line why
  in_turn_fails xs index x line why at passes fails = in_turn_from [] xs index x line why at (λ k y less there. passes k y less there) fails

  in_turn_pass_from : (before xs : List X) → ((k : ℕ) (y : X) → slice_get xs k ≡ Some y → Passes (test (before ++ take k xs) y)) → Passes (InTurn test before xs)
  in_turn_pass_from before [] passes line why fails = fails
  in_turn_pass_from before (y ∷ xs) passes line why (inl fails) = subst (λ (b : List X). Passes (test b y)) (append-nil before) (passes 0 y refl) line why fails
  in_turn_pass_from before (y ∷ xs) passes line why (inr fails) =
      in_turn_pass_from (before ++ y ∷ []) xs (λ k z there. subst (λ (b : List X). Passes (test b z)) (sym (append_assoc before (y ∷ []) (take k xs))) (passes (suc k) z there)) line why fails.1

  -- Where the test of each item passes, they pass in turn.
  pub in_turn_passes : (xs : List X) → HoldInTurn (PassesWith test) xs → Passes (InTurn test [] xs)
  in_turn_passes xs passes = in_turn_pass_from [] xs (λ k y there. passes k y there)

-- tests that fail alike fail alike in turn
pub in_turn_alike : {X : Type 0} (test other : List X → X → Fails) → ((before : List X) (x : X) (line : ℕ) (why : CheckCause) → test before x line why ↔ other before x line why) → (before xs : List X)
    (line : ℕ) (why : CheckCause) → InTurn test before xs line why → InTurn other before xs line why
in_turn_alike test other alike before [] line why fails = fails
in_turn_alike test other alike before (x ∷ xs) line why (inl fails) = inl ((alike before x line why).0 fails)
in_turn_alike test other alike before (x ∷ xs) line why (inr fails) =
    inr (λ at cause also. fails.0 at cause ((alike before x at cause).1 also), in_turn_alike test other alike (before ++ x ∷ []) xs line why fails.1)

module _ {X : Type 0} (holds : List X → X → Type 0) where
  pub hold_before_none : (xs : List X) → HoldBefore holds xs 0
  hold_before_none xs index x less at = absurd (omega (arith, less))

  -- what holds of each item before one, and of that one
  pub hold_before_more : (xs : List X) (end : ℕ) (x : X) → slice_get xs end ≡ Some x → HoldBefore holds xs end → holds (take end xs) x → HoldBefore holds xs (end + 1)
  hold_before_more xs end x there before here index y less at = elim (below_or_last index end less) [
    | inl earlier ↦ before index y earlier at
    | inr same ↦
        let also : x ≡ y = same_Some x y (sym there ∙ ap (slice_get xs) (sym same) ∙ at) in
        subst (λ (z : X). holds (take index xs) z) also (subst (λ (n : ℕ). holds (take n xs) x) (sym same) here)
  ]

  pub hold_before_all : (xs : List X) (end : ℕ) → length xs ≤ end → HoldBefore holds xs end → HoldInTurn holds xs
  hold_before_all xs end all before index x at = before index x (omega (arith, all, slice_get_within xs index x at)) at

-- what holds of each item before one, weakened
pub hold_before_weaker : {X : Type 0} (holds other : List X → X → Type 0) → ((before : List X) (x : X) → holds before x → other before x) → (xs : List X) (end : ℕ) → HoldBefore holds xs end
    → HoldBefore other xs end
hold_before_weaker holds other weaker xs end before index x less at = weaker (take index xs) x (before index x less at)

-- ---- numbers that rise

module _ {X : Type 0} (number : X → ℕ) where
  pub next_none : IsNextAfter number [] 0
  next_none above = (λ all. omega arith, λ least. All-nil (λ (x : X). number x < above))

  -- after one item more, whose number is the next one or a greater one
  pub next_more : (before : List X) (next : ℕ) (x : X) → IsNextAfter number before next → next ≤ number x → IsNextAfter number (before ++ x ∷ []) (number x + 1)
  next_more before next x is least above = (
    λ all. omega (arith, All-middle (λ (y : X). number y < above) before x [] all),
    λ within. All-push (λ (y : X). number y < above) before x ((is above).1 (omega (arith, least, within))) (omega (arith, within)),
  )

  pub next_step : (xs : List X) (index next : ℕ) (x : X) (own : ℕ) → slice_get xs index ≡ Some x → IsNextAfter number (take index xs) next → next ≤ number x → own ≡ number x
      → IsNextAfter number (take (index + 1) xs) (own + 1)
  next_step xs index next x own at is least same =
      subst (λ (n : ℕ). IsNextAfter number (take (index + 1) xs) (n + 1)) (sym same)
      (subst (λ (before : List X). IsNextAfter number before (number x + 1)) (sym (take-next xs index x at)) (next_more (take index xs) next x is least))

-- ---- items

-- the item that a loop reads in a list that is lent
pub item_read : {X : Type 0} (xs lent : List X) (index : ℕ) (x : X) → lent ≡ xs → index < length lent → x ≡ get_or lent index x → slice_get xs index ≡ Some x
item_read xs lent index x same within is = subst (λ (ys : List _). slice_get ys index ≡ Some x) same (slice_get_read lent (length lent) index x refl within is)

-- the value that stands there
pub value_read : {X : Type 0} (xs lent : List X) (index : ℕ) (d : X) → lent ≡ xs → index < length lent → slice_get xs index ≡ Some (get_or lent index d)
value_read xs lent index d same within = subst (λ (ys : List _). slice_get ys index ≡ Some (get_or lent index d)) same (slice_get-get_or lent index d within)
