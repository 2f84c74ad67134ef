-- Parts of a list by their ends.
use Rattle.std.proofs.Common.{◌≡◌, ℕ, ◌+◌, ◌-◌, ◌<◌, ◌≤◌, List, ◌++◌, length, take, drop, slice_range, ap, ◌∙◌, sym, arith, Contains}
use Rattle.std.proofs.lemmas.List.{take-take, drop-take, drop-drop, length-take, length-drop, drop-append-le}
use Rattle.std.proofs.lemmas.List.Edits.{length-between}
use Rattle.std.proofs.lemmas.Slice.{between_is}
use Rattle.std.proofs.Math.Seq.{take-add}
use Rattle.std.specs.List.{range_with_len}
use Rattle.std.proofs.lemmas.List.FromFn.{length-range_with_len, get_or-range_with_len}

-- how long a part is at most
length-slice_range : {X : Type 0} (xs : List X) (start end : ℕ) → length (slice_range xs start end) ≤ end - start
length-slice_range xs start end = simp (length-take, length-drop) (omega arith)

-- The part of the elements from the one index to before the other is these elements.
module _ {X : Type 0} (xs : List X) (start end : ℕ) (part : List X) (is : slice_range xs start end ≡ part) where
  -- the end comes after each element
  pub end-above : (n : ℕ) → n < length part → start + (n + 1) ≤ end
  end-above n h = omega (arith, length-slice_range xs start end, ap length is)

  -- the part after an element
  pub slice_range-after : (n : ℕ) → n < length part → slice_range xs (start + (n + 1)) end ≡ drop (n + 1) part
  slice_range-after n h =
      let within = end-above n h in
      let e : end - start ≡ (n + 1) + (end - (start + (n + 1))) = omega arith in
      ap (take (end - (start + (n + 1)))) (sym (drop-drop (n + 1) start xs))
      ∙ sym (drop-take (n + 1) (end - (start + (n + 1))) (drop start xs))
      ∙ ap (λ m. drop (n + 1) (take m (drop start xs))) (sym e)
      ∙ ap (drop (n + 1)) is

  -- the part before an element
  pub slice_range-before : (n : ℕ) → n < length part → slice_range xs start (start + n) ≡ take n part
  slice_range-before n h =
      let within = end-above n h in
      let e : start + n - start ≡ n = omega arith in
      ap (λ m. take m (drop start xs)) e ∙ sym (take-take n (end - start) (drop start xs) (omega arith)) ∙ ap (take n) is

-- The part and the elements that were written after it, where what lies before its end has stayed.
pub slice_range-longer : {X : Type 0} (ys xs : List X) (start end count : ℕ) → start ≤ end → end ≤ length xs → take end xs ≡ take end ys → slice_range xs start (end + count) ≡ slice_range ys start end ++ slice_range xs end (end + count)
slice_range-longer ys xs start end count order within same =
    let e : end + count - end ≡ count = omega arith in
    between_is xs start (end + count)
    ∙ ap (drop start) (take-add end count xs)
    ∙ drop-append-le start (take end xs) (take count (drop end xs)) (omega (arith, length-take end xs))
    ∙ ap (λ front. drop start front ++ take count (drop end xs)) same
    ∙ ap (λ front. front ++ take count (drop end xs)) (sym (between_is ys start end))
    ∙ ap (λ n. slice_range ys start end ++ take n (drop end xs)) (sym e)

-- how many elements were written
pub length-slice_range-written : {X : Type 0} (xs : List X) (end count : ℕ) → end + count ≤ length xs → length (slice_range xs end (end + count)) ≡ count
length-slice_range-written xs end count within = length-between xs end (end + count) within ∙ omega arith

-- each number below a limit is one of the numbers below it
pub Contains-range_with_len : (limit number : ℕ) → number < limit → Contains (range_with_len 0 limit) number
Contains-range_with_len limit number less =
    (number, omega (arith, less, length-range_with_len 0 limit), (let same : 0 + number ≡ number = omega arith in get_or-range_with_len 0 limit number number less ∙ same))
