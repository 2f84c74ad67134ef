-- The numbers of the kept panels.
use Rattle.std.proofs.Common.{◌≡◌, ℕ, suc, zero, ◌+◌, ◌<◌, ◌≤◌, List, [], ◌∷◌, ◌++◌, length, take, drop, remove, All, AllPairs, get_or, refl, sym, ap, subst, ◌∙◌, arith}
use Rattle.std.specs.List.{range_with_len}
use Rattle.std.proofs.lemmas.List.Elements.{All-append}
use Rattle.std.proofs.lemmas.List.FromFn.{length-range_with_len, get_or-range_with_len, map-range_with_len_more}
use Rattle.std.proofs.lemmas.List.Edits.{length-remove}
use Rattle.tfpg_base.proofs.lemmas.lists.Elements.{All-front, All-back, AllPairs-front, AllPairs-back, AllPairs-across, AllPairs-tail, Contains-tail}
use Rattle.tfpg_base.proofs.lemmas.lists.Ordered.{AllPairs-append}
use Rattle.std.proofs.lemmas.List.{take-append-drop, map-id}
use Rattle.tfpg_base.specs.declared.limits.TheConstants.{MAX_PANEL_NUMBER}
use Rattle.tfpg_panel.specs.Desk.{KeepsPanels}

-- one number more
pub pushed : (old new : List ℕ) (count : ℕ) → old ≡ range_with_len 1 count → new ≡ old ++ (count + 1) ∷ [] → new ≡ range_with_len 1 (count + 1)
pushed old new count is e =
    let same : 1 + count ≡ count + 1 = omega arith in
    let more = map-range_with_len_more (λ (n : ℕ). n) 1 count (count + 1) same in
    e ∙ ap (λ (xs : List ℕ). xs ++ (count + 1) ∷ []) (is ∙ sym (map-id (range_with_len 1 count))) ∙ sym more ∙ map-id (range_with_len 1 (count + 1))

-- a new desk keeps all
pub keeps_all : (count : ℕ) → count ≤ MAX_PANEL_NUMBER → KeepsPanels count (range_with_len 1 count)
keeps_all count few = record {
  few = few;
  rising = λ i j d less within.
      let long = length-range_with_len 1 count in
      let at_i = get_or-range_with_len 1 count i d (omega (arith, less, within, long)) in
      let at_j = get_or-range_with_len 1 count j d (omega (arith, within, long)) in
      omega (arith, at_i, at_j, less);
  numbers = λ k d within.
      let at = get_or-range_with_len 1 count k d (omega (arith, within, length-range_with_len 1 count)) in
      (omega (arith, at), omega (arith, at, within, length-range_with_len 1 count));
}

-- the element at an index heads what is left from there on
drop-first : (xs : List ℕ) (index : ℕ) → index < length xs → (x : ℕ) × (drop index xs ≡ x ∷ drop (suc index) xs)
drop-first [] index within = absurd (omega (arith, within))
drop-first (x ∷ xs) zero within = (x, refl)
drop-first (x ∷ xs) (suc index) within = drop-first xs index (omega (arith, within))

-- a desk that puts one aside keeps the others
pub keeps_others : (count : ℕ) (kept : List ℕ) (place : ℕ) → place < length kept → KeepsPanels count kept → KeepsPanels count (remove kept place)
keeps_others count kept place within keeps =
    let front = take place kept in
    let found = drop-first kept place within in
    let back = drop (suc place) kept in
    let parts : front ++ found.0 ∷ back ≡ kept = ap (λ (rest : List ℕ). front ++ rest) (sym found.1) ∙ take-append-drop place kept in
    let R = λ (a : ℕ) (b : ℕ). a < b in
    let P = λ (n : ℕ). (1 ≤ n) × (n ≤ count) in
    let rising : AllPairs R (front ++ found.0 ∷ back) = subst (AllPairs R) (sym parts) keeps.rising in
    let numbers : All P (front ++ found.0 ∷ back) = subst (All P) (sym parts) keeps.numbers in
    record {
      few = keeps.few;
      rising = AllPairs-append R front back (AllPairs-front R front (found.0 ∷ back) rising) (AllPairs-tail R found.0 back (AllPairs-back R front (found.0 ∷ back) rising))
          (λ a b first second. AllPairs-across R front (found.0 ∷ back) a b rising first (Contains-tail found.0 back b second));
      numbers = All-append P front back (All-front P front (found.0 ∷ back) numbers) (All-back P (found.0 ∷ []) back (All-back P front (found.0 ∷ back) numbers));
    }

-- the panel at a place of the kept ones is one of the panels
pub is_panel : (count : ℕ) (kept : List ℕ) (place number : ℕ) → KeepsPanels count kept → place < length kept → number ≡ get_or kept place number → (1 ≤ number) × (number ≤ count)
is_panel count kept place number keeps within at = subst (λ (n : ℕ). (1 ≤ n) × (n ≤ count)) (sym at) (keeps.numbers place number within)

-- ---- what a desk keeps true of its fields

-- a new one has room for the loss of each panel
pub new_invariant : (count room : ℕ) (kept : List ℕ) (lost : ℕ) (long : ℕ) → kept ≡ range_with_len 1 count → count ≡ long → lost ≡ 0 → count ≤ room → count ≤ MAX_PANEL_NUMBER
    → KeepsPanels long kept × (length kept + lost ≤ room)
new_invariant count room kept lost long is same none fits few = (
  subst (λ (n : ℕ). KeepsPanels n kept) same (subst (KeepsPanels count) (sym is) (keeps_all count few)),
  omega (arith, ap length is, length-range_with_len 1 count, none, fits),
)

-- one that puts a panel aside uses the room for its loss
pub lost_invariant : (count : ℕ) (kept later : List ℕ) (place lost now room same : ℕ) → KeepsPanels count kept × (length kept + lost ≤ room) → place < length kept → later ≡ remove kept place → now ≡ lost + 1 → same ≡ room
    → KeepsPanels count later × (length later + now ≤ same)
lost_invariant count kept later place lost now room same old within is one e = (
  subst (KeepsPanels count) (sym is) (keeps_others count kept place within old.0),
  omega (arith, ap length is, length-remove kept place within, old.1, one, e),
)
