-- Which constraint each pick is, as alternatives are entered and left.
use Rattle.std.proofs.Common.{◌≡◌, ℕ, zero, suc, ◌+◌, ◌-◌, ◌<◌, ◌≤◌, Bool, true, false, cond, leb, List, [], ◌∷◌, ◌++◌, length, get_or, take, Some, refl, sym, ◌∙◌, ap, subst, ⊎_elim, arith, length-append}
use Rattle.std.specs.Prelude.{slice_get}
use Rattle.std.proofs.lemmas.List.{length_push, take-append-le, take_all, get_or_append_left, get_or_push, nil_from_length, length-take-le, get_or_read}
use Rattle.std.proofs.lemmas.List.Sorted.{IsNonDecreasingBy-push, IsNonDecreasingBy-take}
use Rattle.std.proofs.lemmas.Option.{same_Some, none-some, slice_get_within, slice_get-get_or, get_or_from_slice_get}
use Rattle.std.proofs.lemmas.Bool.{cases_lt}
use Rattle.std.proofs.lemmas.Bool.Decides.{nat_tests}
use Rattle.tfpg_evidence.specs.declared.reason.Reason.{Reason}
use Rattle.tfpg_evidence.specs.declared.reason.Reason.TheVariants.{Pick}
use Rattle.tfpg_clause.specs.declared.limits.TheConstants.{MAX_CONSTRAINTS}
use Rattle.tfpg_base.proofs.lemmas.lists.Written.{slice_get-push_cases}
use Rattle.tfpg_base.proofs.lemmas.lists.Cuts.{slice_get-taken}
use Rattle.tfpg_search.specs.inside.EnteredPicks.{entered_pick_from, entered_pick, entered_picks, AreBegun, IsNext}

test_true : (next index : ℕ) → next ≤ index → leb next index ≡ true
test_true next index less = grind (arith, nat_tests)

test_false : (next index : ℕ) → index < next → leb next index ≡ false
test_false next index less = grind (arith, nat_tests)

-- ---- one pick

-- an alternative is entered that begins after the pick
entered_pick_from-begun : (split first : ℕ) (later : List ℕ) (index count : ℕ) → index < count → entered_pick_from split first (later ++ count ∷ []) index ≡ entered_pick_from split first later index
entered_pick_from-begun split first [] index count less = ap (λ (test : Bool). cond test (entered_pick_from (split + 1) count [] index) (Pick split (index + 1 - first))) (test_false count index less)
entered_pick_from-begun split first (next ∷ later) index count less =
    ap (λ (r : Reason). cond (leb next index) r (Pick split (index + 1 - first))) (entered_pick_from-begun (split + 1) next later index count less)

-- alternatives are left that begin after the pick
entered_pick_from-left : (split first : ℕ) (later : List ℕ) (kept before index : ℕ) → slice_get later kept ≡ Some before → index < before
    → entered_pick_from split first (take kept later) index ≡ entered_pick_from split first later index
entered_pick_from-left split first [] kept before index at less = absurd (none-some before at)
entered_pick_from-left split first (next ∷ later) zero before index at less =
    let begins : next ≡ before = same_Some next before at in
    sym (ap (λ (test : Bool). cond test (entered_pick_from (split + 1) next later index) (Pick split (index + 1 - first))) (test_false next index (omega arith)))
entered_pick_from-left split first (next ∷ later) (suc kept) before index at less =
    ap (λ (r : Reason). cond (leb next index) r (Pick split (index + 1 - first))) (entered_pick_from-left (split + 1) next later kept before index at less)

-- a pick after the begin of the last alternative belongs to it
entered_pick_from-last : (split first : ℕ) (between : List ℕ) (last index : ℕ) → ((k start : ℕ) → slice_get between k ≡ Some start → start ≤ index) → last ≤ index
    → entered_pick_from split first (between ++ last ∷ []) index ≡ Pick (split + length between + 1) (index + 1 - last)
entered_pick_from-last split first [] last index earlier less =
    ap (λ (test : Bool). cond test (Pick (split + 1) (index + 1 - last)) (Pick split (index + 1 - first))) (test_true last index less)
    ∙ ap (λ (n : ℕ). Pick n (index + 1 - last)) (omega arith)
entered_pick_from-last split first (next ∷ between) last index earlier less =
    ap (λ (test : Bool). cond test (entered_pick_from (split + 1) next (between ++ last ∷ []) index) (Pick split (index + 1 - first))) (test_true next index (earlier 0 next refl))
    ∙ entered_pick_from-last (split + 1) next between last index (λ k start at. earlier (suc k) start at) less
    ∙ ap (λ (n : ℕ). Pick n (index + 1 - last)) (omega arith)

-- a pick belongs to the last alternative that begins before it
entered_pick_from-point : (split first : ℕ) (later : List ℕ) (more index : ℕ) → more ≤ length later → ((k : ℕ) → k < more → get_or later k 0 ≤ index) → (more < length later → index < get_or later more 0)
    → entered_pick_from split first later index ≡ Pick (split + more) (index + 1 - get_or (first ∷ later) more 0)
entered_pick_from-point split first [] zero index inside earlier after = ap (λ (n : ℕ). Pick n (index + 1 - first)) (omega arith)
entered_pick_from-point split first [] (suc more) index inside earlier after = absurd (omega arith)
entered_pick_from-point split first (next ∷ later) zero index inside earlier after =
    ap (λ (test : Bool). cond test (entered_pick_from (split + 1) next later index) (Pick split (index + 1 - first))) (test_false next index (after (omega arith)))
    ∙ ap (λ (n : ℕ). Pick n (index + 1 - first)) (omega arith)
entered_pick_from-point split first (next ∷ later) (suc more) index inside earlier after =
    ap (λ (test : Bool). cond test (entered_pick_from (split + 1) next later index) (Pick split (index + 1 - first))) (test_true next index (earlier 0 (omega arith)))
    ∙ entered_pick_from-point (split + 1) next later more index (omega arith) (λ k less. earlier (suc k) (omega arith)) (λ less. after (omega arith))
    ∙ ap (λ (n : ℕ). Pick n (index + 1 - get_or (next ∷ later) more 0)) (omega arith)

pub entered_pick-point : (entered : List ℕ) (split index : ℕ) → 1 ≤ split → split ≤ length entered → ((k : ℕ) → k < split → get_or entered k 0 ≤ index)
    → (split < length entered → index < get_or entered split 0) → entered_pick entered index ≡ Pick split (index + 1 - get_or entered (split - 1) 0)
entered_pick-point [] split index some inside earlier after = absurd (omega arith)
entered_pick-point (first ∷ later) zero index some inside earlier after = absurd (omega arith)
entered_pick-point (first ∷ later) (suc more) index some inside earlier after =
    entered_pick_from-point 1 first later more index (omega arith) (λ k less. earlier (suc k) (omega arith)) (λ less. after (omega arith))
    ∙ ap (λ (n : ℕ). Pick n (index + 1 - get_or (first ∷ later) more 0)) (omega arith)
    ∙ ap (λ (n : ℕ). Pick (suc more) (index + 1 - get_or (first ∷ later) n 0)) (omega arith)

entered_pick-last : (before : List ℕ) (last index : ℕ) → ((k start : ℕ) → slice_get (before ++ last ∷ []) k ≡ Some start → start ≤ index) → last ≤ index
    → entered_pick (before ++ last ∷ []) index ≡ Pick (length before + 1) (index + 1 - last)
entered_pick-last [] last index within less = ap (λ (n : ℕ). Pick n (index + 1 - last)) (omega arith)
entered_pick-last (first ∷ between) last index within less =
    entered_pick_from-last 1 first between last index (λ k start at. within (suc k) start (front between k start at)) less
    ∙ ap (λ (n : ℕ). Pick n (index + 1 - last)) (omega arith)
  where
    front : (xs : List ℕ) (k start : ℕ) → slice_get xs k ≡ Some start → slice_get (xs ++ last ∷ []) k ≡ Some start
    front [] k start at = absurd (none-some start at)
    front (x ∷ xs) zero start at = at
    front (x ∷ xs) (suc k) start at = front xs k start at

-- ---- all picks

pub length-entered_picks : (entered : List ℕ) (count : ℕ) → length (entered_picks entered count) ≡ count
length-entered_picks entered zero = refl
length-entered_picks entered (suc count) = (let one = length_push (entered_picks entered count) (entered_pick entered count) in let all = length-entered_picks entered count in omega arith)

pub entered_picks-read : (entered : List ℕ) (count index : ℕ) (d : Reason) → index < count → get_or (entered_picks entered count) index d ≡ entered_pick entered index
entered_picks-read entered zero index d less = absurd (omega arith)
entered_picks-read entered (suc count) index d less = ⊎_elim
    (λ (before : index < count).
    get_or_append_left (entered_picks entered count) (entered_pick entered count ∷ []) d index (let all = length-entered_picks entered count in omega arith) ∙ entered_picks-read entered count index d before)
    (λ (last : count ≤ index).
    let same : index ≡ count = omega arith in
    get_or_push (entered_picks entered count) (entered_pick entered count) d index (length-entered_picks entered count ∙ sym same) ∙ ap (entered_pick entered) (sym same))
    (cases_lt index count)

entered_picks-same : (entered others : List ℕ) (count : ℕ) → ((index : ℕ) → index < count → entered_pick entered index ≡ entered_pick others index) → entered_picks entered count ≡ entered_picks others count
entered_picks-same entered others zero same = refl
entered_picks-same entered others (suc count) same =
    ap (λ (rs : List Reason). rs ++ entered_pick entered count ∷ []) (entered_picks-same entered others count (λ index less. same index (omega arith)))
    ∙ ap (λ (r : Reason). entered_picks others count ++ r ∷ []) (same count (omega arith))

entered_picks-take : (entered : List ℕ) (count kept : ℕ) → kept ≤ count → take kept (entered_picks entered count) ≡ entered_picks entered kept
entered_picks-take entered zero kept few =
    let none : kept ≡ 0 = omega arith in ap (λ (n : ℕ). take n (entered_picks entered 0)) none ∙ ap (entered_picks entered) (sym none)
entered_picks-take entered (suc count) kept few = ⊎_elim
    (λ (fewer : kept < suc count).
    take-append-le kept (entered_picks entered count) (entered_pick entered count ∷ []) (let all = length-entered_picks entered count in omega arith)
    ∙ entered_picks-take entered count kept (omega arith))
    (λ (all : suc count ≤ kept).
    let same : kept ≡ suc count = omega arith in
    take_all kept (entered_picks entered (suc count)) (let long = length-entered_picks entered (suc count) in omega arith) ∙ ap (entered_picks entered) (sym same))
    (cases_lt kept (suc count))

module _ (entered : List ℕ) (count : ℕ) (begun : AreBegun entered count) where
  -- a pick is pushed
  module _ (split number : ℕ) (next : IsNext entered count split number) where
    first_within : next.first ≤ count
    first_within =
        begun.within (length next.before) next.first
        (ap (λ (es : List ℕ). slice_get es (length next.before)) next.entered_is ∙ last_there next.before)
      where
        last_there : (xs : List ℕ) → slice_get (xs ++ next.first ∷ []) (length xs) ≡ Some next.first
        last_there [] = refl
        last_there (x ∷ xs) = last_there xs

    pub entered_picks-next : entered_picks entered (count + 1) ≡ entered_picks entered count ++ Pick split number ∷ []
    entered_picks-next =
        let one : count + 1 ≡ suc count = omega arith in
        let long = length-append next.before (next.first ∷ []) in
        let same = ap (λ (es : List ℕ). length es) next.entered_is in
        let splits : length next.before + 1 ≡ split = (let is = next.split_is in omega arith) in
        let low = first_within in
        let numbers : count + 1 - next.first ≡ number = (let is = next.number_is in omega arith) in
        ap (entered_picks entered) one
        ∙ ap (λ (r : Reason). entered_picks entered count ++ r ∷ [])
        (ap (λ (es : List ℕ). entered_pick es count) next.entered_is
        ∙ entered_pick-last next.before next.first count (λ k start at. begun.within k start (ap (λ (es : List ℕ). slice_get es k) next.entered_is ∙ at)) first_within
        ∙ ap (λ (n : ℕ). Pick n (count + 1 - next.first)) splits
        ∙ ap (Pick split) numbers)

    pub AreBegun-next : AreBegun entered (count + 1)
    AreBegun-next = record {
      rising = begun.rising;
      none = λ empty. absurd (let long = length-append next.before (next.first ∷ []) in let same = ap (λ (es : List ℕ). length es) (sym next.entered_is ∙ empty) in omega arith);
      begin = begun.begin;
      within = λ k first at. let low = begun.within k first at in omega arith;
      few = begun.few;
      few_last = λ k first at last.
          let long = length-append next.before (next.first ∷ []) in
          let same = ap (λ (es : List ℕ). length es) next.entered_is in
          let there : k ≡ length next.before = omega arith in
          let is : next.first ≡ first = same_Some next.first first (sym (last_item next.before next.first) ∙ ap (λ (n : ℕ). slice_get (next.before ++ next.first ∷ []) n) (sym there) ∙ sym (ap (λ (es : List ℕ). slice_get es k) next.entered_is) ∙ at) in
          let number = next.number_is in
          let few = next.few in
          omega arith;
    }
      where
        last_item : (xs : List ℕ) (x : ℕ) → slice_get (xs ++ x ∷ []) (length xs) ≡ Some x
        last_item [] x = refl
        last_item (y ∷ xs) x = last_item xs x

  -- an alternative is entered
  pub entered_picks-begun : entered_picks (entered ++ count ∷ []) count ≡ entered_picks entered count
  entered_picks-begun = entered_picks-same (entered ++ count ∷ []) entered count (by entered begun.none)
    where
      by : (es : List ℕ) → (es ≡ [] → count ≡ 0) → (index : ℕ) → index < count → entered_pick (es ++ count ∷ []) index ≡ entered_pick es index
      by [] none index less = absurd (let is = none refl in omega arith)
      by (first ∷ later) none index less = entered_pick_from-begun 1 first later index count less

  -- alternatives are left
  module _ (kept before : ℕ) (at : slice_get entered kept ≡ Some before) where
    pub entered_picks-left : entered_picks (take kept entered) before ≡ take before (entered_picks entered count)
    entered_picks-left =
        entered_picks-same (take kept entered) entered before (by entered kept at begun.begin)
        ∙ sym (entered_picks-take entered count before (begun.within kept before at))
      where
        by : (es : List ℕ) (k : ℕ) → slice_get es k ≡ Some before → ((first : ℕ) → slice_get es 0 ≡ Some first → first ≡ 0) → (index : ℕ) → index < before
            → entered_pick (take k es) index ≡ entered_pick es index
        by [] k there begin index less = absurd (none-some before there)
        by (first ∷ later) zero there begin index less = absurd (let is = begin before there in omega arith)
        by (first ∷ later) (suc k) there begin index less = entered_pick_from-left 1 first later k before index there less

module _ (entered : List ℕ) (count : ℕ) (begun : AreBegun entered count) where
  -- what is read at an index is what stands there
  starts_at : (k : ℕ) → k < length entered → slice_get entered k ≡ Some (get_or entered k 0)
  starts_at k inside = slice_get-get_or entered k 0 inside

  -- one more alternative is entered
  pub AreBegun-entered : AreBegun (entered ++ count ∷ []) count
  AreBegun-entered = record {
    rising = IsNonDecreasingBy-push (λ (start : ℕ). start) entered count begun.rising
        (λ d some. begun.within (length entered - 1) (get_or entered (length entered - 1) d) (slice_get-get_or entered (length entered - 1) d (omega arith)));
    none = λ empty. absurd (let long = length-append entered (count ∷ []) in let same = ap (λ (es : List ℕ). length es) empty in omega arith);
    begin = λ first at. ⊎_elim
        (λ (old : slice_get entered 0 ≡ Some first). begun.begin first old)
        (λ (last : (0 ≡ length entered) × (count ≡ first)). sym last.1 ∙ begun.none (nil_from_length entered (sym last.0)))
        (slice_get-push_cases entered count 0 first at);
    within = λ k first at. ⊎_elim
        (λ (old : slice_get entered k ≡ Some first). begun.within k first old)
        (λ (last : (k ≡ length entered) × (count ≡ first)). let is = last.1 in omega arith)
        (slice_get-push_cases entered count k first at);
    few = λ k first next at after. ⊎_elim
        (λ (old : slice_get entered k ≡ Some first). ⊎_elim
        (λ (later : slice_get entered (k + 1) ≡ Some next). begun.few k first next old later)
        (λ (last : (k + 1 ≡ length entered) × (count ≡ next)). let few = begun.few_last k first old last.0 in let is = last.1 in omega arith)
        (slice_get-push_cases entered count (k + 1) next after))
        (λ (last : (k ≡ length entered) × (count ≡ first)).
        absurd (let inside = slice_get_within (entered ++ count ∷ []) (k + 1) next after in let long = length-append entered (count ∷ []) in let is = last.0 in omega arith))
        (slice_get-push_cases entered count k first at);
    few_last = λ k first at last. ⊎_elim
        (λ (old : slice_get entered k ≡ Some first).
        absurd (let inside = slice_get_within entered k first old in let long = length-append entered (count ∷ []) in omega arith))
        (λ (here : (k ≡ length entered) × (count ≡ first)). let is = here.1 in omega arith)
        (slice_get-push_cases entered count k first at);
  }

  -- the later ones are left
  pub AreBegun-left : (kept before : ℕ) → slice_get entered kept ≡ Some before → AreBegun (take kept entered) before
  AreBegun-left kept before at =
      let inside = slice_get_within entered kept before at in
      let long : length (take kept entered) ≡ kept = length-take-le kept entered (omega arith) in
      record {
        rising = IsNonDecreasingBy-take (λ (start : ℕ). start) kept entered begun.rising;
        none = λ empty.
            let none : kept ≡ 0 = (let same = ap (λ (es : List ℕ). length es) empty in omega arith) in
            begun.begin before (ap (slice_get entered) (sym none) ∙ at);
        begin = λ first there. begun.begin first (slice_get-taken kept entered 0 first there).1;
        within = λ k first there.
            let was = slice_get-taken kept entered k first there in
            let less = was.0 in
            let up = begun.rising k kept 0 (omega arith) inside in
            let one = get_or_from_slice_get entered k first 0 was.1 in
            let other = get_or_from_slice_get entered kept before 0 at in
            omega arith;
        few = λ k first next there after.
            begun.few k first next (slice_get-taken kept entered k first there).1 (slice_get-taken kept entered (k + 1) next after).1;
        few_last = λ k first there last.
            let next : k + 1 ≡ kept = omega arith in
            begun.few k first before (slice_get-taken kept entered k first there).1 (ap (slice_get entered) next ∙ at);
      }

  -- The alternative of a pick is the last that begins before it.
  module _ (split index : ℕ) (inside : index < count) (upto : split ≤ length entered) (earlier : (k : ℕ) → k < split → get_or entered k 0 ≤ index)
      (after : split < length entered → index < get_or entered split 0) where
    -- there is one
    pub some_begun : 1 ≤ split
    some_begun = ⊎_elim
        (λ (none : split < 1).
        absurd (⊎_elim
        (λ (more : 0 < length entered).
        let start = begun.begin (get_or entered 0 0) (starts_at 0 more) in
        let first : get_or entered split 0 ≡ get_or entered 0 0 = ap (λ (n : ℕ). get_or entered n 0) (omega arith) in
        let less = after (omega arith) in
        omega arith)
        (λ (empty : length entered ≤ 0). let none = begun.none (nil_from_length entered (omega arith)) in omega arith)
        (cases_lt 0 (length entered))))
        (λ (some : 1 ≤ split). some)
        (cases_lt split 1)

    -- the number of the constraint is a small one
    pub small_number : (index + 1 - get_or entered (split - 1) 0 ≤ MAX_CONSTRAINTS) × (get_or entered (split - 1) 0 ≤ index)
    small_number =
        let some = some_begun in
        let last = earlier (split - 1) (omega arith) in
        let start : slice_get entered (split - 1) ≡ Some (get_or entered (split - 1) 0) = starts_at (split - 1) (omega arith) in (
          ⊎_elim
              (λ (more : split < length entered).
              let less = after more in
              let next : split - 1 + 1 ≡ split = omega arith in
              let few =
              begun.few (split - 1) (get_or entered (split - 1) 0) (get_or entered split 0) start (ap (slice_get entered) next ∙ starts_at split more) in
              omega arith)
              (λ (end : length entered ≤ split). let few = begun.few_last (split - 1) (get_or entered (split - 1) 0) start (omega arith) in omega arith)
              (cases_lt split (length entered)),
          last,
        )

-- without an alternative there are no picks
pub AreBegun-none : (count : ℕ) → count ≡ 0 → AreBegun [] count
AreBegun-none count none = record {
  rising = λ i j d upto inside. absurd (omega arith);
  none = λ empty. none;
  begin = λ first at. absurd (none-some first at);
  within = λ split first at. absurd (none-some first at);
  few = λ split first next at after. absurd (none-some first at);
  few_last = λ split first at last. absurd (none-some first at);
}

-- the next pick of the alternative that was entered last
pub IsNext-later : (entered : List ℕ) (count more split : ℕ) → IsNext entered count split 1 → more < MAX_CONSTRAINTS → IsNext entered (count + more) split (more + 1)
IsNext-later entered count more split next less = record {
  before = next.before;
  first = next.first;
  entered_is = next.entered_is;
  split_is = next.split_is;
  number_is = (let is = next.number_is in omega arith);
  few = omega arith;
}

-- the first pick of an alternative that is entered
pub IsNext-first : (entered : List ℕ) (count split : ℕ) → split ≡ length entered + 1 → IsNext (entered ++ count ∷ []) count split 1
IsNext-first entered count split is = record {
  before = entered;
  first = count;
  entered_is = refl;
  split_is = (let long = length-append entered (count ∷ []) in omega arith);
  number_is = refl;
  few = omega arith;
}

-- What is read of the alternative that a pick belongs to.
pub record IsEnteredPick (entered : List ℕ) (split index first : ℕ) : Type 0 where
  pub begun : first ≤ index
  pub small : index - first + 1 ≤ MAX_CONSTRAINTS
  pub is : entered_pick entered index ≡ Pick split (index - first + 1)

pub entered_pick_read : (entered lent : List ℕ) (count split index first : ℕ) → AreBegun entered count → lent ≡ entered → index < count → split ≤ length lent
    → ((k : ℕ) → k < split → get_or lent k 0 ≤ index) → (split < length lent → index < get_or lent split 0) → first ≡ get_or entered (split - 1) first → IsEnteredPick entered split index first
entered_pick_read entered lent count split index first begun same inside upto earlier after read =
    let upto_here : split ≤ length entered = subst (λ (es : List ℕ). split ≤ length es) same upto in
    let earlier_here : (k : ℕ) → k < split → get_or entered k 0 ≤ index = subst (λ (es : List ℕ). (k : ℕ) → k < split → get_or es k 0 ≤ index) same earlier in
    let after_here : split < length entered → index < get_or entered split 0 = subst (λ (es : List ℕ). split < length es → index < get_or es split 0) same after in
    let some = some_begun entered count begun split index inside upto_here earlier_here after_here in
    let small = small_number entered count begun split index inside upto_here earlier_here after_here in
    let first_is : first ≡ get_or entered (split - 1) 0 = get_or_read entered (split - 1) first (omega arith) read 0 in
    let few = small.0 in
    let low = small.1 in
    record {
      begun = omega arith;
      small = omega arith;
      is =
          entered_pick-point entered split index some upto_here earlier_here after_here
          ∙ ap (Pick split) (omega arith);
    }
