-- What the kept reasons say after each call of the system of a leaf.
use Rattle.std.proofs.Common.{◌≡◌, ℕ, zero, suc, ◌+◌, ◌-◌, ◌*◌, ◌<◌, ◌≤◌, Bool, true, false, cond, eqb, List, [], ◌∷◌, ◌++◌, length, get_or, set, take, Some, refl, sym, ◌∙◌, ap, inl, inr, ⊎_elim, arith, length-append, append_assoc, ◌≢◌}
use Rattle.std.specs.Prelude.{slice_get, slice_index_or, All}
use Rattle.std.proofs.lemmas.List.{set-append_left, set-append_right, get_or_append_left, get_or-append_right, get_or-set_same, get_or-set_other, get_or_push, get_or_past}
use Rattle.std.proofs.lemmas.Option.{same_Some, none-some, slice_get_within}
use Rattle.std.proofs.lemmas.Bool.{cases_eq, cases_lt}
use Rattle.std.proofs.lemmas.Bool.Decides.{nat_tests}
use Rattle.tfpg_evidence.specs.declared.reason.Reason.{Reason}
use Rattle.tfpg_evidence.specs.declared.reason.Reason.TheVariants as reason
use Rattle.tfpg_diff.specs.declared.why.Why.{Why}
use Rattle.tfpg_diff.specs.declared.why.Why.TheVariants.{Floor, Ceiling, Given}
use Rattle.tfpg_diff.specs.VariableBounds.{VariableBounds}
use Rattle.tfpg_search.specs.declared.kept_reason.LowReason.{LowReason}
use Rattle.tfpg_search.specs.declared.kept_reason.HighReason.{HighReason}
use Rattle.tfpg_search.specs.inside.Tags.{HasReason, reason_of}
use Rattle.tfpg_search.specs.inside.KeptReasons.{low_reason, high_reason, low_reasons, high_reasons, reasons_of, IsNamed, reason_or}

-- ---- the reasons of the lower bounds

pub length-low_reasons : (node : ℕ) (bounds : List VariableBounds) (lows : List LowReason) → length lows ≡ length bounds → length (low_reasons node bounds lows) ≡ length bounds
length-low_reasons node [] lows same = refl
length-low_reasons node (b ∷ bounds) [] same = absurd (omega arith)
length-low_reasons node (b ∷ bounds) (low ∷ lows) same = ap suc (length-low_reasons (node + 1) bounds lows (omega arith))

-- a bound and its reason are written
low_reasons-set : (node : ℕ) (bounds : List VariableBounds) (lows : List LowReason) (v : ℕ) (new : VariableBounds) (low : LowReason) → length lows ≡ length bounds
    → low_reasons node (set bounds v new) (set lows v low) ≡ set (low_reasons node bounds lows) v (low_reason (node + v) new.floor low)
low_reasons-set node [] lows v new low same = refl
low_reasons-set node (b ∷ bounds) [] v new low same = absurd (omega arith)
low_reasons-set node (b ∷ bounds) (first ∷ lows) zero new low same = ap (λ (n : ℕ). low_reason n new.floor low ∷ low_reasons (node + 1) bounds lows) (omega arith)
low_reasons-set node (b ∷ bounds) (first ∷ lows) (suc v) new low same =
    let number : node + 1 + v ≡ node + suc v = omega arith in
    ap (λ (rs : List Reason). low_reason node b.floor first ∷ rs)
    (low_reasons-set (node + 1) bounds lows v new low (omega arith) ∙ ap (λ (n : ℕ). set (low_reasons (node + 1) bounds lows) v (low_reason n new.floor low)) number)

-- a bound is written that has the floor of the one before
low_reasons-same : (node : ℕ) (bounds : List VariableBounds) (lows : List LowReason) (v : ℕ) (old new : VariableBounds) → slice_get bounds v ≡ Some old → new.floor ≡ old.floor
    → low_reasons node (set bounds v new) lows ≡ low_reasons node bounds lows
low_reasons-same node [] lows v old new at same = absurd (none-some old at)
low_reasons-same node (b ∷ bounds) [] zero old new at same = refl
low_reasons-same node (b ∷ bounds) [] (suc v) old new at same = refl
low_reasons-same node (b ∷ bounds) (low ∷ lows) zero old new at same =
    ap (λ (floor : ℕ). low_reason node floor low ∷ low_reasons (node + 1) bounds lows) (same ∙ sym (ap (λ (c : VariableBounds). c.floor) (same_Some b old at)))
low_reasons-same node (b ∷ bounds) (low ∷ lows) (suc v) old new at same =
    ap (λ (rs : List Reason). low_reason node b.floor low ∷ rs) (low_reasons-same (node + 1) bounds lows v old new at same)

-- the reason of a lower bound is read
low_reasons-read : (node : ℕ) (bounds : List VariableBounds) (lows : List LowReason) (v : ℕ) (b : VariableBounds) (low : LowReason) (d : Reason) → slice_get bounds v ≡ Some b → v < length lows
    → low ≡ get_or lows v low → get_or (low_reasons node bounds lows) v d ≡ low_reason (node + v) b.floor low
low_reasons-read node [] lows v b low d at within is = absurd (none-some b at)
low_reasons-read node (first ∷ bounds) [] v b low d at within is = absurd (omega arith)
low_reasons-read node (first ∷ bounds) (kept ∷ lows) zero b low d at within is =
    ap (λ (c : VariableBounds). low_reason node c.floor kept) (same_Some first b at) ∙ ap (low_reason node b.floor) (sym is) ∙ ap (λ (n : ℕ). low_reason n b.floor low) (omega arith)
low_reasons-read node (first ∷ bounds) (kept ∷ lows) (suc v) b low d at within is =
    low_reasons-read (node + 1) bounds lows v b low d at (omega arith) is ∙ ap (λ (n : ℕ). low_reason n b.floor low) (omega arith)

-- ---- and of the upper bounds

pub length-high_reasons : (node : ℕ) (highs : List HighReason) → length (high_reasons node highs) ≡ length highs
length-high_reasons node [] = refl
length-high_reasons node (high ∷ highs) = ap suc (length-high_reasons (node + 1) highs)

high_reasons-set : (node : ℕ) (highs : List HighReason) (v : ℕ) (high : HighReason) → high_reasons node (set highs v high) ≡ set (high_reasons node highs) v (high_reason (node + v) high)
high_reasons-set node [] v high = refl
high_reasons-set node (first ∷ highs) zero high = ap (λ (n : ℕ). high_reason n high ∷ high_reasons (node + 1) highs) (omega arith)
high_reasons-set node (first ∷ highs) (suc v) high =
    let number : node + 1 + v ≡ node + suc v = omega arith in
    ap (λ (rs : List Reason). high_reason node first ∷ rs)
    (high_reasons-set (node + 1) highs v high ∙ ap (λ (n : ℕ). set (high_reasons (node + 1) highs) v (high_reason n high)) number)

high_reasons-read : (node : ℕ) (highs : List HighReason) (v : ℕ) (high : HighReason) (d : Reason) → v < length highs → high ≡ get_or highs v high
    → get_or (high_reasons node highs) v d ≡ high_reason (node + v) high
high_reasons-read node [] v high d within is = absurd (omega arith)
high_reasons-read node (kept ∷ highs) zero high d within is = ap (high_reason node) (sym is) ∙ ap (λ (n : ℕ). high_reason n high) (omega arith)
high_reasons-read node (kept ∷ highs) (suc v) high d within is =
    high_reasons-read (node + 1) highs v high d (omega arith) is ∙ ap (λ (n : ℕ). high_reason n high) (omega arith)

-- ---- all reasons

-- the first items of two lists, where those of the one are among them
take_past : {X : Type 0} (xs ys : List X) (n m : ℕ) → n ≡ length xs + m → take n (xs ++ ys) ≡ xs ++ take m ys
take_past [] ys n m is = ap (λ (k : ℕ). take k ys) (omega arith)
take_past (x ∷ xs) ys zero m is = absurd (omega arith)
take_past (x ∷ xs) ys (suc n) m is = ap (λ (zs : List _). x ∷ zs) (take_past xs ys n m (omega arith))

module _ (bounds : List VariableBounds) (lows : List LowReason) (highs : List HighReason) (back : List Reason)
    (lows_each : length lows ≡ length bounds) (highs_each : length highs ≡ length bounds) where
  abbrev front : List Reason
  front = low_reasons 0 bounds lows

  abbrev middle : List Reason
  middle = high_reasons 0 highs

  front_long : length front ≡ length bounds
  front_long = length-low_reasons 0 bounds lows lows_each

  middle_long : length middle ≡ length bounds
  middle_long = length-high_reasons 0 highs ∙ highs_each

  -- there are two for each node and one for each pick
  pub length-reasons_of : length (reasons_of bounds lows highs back) ≡ 2 * length bounds + length back
  length-reasons_of =
      let all = length-append front (middle ++ back) in
      let others = length-append middle back in
      let one = front_long in
      let two = middle_long in
      omega arith

  -- a floor is raised
  pub reasons_of-raised : (v : ℕ) (new : VariableBounds) (low : LowReason) → v < length bounds
      → reasons_of (set bounds v new) (set lows v low) highs back ≡ set (reasons_of bounds lows highs back) v (low_reason v new.floor low)
  reasons_of-raised v new low within =
      ap (λ (rs : List Reason). rs ++ (middle ++ back)) (low_reasons-set 0 bounds lows v new low lows_each)
      ∙ ap (λ (n : ℕ). set front v (low_reason n new.floor low) ++ (middle ++ back)) (omega arith)
      ∙ sym (set-append_left front (middle ++ back) v (low_reason v new.floor low) (let long = front_long in omega arith))

  -- a ceiling is lowered
  pub reasons_of-lowered : (v index : ℕ) (old new : VariableBounds) (high : HighReason) → slice_get bounds v ≡ Some old → new.floor ≡ old.floor → index ≡ length bounds + v
      → reasons_of (set bounds v new) lows (set highs v high) back ≡ set (reasons_of bounds lows highs back) index (high_reason v high)
  reasons_of-lowered v index old new high at same is =
      let within = slice_get_within bounds v old at in
      let long = front_long in
      let many = middle_long in
      ap (λ (rs : List Reason). rs ++ (high_reasons 0 (set highs v high) ++ back)) (low_reasons-same 0 bounds lows v old new at same)
      ∙ ap (λ (rs : List Reason). front ++ (rs ++ back)) (high_reasons-set 0 highs v high)
      ∙ ap (λ (n : ℕ). front ++ (set middle v (high_reason n high) ++ back)) (omega arith)
      ∙ ap (λ (rs : List Reason). front ++ rs) (sym (set-append_left middle back v (high_reason v high) (omega arith)))
      ∙ ap (λ (n : ℕ). front ++ set (middle ++ back) n (high_reason v high)) (omega arith)
      ∙ sym (set-append_right front (middle ++ back) (length bounds) index (high_reason v high) long (omega arith))

  -- the reason of a lower bound is read
  pub reasons_of-low : (v : ℕ) (b : VariableBounds) (low : LowReason) → slice_get bounds v ≡ Some b → low ≡ get_or lows v low
      → low_reason v b.floor low ≡ slice_index_or (reasons_of bounds lows highs back) v (reason.Zero 0)
  reasons_of-low v b low at is =
      let within = slice_get_within bounds v b at in
      let long = front_long in
      sym (get_or_append_left front (middle ++ back) (reason.Zero 0) v (omega arith)
      ∙ low_reasons-read 0 bounds lows v b low (reason.Zero 0) at (omega arith) is
      ∙ ap (λ (n : ℕ). low_reason n b.floor low) (omega arith))

  -- and that of an upper bound
  pub reasons_of-high : (v : ℕ) (high : HighReason) → v < length bounds → high ≡ get_or highs v high
      → high_reason v high ≡ slice_index_or (reasons_of bounds lows highs back) (length bounds + v) (reason.Zero 0)
  reasons_of-high v high within is =
      let many = middle_long in
      sym (get_or-append_right front (middle ++ back) (length bounds) (length bounds + v) (reason.Zero 0) front_long (omega arith)
      ∙ ap (λ (n : ℕ). get_or (middle ++ back) n (reason.Zero 0)) (omega arith)
      ∙ get_or_append_left middle back (reason.Zero 0) v (omega arith)
      ∙ high_reasons-read 0 highs v high (reason.Zero 0) (omega arith) is
      ∙ ap (λ (n : ℕ). high_reason n high) (omega arith))

  -- and that of a pick
  pub reasons_of-pick : (index : ℕ) → get_or back index (reason.Zero 0) ≡ slice_index_or (reasons_of bounds lows highs back) (2 * length bounds + index) (reason.Zero 0)
  reasons_of-pick index =
      sym (get_or-append_right front (middle ++ back) (length bounds) (2 * length bounds + index) (reason.Zero 0) front_long (omega arith)
      ∙ get_or-append_right middle back (length bounds) (2 * length bounds + index - length bounds) (reason.Zero 0) middle_long (omega arith)
      ∙ ap (λ (n : ℕ). get_or back n (reason.Zero 0)) (omega arith))

  -- a pick is pushed
  pub reasons_of-pushed : (adding : Reason) → reasons_of bounds lows highs (back ++ adding ∷ []) ≡ reasons_of bounds lows highs back ++ adding ∷ []
  reasons_of-pushed adding =
      ap (λ (rs : List Reason). front ++ rs) (sym (append_assoc middle back (adding ∷ [])))
      ∙ sym (append_assoc front (middle ++ back) (adding ∷ []))

  -- picks are popped
  pub reasons_of-popped : (len : ℕ) → reasons_of bounds lows highs (take len back) ≡ take (2 * length bounds + len) (reasons_of bounds lows highs back)
  reasons_of-popped len =
      ap (λ (rs : List Reason). front ++ rs) (sym (take_past middle back (length bounds + len) len (ap (λ (n : ℕ). n + len) (sym middle_long))))
      ∙ sym (take_past front (middle ++ back) (2 * length bounds + len) (length bounds + len) (let long = front_long in omega arith))

-- ---- what was to be added

module _ (reasons : List Reason) (tag : ℕ) (adding : Reason) where
  abbrev chosen : ℕ → Reason
  chosen given = cond (eqb given tag) adding (slice_index_or reasons given (reason.Zero 0))

  chosen_same : (given : ℕ) → given ≡ tag → chosen given ≡ adding
  chosen_same given same = ap (λ (test : Bool). cond test adding (slice_index_or reasons given (reason.Zero 0))) (let is : eqb given tag ≡ true = grind (arith, nat_tests) in is)

  chosen_other : (given : ℕ) → given ≢ tag → chosen given ≡ slice_index_or reasons given (reason.Zero 0)
  chosen_other given other = ap (λ (test : Bool). cond test adding (slice_index_or reasons given (reason.Zero 0))) (let is : eqb given tag ≡ false = grind (arith, nat_tests) in is)

  -- its reason is written
  pub reason_or-set : tag < length reasons → (why : Why) → reason_or reasons tag adding why ≡ reason_of (set reasons tag adding) why
  reason_or-set within (Floor node) = refl
  reason_or-set within (Ceiling node) = refl
  reason_or-set within (Given given) = ⊎_elim
      (λ (same : given ≡ tag). chosen_same given same ∙ sym (ap (λ (n : ℕ). get_or (set reasons tag adding) n (reason.Zero 0)) same ∙ get_or-set_same reasons tag adding (reason.Zero 0) within))
      (λ (other : given ≢ tag). chosen_other given other ∙ sym (get_or-set_other reasons tag given adding (reason.Zero 0) other))
      (cases_eq given tag)

  -- or pushed
  pub reason_or-push : tag ≡ length reasons → (why : Why) → reason_or reasons tag adding why ≡ reason_of (reasons ++ adding ∷ []) why
  reason_or-push last (Floor node) = refl
  reason_or-push last (Ceiling node) = refl
  reason_or-push last (Given given) = ⊎_elim
      (λ (same : given ≡ tag). chosen_same given same ∙ sym (get_or_push reasons adding (reason.Zero 0) given (sym (same ∙ last))))
      (λ (other : given ≢ tag). chosen_other given other ∙ ⊎_elim
      (λ (before : given < length reasons). sym (get_or_append_left reasons (adding ∷ []) (reason.Zero 0) given before))
      (λ (past : length reasons ≤ given).
      get_or_past reasons given (reason.Zero 0) past
      ∙ sym (get_or_past (reasons ++ adding ∷ []) given (reason.Zero 0) (let long = length-append reasons (adding ∷ []) in let apart : given ≢ length reasons = λ same. other (same ∙ sym last) in grind arith)))
      (cases_lt given (length reasons)))
      (cases_eq given tag)

  -- what has a reason among those with one more is named
  pub IsNamed-all : (longer : List Reason) (whys : List Why) → length longer ≤ length reasons + 1 → (length longer ≡ length reasons + 1 → tag ≡ length reasons)
      → All (HasReason longer) whys → All (IsNamed reasons tag) whys
  IsNamed-all longer whys few last all i d within = one (get_or whys i d) (all i d within)
    where
      one : (why : Why) → HasReason longer why → IsNamed reasons tag why
      one (Floor node) has = tt
      one (Ceiling node) has = tt
      one (Given given) has = ⊎_elim
          (λ (before : given < length reasons). inr before)
          (λ (past : length reasons ≤ given). inl (let same = last (omega arith) in omega arith))
          (cases_lt given (length reasons))
