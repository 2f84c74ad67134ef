-- A measure of an open tree, which each step lowers.
--
-- Let n names be allowed. The present leaf under q splits counts a ^ (n - q), and so does each alternative of the split number q + 1
-- that is not entered yet.
use Rattle.std.proofs.Common.{◌≡◌, ℕ, zero, suc, ◌+◌, ◌-◌, ◌*◌, ◌^◌, ◌<◌, ◌≤◌, List, [], ◌∷◌, ◌++◌, length, refl, ap, sym, subst, arith}
use Rattle.std.specs.Prelude.{All}
use Rattle.std.proofs.lemmas.List.Elements.{All-head, All-tail}
use Rattle.std.proofs.lemmas.Nat.{row_fits}
use Rattle.std.proofs.Math.Nat.{pow-succ', one-le-pow}
use Rattle.tfpg_base.proofs.lemmas.lists.Sequences.{rows_fit-two, sub-mul_next}
use Rattle.tfpg_evidence.specs.declared.clause_name.ClauseName.{ClauseName}
use Rattle.tfpg_evidence.specs.declared.reason.Reason.{Reason}
use Rattle.tfpg_clause.specs.declared.path.PathSplit.{PathSplit}
use Rattle.tfpg_search.specs.inside.Picks.{IsInRange, AreInRange}
use Rattle.tfpg_search.proofs.lemmas.steps.PathAfter.{After, Moved}
use Rattle.tfpg_clause.proofs.lemmas.trees.Marks.{length-cited}
use Rattle.tfpg_clause.specs.Paths.{new_split, next_alternative, cited_from, cited_by}

module _ (a : ℕ) (some : 1 ≤ a) where
  abbrev pub weight : List PathSplit → ℕ → ℕ
  weight [] n = a ^ n
  weight (taken ∷ deeper) zero = 0
  weight (taken ∷ deeper) (suc n) = (taken.alternatives - taken.alternative) * a ^ n + weight deeper n

  pub weight_some : (path : List PathSplit) (n : ℕ) → length path ≤ n → 1 ≤ weight path n
  weight_some [] n within = one-le-pow n a some
  weight_some (taken ∷ deeper) zero within = absurd (omega arith)
  weight_some (taken ∷ deeper) (suc n) within = omega (arith, weight_some deeper n (omega arith))

  -- Each split has fewer alternatives than that.
  abbrev pub AreFew : List PathSplit → Type 0
  AreFew path = All (λ (taken : PathSplit). taken.alternatives < a) path

  pub weight_limit : (path : List PathSplit) (n : ℕ) → AreInRange path → AreFew path → length path ≤ n → weight path n ≤ a ^ n
  weight_limit [] n range few within = omega arith
  weight_limit (taken ∷ deeper) zero range few within = absurd (omega arith)
  weight_limit (taken ∷ deeper) (suc n) range few within =
      let deep : weight deeper n ≤ a ^ n = weight_limit deeper n (All-tail IsInRange taken deeper range) (All-tail (λ (f : PathSplit). f.alternatives < a) taken deeper few) (omega arith) in
      let own : taken.alternatives < a = All-head (λ (f : PathSplit). f.alternatives < a) taken deeper few in
      let same : (p : ℕ) → p ≤ p = λ p. omega arith in
      let row : (taken.alternatives - taken.alternative) * a ^ n + a ^ n ≤ a * a ^ n = row_fits (taken.alternatives - taken.alternative) (a ^ n) a (a ^ n) (omega (arith, own)) (same (a ^ n)) in
      omega (arith, deep, row, pow-succ' a n)

  -- ---- a split

  pub split_lowers : (path : List PathSplit) (name : ClauseName) (count n : ℕ) → length path < n → 1 ≤ count → count < a → weight (path ++ new_split name count ∷ []) n + 1 ≤ weight path n
  split_lowers [] name count zero less low high = absurd (omega arith)
  split_lowers [] name count (suc n) less low high =
      let rows : (count - 1) * a ^ n + a ^ n + a ^ n ≤ a * a ^ n = rows_fit-two a (count - 1) (a ^ n) (omega (arith, low, high)) in
      omega (arith, rows, one-le-pow n a some, pow-succ' a n)
  split_lowers (taken ∷ deeper) name count zero less low high = absurd (omega arith)
  split_lowers (taken ∷ deeper) name count (suc n) less low high = omega (arith, split_lowers deeper name count n (omega arith) low high)

  -- ---- a step that closes a leaf

  -- marks do not count
  weight_cited : (number : ℕ) (reasons : List Reason) (path : List PathSplit) (n : ℕ) → weight (cited_from number reasons path) n ≡ weight path n
  weight_cited number reasons [] n = refl
  weight_cited number reasons (taken ∷ deeper) zero = refl
  weight_cited number reasons (taken ∷ deeper) (suc n) = ap (λ (w : ℕ). (taken.alternatives - taken.alternative) * a ^ n + w) (weight_cited (number + 1) reasons deeper n)

  next_lowers : (front : List PathSplit) (taken : PathSplit) (deeper : List PathSplit) (n : ℕ) → length (front ++ taken ∷ deeper) ≤ n → taken.alternative < taken.alternatives
      → weight (front ++ next_alternative taken ∷ []) n + 1 ≤ weight (front ++ taken ∷ deeper) n
  next_lowers [] taken deeper zero within more = absurd (omega arith)
  next_lowers [] taken deeper (suc n) within more = omega (arith, sub-mul_next taken.alternatives taken.alternative (a ^ n) more, weight_some deeper n (omega arith))
  next_lowers (first ∷ front) taken deeper zero within more = absurd (omega arith)
  next_lowers (first ∷ front) taken deeper (suc n) within more = omega (arith, next_lowers front taken deeper n (omega arith) more)

  after_lowers : (path after : List PathSplit) (n : ℕ) → length path ≤ n → After path after → weight after n + 1 ≤ weight path n
  after_lowers path after n within next =
      subst (λ (fs : List PathSplit). weight after n + 1 ≤ weight fs n) (sym next.path_is)
      (subst (λ (fs : List PathSplit). weight fs n + 1 ≤ weight (next.front ++ next.taken ∷ next.deeper) n) (sym next.next_is)
      (next_lowers next.front next.taken next.deeper n (subst (λ (fs : List PathSplit). length fs ≤ n) next.path_is within) next.more))

  pub closing_lowers : (path after : List PathSplit) (n : ℕ) → length path ≤ n → Moved path after → weight after n + 1 ≤ weight path n
  closing_lowers path after n within moved =
      let long : length (cited_by moved.0 path) ≡ length path = length-cited 1 moved.0 path in
      subst (λ (w : ℕ). weight after n + 1 ≤ w) (weight_cited 1 moved.0 path n) (after_lowers (cited_by moved.0 path) after n (omega arith) moved.1)
