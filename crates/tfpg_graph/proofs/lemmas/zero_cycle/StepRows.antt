-- Rows of steps, and one step more.
use Rattle.std.proofs.Common.{◌≡◌, ◌≢◌, ℕ, ◌<◌, ◌⊎◌, inl, inr, ⊎_elim, List, [], ◌∷◌, ◌++◌, length, replicate, Contains, sym, ap, ◌∙◌, subst, arith, get_or-set_same, get_or-set_other}
use Rattle.std.proofs.lemmas.Bool.{cases_lt, cases_eq}
use Rattle.std.proofs.lemmas.List.{get_or-replicate, length-replicate, get_or_past, length-set}
use Rattle.std.proofs.lemmas.List.Elements.{Contains-append_left, Contains-push, Contains-push_cases}
use Rattle.tfpg_base.proofs.lemmas.lists.Elements.{Contains-nil}
use Rattle.tfpg_graph.specs.inside.zero_cycle.ZeroSearch.{row, IsStep, with_step, AreStepsWithin}

row_of_none : (count node : ℕ) → row (replicate count []) node ≡ []
row_of_none count node = ⊎_elim
    (λ within. get_or-replicate count node [] [] within)
    (λ past. get_or_past (replicate count []) node []
    (omega (arith, length-replicate count (let none : List ℕ = [] in none))))
    (cases_lt node count)

pub no_step : (count from to : ℕ) → IsStep (replicate count []) from to → ⊥
no_step count from to leads = Contains-nil to (subst (λ (nodes : List ℕ). Contains nodes to) (row_of_none count from) leads)

-- a step begins at a node
pub IsStep-begin : (rows : List (List ℕ)) (from to : ℕ) → IsStep rows from to → from < length rows
IsStep-begin rows from to leads = ⊎_elim
    (λ within. within)
    (λ past. absurd (Contains-nil to (subst (λ (nodes : List ℕ). Contains nodes to) (get_or_past rows from [] past) leads)))
    (cases_lt from (length rows))

module _ (rows : List (List ℕ)) (from to : ℕ) (within : from < length rows) where
  row_here : row (with_step rows from to) from ≡ row rows from ++ to ∷ []
  row_here = get_or-set_same rows from (row rows from ++ to ∷ []) [] within

  row_there : (other : ℕ) → other ≢ from → row (with_step rows from to) other ≡ row rows other
  row_there other differs = get_or-set_other rows from other (row rows from ++ to ∷ []) [] differs

  pub IsStep-new : IsStep (with_step rows from to) from to
  IsStep-new = subst (λ (nodes : List ℕ). Contains nodes to) (sym row_here) (Contains-push (row rows from) to)

  pub IsStep-old : (begin end : ℕ) → IsStep rows begin end → IsStep (with_step rows from to) begin end
  IsStep-old begin end leads = ⊎_elim
      (λ same. subst (λ (node : ℕ). IsStep (with_step rows from to) node end) (sym same)
      (subst (λ (nodes : List ℕ). Contains nodes end) (sym row_here)
      (Contains-append_left (row rows from) (to ∷ []) end (subst (λ (node : ℕ). IsStep rows node end) same leads))))
      (λ differs. subst (λ (nodes : List ℕ). Contains nodes end) (sym (row_there begin differs)) leads)
      (cases_eq begin from)

  pub IsStep-cases : (begin end : ℕ) → IsStep (with_step rows from to) begin end
      → IsStep rows begin end ⊎ ((from ≡ begin) × (to ≡ end))
  IsStep-cases begin end leads = ⊎_elim
      (λ same.
      let more : Contains (row rows from ++ to ∷ []) end =
      subst (λ (nodes : List ℕ). Contains nodes end) (ap (row (with_step rows from to)) same ∙ row_here) leads in
      ⊎_elim
      (λ old. inl (subst (λ (node : ℕ). IsStep rows node end) (sym same) old))
      (λ new. inr (sym same, new))
      (Contains-push_cases (row rows from) to end more))
      (λ differs. inl (subst (λ (nodes : List ℕ). Contains nodes end) (row_there begin differs) leads))
      (cases_eq begin from)

  pub length-with_step : length (with_step rows from to) ≡ length rows
  length-with_step = length-set rows from (row rows from ++ to ∷ [])

  pub AreStepsWithin-more : to < length rows → AreStepsWithin rows → AreStepsWithin (with_step rows from to)
  AreStepsWithin-more in_rows are = λ begin end leads. ⊎_elim
      (λ old. let lt = are begin end old in omega (arith, lt, length-with_step))
      (λ new. omega (arith, new.1, in_rows, length-with_step))
      (IsStep-cases begin end leads)

pub AreStepsWithin-none : (count : ℕ) → AreStepsWithin (replicate count [])
AreStepsWithin-none count = λ from to leads. absurd (no_step count from to leads)
