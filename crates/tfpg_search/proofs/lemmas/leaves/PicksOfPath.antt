-- The picks of a path: which they are, and where each stands.
use Rattle.std.proofs.Common.{◌≡◌, ℕ, zero, suc, ◌+◌, ◌<◌, ◌≤◌, List, [], ◌∷◌, ◌++◌, length, take, Option, Some, None, refl, sym, ap, ◌∙◌, inl, inr, arith, append_assoc}
use Rattle.std.specs.Prelude.{slice_get, option_and_then}
use Rattle.std.proofs.Math.Seq.{take-append-add}
use Rattle.std.proofs.lemmas.List.{append-nil, length-append}
use Rattle.tfpg_base.specs.declared.constraint.Constraint.{Constraint}
use Rattle.tfpg_graph.specs.Graph.{Tfpg}
use Rattle.tfpg_log.specs.Log.{Logbook}
use Rattle.tfpg_evidence.specs.declared.reason.Reason.{Reason}
use Rattle.tfpg_evidence.specs.declared.reason.Reason.TheVariants.{Pick}
use Rattle.tfpg_clause.specs.Clauses.{alternatives, constraint_at}
use Rattle.tfpg_base.specs.Choice.{item_at}
use Rattle.tfpg_clause.specs.Paths.{cited_from}
use Rattle.tfpg_clause.specs.declared.path.PathSplit.{PathSplit}
use Rattle.tfpg_search.specs.inside.Picks.{constraint_count, picks_from, picks_of_from}
use Rattle.tfpg_base.proofs.lemmas.lists.Choices.{number_in}
use Rattle.tfpg_base.proofs.lemmas.lists.Written.{slice_get-append_cases, slice_get-append_some, slice_get-append_right}

-- marks leave picks as they are
pub picks_cited : (graph : Tfpg) (log : Logbook) (number : ℕ) (reasons : List Reason) (path : List PathSplit) (count : ℕ)
    → picks_of_from graph log number (take count (cited_from number reasons path)) ≡ picks_of_from graph log number (take count path)
picks_cited graph log number reasons [] count = refl
picks_cited graph log number reasons (taken ∷ deeper) zero = refl
picks_cited graph log number reasons (taken ∷ deeper) (suc count) =
    ap (λ (rs : List Reason). picks_from number 1 (constraint_count graph log taken) ++ rs) (picks_cited graph log (number + 1) reasons deeper count)

-- ---- the picks of one alternative

-- there are so many
pub length-picks_from : (split number count : ℕ) → length (picks_from split number count) ≡ count
length-picks_from split number zero = refl
length-picks_from split number (suc count) = ap suc (length-picks_from split (number + 1) count)

pub pick_of : (split number count i : ℕ) (r : Reason) → slice_get (picks_from split number count) i ≡ Some r → (p : ℕ) × (r ≡ Pick split p)
pick_of split number zero i r is = cc
pick_of split number (suc count) zero r is = let same : Pick split number ≡ r = cc in (number, sym same)
pick_of split number (suc count) (suc i) r is = pick_of split (number + 1) count i r is

pub pick_at : (split number count i : ℕ) → i < count → slice_get (picks_from split number count) i ≡ Some (Pick split (number + i))
pick_at split number zero i less = absurd (omega arith)
pick_at split number (suc count) zero less = let same : number ≡ number + 0 = omega arith in ap (λ (n : ℕ). Some (Pick split n)) same
pick_at split number (suc count) (suc i) less =
    let same : number + 1 + i ≡ number + suc i = omega arith in
    pick_at split (number + 1) count i (omega arith) ∙ ap (λ (n : ℕ). Some (Pick split n)) same

pub picks_push : (split number count : ℕ) → picks_from split number (suc count) ≡ picks_from split number count ++ Pick split (number + count) ∷ []
picks_push split number zero = let same : number ≡ number + 0 = omega arith in ap (λ (n : ℕ). Pick split n ∷ []) same
picks_push split number (suc count) =
    let same : number + 1 + count ≡ number + suc count = omega arith in
    ap (λ (rs : List Reason). Pick split number ∷ rs) (picks_push split (number + 1) count)
    ∙ ap (λ (n : ℕ). Pick split number ∷ picks_from split (number + 1) count ++ Pick split n ∷ []) same

-- ---- constraints of an alternative

-- the constraint with this number in an alternative, where there is one
abbrev pub constraint_in : Option (List Constraint) → ℕ → Option Constraint
constraint_in alternative number = option_and_then (λ (constraints : List Constraint). item_at constraints number) alternative

pub constraint_in_is : (clause : Option (List (List Constraint))) (alternative number : ℕ)
    → option_and_then (λ (c : List (List Constraint)). constraint_at c alternative number) clause ≡ constraint_in (option_and_then (λ (c : List (List Constraint)). item_at c alternative) clause) number
constraint_in_is None alternative number = refl
constraint_in_is (Some clause) alternative number = refl

-- ---- the picks of a path

module _ (graph : Tfpg) (log : Logbook) where
  -- the constraint with this number in the alternative of a split
  abbrev pub of_split : Option PathSplit → ℕ → Option Constraint
  of_split taken number = option_and_then (λ (f : PathSplit). option_and_then (λ clause. constraint_at clause f.alternative number) (alternatives graph log f.name)) taken

  -- the alternative of a split
  abbrev pub alternative_of : PathSplit → Option (List Constraint)
  alternative_of taken = option_and_then (λ clause. item_at clause taken.alternative) (alternatives graph log taken.name)

  -- The reason is a pick at one of these splits.
  pub record IsPickOf (start : ℕ) (path : List PathSplit) (r : Reason) : Type 0 where
    pub k : ℕ
    pub number : ℕ
    pub within : k < length path
    pub is : r ≡ Pick (start + k) number

  pub picks_are : (start : ℕ) (path : List PathSplit) (i : ℕ) (r : Reason) → slice_get (picks_of_from graph log start path) i ≡ Some r → IsPickOf start path r
  picks_are start [] i r is = cc
  picks_are start (taken ∷ deeper) i r is =
      elim (slice_get-append_cases (picks_from start 1 (constraint_count graph log taken)) (picks_of_from graph log (start + 1) deeper) i r is) [
        | inl first ↦
            let pick = pick_of start 1 (constraint_count graph log taken) i r first in
            let same : start ≡ start + 0 = omega arith in
            record { k = 0; number = pick.0; within = omega arith; is = pick.1 ∙ ap (λ (n : ℕ). Pick n pick.0) same }
        | inr others ↦
            let pick = picks_are (start + 1) deeper others.0 r others.1 in
            let same : start + 1 + pick.k ≡ start + suc pick.k = omega arith in
            record { k = suc pick.k; number = pick.number; within = (let w = pick.within in omega arith); is = pick.is ∙ ap (λ (n : ℕ). Pick n pick.number) same }
      ]

  -- each constraint of an alternative on the path is picked
  pub picks_have : (start : ℕ) (path : List PathSplit) (k number : ℕ) (c : Constraint) → of_split (slice_get path k) number ≡ Some c
      → (i : ℕ) × (slice_get (picks_of_from graph log start path) i ≡ Some (Pick (start + k) number))
  picks_have start [] k number c is = cc
  picks_have start (taken ∷ deeper) zero number c is =
      let range = number_in (alternative_of taken) number c (sym (constraint_in_is (alternatives graph log taken.name) taken.alternative number) ∙ is) in
      first number range.0 range.1
    where
      first : (p : ℕ) → 1 ≤ p → p ≤ constraint_count graph log taken → (i : ℕ) × (slice_get (picks_of_from graph log start (taken ∷ deeper)) i ≡ Some (Pick (start + 0) p))
      first zero low high = absurd (omega arith)
      first (suc before) low high =
          let same_number : 1 + before ≡ suc before = omega arith in
          let same_split : start ≡ start + 0 = omega arith in (
            before,
            slice_get-append_some (picks_from start 1 (constraint_count graph log taken)) (picks_of_from graph log (start + 1) deeper) before (Pick (start + 0) (suc before))
                (pick_at start 1 (constraint_count graph log taken) before (omega arith)
                ∙ ap (λ (n : ℕ). Some (Pick start n)) same_number
                ∙ ap (λ (n : ℕ). Some (Pick n (suc before))) same_split),
          )
  picks_have start (taken ∷ deeper) (suc k) number c is =
      let there = picks_have (start + 1) deeper k number c is in
      let same : start + 1 + k ≡ start + suc k = omega arith in
      let front = picks_from start 1 (constraint_count graph log taken) in
      (length front + there.0, slice_get-append_right front (picks_of_from graph log (start + 1) deeper) there.0 ∙ there.1 ∙ ap (λ (n : ℕ). Some (Pick n number)) same)

  pub picks_last : (start : ℕ) (path : List PathSplit) (taken : PathSplit)
      → picks_of_from graph log start (path ++ taken ∷ []) ≡ picks_of_from graph log start path ++ picks_from (start + length path) 1 (constraint_count graph log taken)
  picks_last start [] taken =
      let same : start ≡ start + 0 = omega arith in
      append-nil (picks_from start 1 (constraint_count graph log taken)) ∙ ap (λ (n : ℕ). picks_from n 1 (constraint_count graph log taken)) same
  picks_last start (first ∷ path) taken =
      let same : start + 1 + length path ≡ start + suc (length path) = omega arith in
      ap (λ (rs : List Reason). picks_from start 1 (constraint_count graph log first) ++ rs) (picks_last (start + 1) path taken)
      ∙ sym (append_assoc (picks_from start 1 (constraint_count graph log first)) (picks_of_from graph log (start + 1) path) (picks_from (start + 1 + length path) 1 (constraint_count graph log taken)))
      ∙ ap (λ (n : ℕ). (picks_from start 1 (constraint_count graph log first) ++ picks_of_from graph log (start + 1) path) ++ picks_from n 1 (constraint_count graph log taken)) same

  -- the picks of the first splits are the first picks
  pub picks_take : (start : ℕ) (path : List PathSplit) (n m : ℕ) → n ≤ m
      → take (length (picks_of_from graph log start (take n path))) (picks_of_from graph log start (take m path)) ≡ picks_of_from graph log start (take n path)
  picks_take start path zero m less = refl
  picks_take start path (suc n) zero less = absurd (omega arith)
  picks_take start [] (suc n) (suc m) less = refl
  picks_take start (taken ∷ deeper) (suc n) (suc m) less =
      let front = picks_from start 1 (constraint_count graph log taken) in
      let few = picks_of_from graph log (start + 1) (take n deeper) in
      let many = picks_of_from graph log (start + 1) (take m deeper) in
      ap (λ (count : ℕ). take count (front ++ many)) (length-append front few) ∙ take-append-add front many (length few) ∙ ap (λ (rs : List Reason). front ++ rs) (picks_take (start + 1) deeper n m (omega arith))
