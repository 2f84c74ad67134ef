-- The path of the present leaf, step by step.
use Rattle.std.proofs.Common.{◌≡◌, ℕ, zero, suc, ◌<◌, ◌≤◌, List, [], ◌∷◌, ◌++◌, length, take, get_or, Bool, Option, Some, None, refl, sym, ap, ◌∙◌, arith}
use Rattle.std.specs.Prelude.{nat_lt, slice_get, slice_set, option_map}
use Rattle.std.specs.Option.{option_or}
use Rattle.std.specs.Bool.{then_some}
use Rattle.std.proofs.lemmas.Bool.{le-ltb, lt-ltb}
use Rattle.tfpg_evidence.specs.declared.clause_name.ClauseName.{ClauseName}
use Rattle.tfpg_clause.specs.Case.{Case}
use Rattle.tfpg_clause.specs.Trees.{Judged}
use Rattle.tfpg_clause.specs.Paths.{new_split, next_alternative, next_leaf, leaf_next, leaf_after}
use Rattle.tfpg_clause.specs.declared.path.PathSplit.{PathSplit}

-- the next leaf with one more split before it
abbrev pub with_first : PathSplit → Option (List PathSplit) → Option (List PathSplit)
with_first split deeper =
    option_or (option_map (λ (path : List PathSplit). split ∷ path) deeper)
    (then_some (nat_lt split.alternative split.alternatives) (next_alternative split ∷ []))

-- the deepest split has an alternative left
pub closed_more : (path : List PathSplit) (split : PathSplit) → split.alternative < split.alternatives
    → next_leaf (path ++ split ∷ []) ≡ Some (path ++ next_alternative split ∷ [])
closed_more [] split less = ap (λ (b : Bool). then_some b (next_alternative split ∷ [])) (lt-ltb split.alternative split.alternatives less)
closed_more (first ∷ path) split less = ap (with_first first) (closed_more path split less)

-- the deepest split has no alternative left
pub closed_last : (path : List PathSplit) (split : PathSplit) → split.alternatives ≤ split.alternative
    → next_leaf (path ++ split ∷ []) ≡ next_leaf path
closed_last [] split most = ap (λ (b : Bool). then_some b (next_alternative split ∷ [])) (le-ltb split.alternative split.alternatives most)
closed_last (first ∷ path) split most = ap (with_first first) (closed_last path split most)

-- A last split with no alternative left does not matter.
pub shorter : (path : List PathSplit) (kept : ℕ) (d : PathSplit) → kept < length path
    → (get_or path kept d).alternatives ≤ (get_or path kept d).alternative
    → next_leaf (take (suc kept) path) ≡ next_leaf (take kept path)
shorter [] kept d within most = absurd (omega arith)
shorter (split ∷ path) zero d within most =
    ap (λ (b : Bool). then_some b (next_alternative split ∷ [])) (le-ltb split.alternative split.alternatives most)
shorter (split ∷ path) (suc kept) d within most = ap (with_first split) (shorter path kept d (omega arith) most)

-- A last split with an alternative left goes on to it.
pub moved_on : (path : List PathSplit) (before : ℕ) (split : PathSplit) → slice_get path before ≡ Some split
    → split.alternative < split.alternatives
    → next_leaf (take (suc before) path) ≡ Some (slice_set (take (suc before) path) before (next_alternative split))
moved_on [] before split at less = cc
moved_on (first ∷ path) zero split at less =
    let same : first ≡ split = cc in
    ap (λ (s : PathSplit). then_some (nat_lt s.alternative s.alternatives) (next_alternative s ∷ [])) same
    ∙ ap (λ (b : Bool). then_some b (next_alternative split ∷ [])) (lt-ltb split.alternative split.alternatives less)
moved_on (first ∷ path) (suc before) split at less = ap (with_first first) (moved_on path before split at less)

-- A new split has the count of its clause.
pub new_split_some : (name : ClauseName) (count : Option ℕ) (split : PathSplit) → Some split ≡ option_map (new_split name) count
    → (count ≡ Some split.alternatives) × (split ≡ new_split name split.alternatives)
new_split_some name None split is = cc
new_split_some name (Some n) split is =
    let same : split ≡ new_split name n = cc in
    let number : n ≡ split.alternatives = sym (ap (λ (s : PathSplit). s.alternatives) same) in
    (ap (λ (m : ℕ). Some m) number, same ∙ ap (new_split name) number)

-- Where there is none, there is no clause.
pub new_split_none : (name : ClauseName) (count : Option ℕ) → None ≡ option_map (new_split name) count → count ≡ None
new_split_none name None is = refl
new_split_none name (Some n) is = cc

module _ (case : Case) where
  -- After no leaf there is none.
  pub after_none : (steps : List Judged) → leaf_after case None steps ≡ None
  after_none [] = refl
  after_none (step ∷ steps) = refl

  -- The leaf after steps and more steps is that after the later ones from the leaf after the earlier ones.
  pub after_both : (leaf : Option (List PathSplit)) (one other : List Judged)
      → leaf_after case leaf (one ++ other) ≡ leaf_after case (leaf_after case leaf one) other
  after_both leaf [] other = refl
  after_both None (step ∷ one) other = sym (after_none other)
  after_both (Some path) (step ∷ one) other = after_both (leaf_next case path step.seen step.step) one other
