use Rattle.std.proofs.Common.{◌≡◌, ℕ, zero, suc, ◌-◌, ◌<◌, ◌≤◌, length, take, get_or, List, Option, Some, ap, sym, subst, ◌∙◌, refl, arith}
use Rattle.std.specs.Prelude.{slice_set, IsSomeAnd}
use Rattle.tfpg_base.proofs.lemmas.lists.Cuts.{slice_get-last_taken}
use Rattle.tfpg_clause.specs.declared.path.PathSplit.{PathSplit}
use Rattle.tfpg_clause.specs.Paths.{next_alternative, next_leaf}
use Rattle.tfpg_clause.specs.inside.UnfinishedSplits.{IsUnfinished, HasNext}
use Rattle.tfpg_clause.proofs.lemmas.trees.LeafPaths.{moved_on}
use Rattle.tfpg_clause.proofs.path.backtrack.Goals as goal

module _ (path items : List PathSplit) (split : PathSplit) where
  pub left : (kept : ℕ) → (kept ≡ 0 → ⊥) → kept ≤ length path → items ≡ take kept path → HasNext path kept
      → split ≡ get_or items (kept - 1) split → split.alternative < split.alternatives
  left zero some within are next is = absurd (some refl)
  left (suc before) some within are next is =
      subst (λ (o : Option PathSplit). IsSomeAnd o IsUnfinished) (slice_get-last_taken path items before split within are is) next

  pub moved : (kept : ℕ) → (kept ≡ 0 → ⊥) → kept ≤ length path → items ≡ take kept path → HasNext path kept
      → split ≡ get_or items (kept - 1) split
      → next_leaf path ≡ next_leaf (take kept path) → next_leaf path ≡ Some (slice_set items (kept - 1) (next_alternative split))
  moved zero some within are next is same = absurd (some refl)
  moved (suc before) some within are next is same =
      let number : before ≡ suc before - 1 = omega arith in
      same ∙ moved_on path before split (slice_get-last_taken path items before split within are is)
      (left (suc before) some within are next is)
      ∙ ap (λ (path : List PathSplit). Some (slice_set path before (next_alternative split))) (sym are)
      ∙ ap (λ (n : ℕ). Some (slice_set items n (next_alternative split))) number

pub overflow_add-deepest : goal.overflow_add-deepest
overflow_add-deepest c =
    let less =
    left c.args.path.now.items c.truncate.new.self.items c.index_mut-deepest.result.now c.unfinished-kept.result c.if-kept-eq0.false
    (rw (← c.deref.ensures.value) c.unfinished-kept.ensures.within)
    c.truncate.ensures.items (rw (← c.deref.ensures.value) c.unfinished-kept.ensures.left) c.index_mut-deepest.ensures.value in
    omega arith

pub returns-clause-moved : goal.returns-clause-moved
returns-clause-moved c =
    moved c.args.path.now.items c.truncate.new.self.items c.index_mut-deepest.result.now c.unfinished-kept.result c.if-kept-eq0.false
    (rw (← c.deref.ensures.value) c.unfinished-kept.ensures.within)
    c.truncate.ensures.items (rw (← c.deref.ensures.value) c.unfinished-kept.ensures.left) c.index_mut-deepest.ensures.value
    (rw (← c.deref.ensures.value) c.unfinished-kept.ensures.same)
