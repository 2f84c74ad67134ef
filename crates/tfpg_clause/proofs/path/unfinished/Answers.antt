use Rattle.std.proofs.Common.{false, ◌≡◌, ℕ, zero, suc, ◌-◌, ◌<◌, ◌≤◌, length, take, get_or, List, ap, sym, subst, ◌∙◌, arith}
use Rattle.std.specs.Prelude.{IsSomeAnd}
use Rattle.std.proofs.lemmas.Option.{slice_get-get_or}
use Rattle.tfpg_evidence.specs.declared.clause_name.ClauseName.TheVariants.{OrMay}
use Rattle.tfpg_clause.specs.declared.path.PathSplit.{PathSplit}
use Rattle.tfpg_clause.specs.Paths.{next_leaf}
use Rattle.tfpg_clause.specs.inside.UnfinishedSplits.{IsUnfinished, HasNext}
use Rattle.tfpg_clause.proofs.lemmas.trees.LeafPaths.{shorter}
use Rattle.tfpg_clause.proofs.path.unfinished.Goals as goal

-- what the code reads past the end
abbrev none : PathSplit
none = record { name = OrMay 0 0 0; alternative = 0; alternatives = 0; cited = false; reusable = false }

one_less : (path : List PathSplit) (kept : ℕ) (d : PathSplit) → 0 < kept → kept ≤ length path
    → (get_or path (kept - 1) d).alternatives ≤ (get_or path (kept - 1) d).alternative
    → next_leaf path ≡ next_leaf (take kept path) → next_leaf path ≡ next_leaf (take (kept - 1) path)
one_less path zero d some within most same = absurd (omega arith)
one_less path (suc kept) d some within most same =
    let before : suc kept - 1 ≡ kept = omega arith in
    same ∙ shorter path kept d (omega arith) (subst (λ (n : ℕ). (get_or path n d).alternatives ≤ (get_or path n d).alternative) before most)
    ∙ ap (λ (n : ℕ). next_leaf (take n path)) (sym before)

has_next : (path : List PathSplit) (kept : ℕ) (d : PathSplit) → kept ≤ length path
    → (0 < kept → (get_or path (kept - 1) d).alternative < (get_or path (kept - 1) d).alternatives) → HasNext path kept
has_next path zero d within less = tt
has_next path (suc kept) d within less =
    let before : suc kept - 1 ≡ kept = omega arith in
    let left : IsUnfinished (get_or path kept d) = subst (λ (n : ℕ). IsUnfinished (get_or path n d)) before (less (omega arith)) in
    subst (λ o. IsSomeAnd o IsUnfinished) (sym (slice_get-get_or path kept d (omega arith))) left

pub loop-kept-preserved : goal.loop-kept-preserved
loop-kept-preserved c = record {
  within = omega arith;
  same =
      one_less c.args.path.now c.loop-kept.kept none c.loop-kept-test.true c.loop-kept.invariant.within c.if-path-kept.true c.loop-kept.invariant.same;
}

pub returns-else-path-kept-clause-left : goal.returns-else-path-kept-clause-left
returns-else-path-kept-clause-left c =
    has_next c.args.path.now c.loop-kept.kept none c.loop-kept.invariant.within (λ some. c.if-path-kept.false)
