-- The path after a leaf is closed: its splits up to some one stay, some of them marked, and that one goes on to its next
-- alternative.
use Rattle.std.proofs.Common.{◌≡◌, ℕ, ◌+◌, ◌-◌, ◌<◌, List, [], ◌∷◌, ◌++◌, length, drop, ◌∙◌, append_assoc, Bool, true, false, Option, Some, None, refl, sym, ap, subst, arith}
use Rattle.std.specs.Prelude.{All, nat_lt, option_map}
use Rattle.std.specs.Option.{option_or}
use Rattle.std.specs.Bool.{then_some}
use Rattle.std.proofs.lemmas.List.{take-append-drop}
use Rattle.std.proofs.lemmas.List.Elements.{All-nil, All-cons, All-head, All-tail, All-push}
use Rattle.std.proofs.lemmas.Bool.Decides.{nat_tests}
use Rattle.tfpg_base.proofs.lemmas.lists.Elements.{All-front, All-back}
use Rattle.tfpg_evidence.specs.declared.reason.Reason.{Reason}
use Rattle.tfpg_evidence.specs.declared.step.Step.{Step}
use Rattle.tfpg_evidence.specs.declared.step.Step.TheVariants.{Split, Cycle, Again}
use Rattle.tfpg_clause.specs.Case.{Case}
use Rattle.tfpg_clause.specs.Paths.{next_alternative, cites, also_cited, cited_from, cited_by, next_leaf, above_last, MovesTo}
use Rattle.tfpg_clause.proofs.lemmas.trees.Marks.{cited_none}
use Rattle.tfpg_clause.specs.declared.path.PathSplit.{PathSplit}
use Rattle.tfpg_clause.specs.Trees.{split_count}

-- The front stays, its next split has one more alternative and goes on to it, and the deeper splits are left.
pub record After (path next : List PathSplit) : Type 0 where
  pub front : List PathSplit
  pub taken : PathSplit
  pub deeper : List PathSplit
  pub path_is : path ≡ front ++ taken ∷ deeper
  pub next_is : next ≡ front ++ next_alternative taken ∷ []
  pub more : taken.alternative < taken.alternatives

pub after_is : (path next : List PathSplit) → next_leaf path ≡ Some next → After path next
after_is [] next is = cc
after_is (taken ∷ deeper) next is = by (λ d there. after_is deeper d there) (next_leaf deeper) refl is
  where
    own : (more : Bool) → nat_lt taken.alternative taken.alternatives ≡ more → then_some more (next_alternative taken ∷ []) ≡ Some next → After (taken ∷ deeper) next
    own false none gives = cc
    own true less gives =
        let same : next_alternative taken ∷ [] ≡ next = cc in
        let left : taken.alternative < taken.alternatives = grind (arith, nat_tests) in
        subst (After (taken ∷ deeper)) same (record { front = []; taken = taken; deeper = deeper; path_is = refl; next_is = refl; more = left })

    by : ((d : List PathSplit) → next_leaf deeper ≡ Some d → After deeper d) → (found : Option (List PathSplit)) → next_leaf deeper ≡ found
        → option_or (option_map (λ (fs : List PathSplit). taken ∷ fs) found) (then_some (nat_lt taken.alternative taken.alternatives) (next_alternative taken ∷ [])) ≡ Some next → After (taken ∷ deeper) next
    by further None there gives = own (nat_lt taken.alternative taken.alternatives) refl gives
    by further (Some d) there gives =
        let same : taken ∷ d ≡ next = cc in
        let a = further d there in
        subst (After (taken ∷ deeper)) same
        (record {
          front = taken ∷ a.front;
          taken = a.taken;
          deeper = a.deeper;
          path_is = ap (λ (fs : List PathSplit). taken ∷ fs) a.path_is;
          next_is = ap (λ (fs : List PathSplit). taken ∷ fs) a.next_is;
          more = a.more;
        })

-- Where a subtree is reused, the front stays too.
after_above : (path next : List PathSplit) → next_leaf (above_last path) ≡ Some next → After path next
after_above path next is =
    let a = after_is (above_last path) next is in
    let last : List PathSplit = drop (length path - 1) path in
    record {
      front = a.front;
      taken = a.taken;
      deeper = a.deeper ++ last;
      path_is = sym (take-append-drop (length path - 1) path) ∙ ap (λ (ps : List PathSplit). ps ++ last) a.path_is ∙ append_assoc a.front (a.taken ∷ a.deeper) last;
      next_is = a.next_is;
      more = a.more;
    }

-- A step that closes a leaf marks what it cites, and the path goes on.
abbrev pub Moved : List PathSplit → List PathSplit → Type 0
Moved path next = (reasons : List Reason) × After (cited_by reasons path) next

-- So it is for each step that does not split.
pub moved_by : (case : Case) (path next : List PathSplit) (step : Step) → split_count (step ∷ []) ≡ 0 → MovesTo case path step (Some next) → Moved path next
moved_by case path next (Split name) none moves = absurd cc
moved_by case path next (Cycle reasons) none moves = (reasons, after_is (cited_by reasons path) next (sym moves.1))
moved_by case path next Again none moves = ([], subst (λ (p : List PathSplit). After p next) (sym (cited_none 1 path)) (after_above path next (sym moves.1)))

-- What holds of all splits and does not depend on marks holds where some are marked.
pub all_cited : (P : PathSplit → Type 0) → ((split : PathSplit) (cited : Bool) → P split → P (also_cited cited split))
    → (number : ℕ) (reasons : List Reason) (path : List PathSplit) → All P path → All P (cited_from number reasons path)
all_cited P ignores number reasons [] all = All-nil P
all_cited P ignores number reasons (split ∷ deeper) all =
    All-cons P (also_cited (cites reasons number) split) (cited_from (number + 1) reasons deeper) (ignores split (cites reasons number) (All-head P split deeper all))
    (all_cited P ignores (number + 1) reasons deeper (All-tail P split deeper all))

-- What holds of all splits of a path, and then of each in its next alternative, holds of all splits of the path after.
pub all_next : (P : PathSplit → Type 0) → ((taken : PathSplit) → taken.alternative < taken.alternatives → P taken → P (next_alternative taken))
    → (path next : List PathSplit) → After path next → All P path → All P next
all_next P goes_on path next a all =
    let parts : All P (a.front ++ a.taken ∷ a.deeper) = subst (All P) a.path_is all in
    subst (All P) (sym a.next_is)
    (All-push P a.front (next_alternative a.taken) (All-front P a.front (a.taken ∷ a.deeper) parts)
    (goes_on a.taken a.more (All-head P a.taken a.deeper (All-back P a.front (a.taken ∷ a.deeper) parts))))

-- So it is where a step moved the path, if it does not depend on marks.
pub all_after : (P : PathSplit → Type 0) → ((split : PathSplit) (cited : Bool) → P split → P (also_cited cited split))
    → ((taken : PathSplit) → taken.alternative < taken.alternatives → P taken → P (next_alternative taken))
    → (path next : List PathSplit) → Moved path next → All P path → All P next
all_after P ignores goes_on path next moved all = all_next P goes_on (cited_by moved.0 path) next moved.1 (all_cited P ignores 1 moved.0 path all)
