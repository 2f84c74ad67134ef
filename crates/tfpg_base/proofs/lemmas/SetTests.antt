-- What tests of sets and of hypotheses by the subsets of both lists come to.
use Rattle.std.proofs.Common.{◌≡◌, ◌↔◌, Bool, true, false, List, ℕ, length, ⊎_elim, subst, arith, IsTrue}
use Rattle.std.specs.Prelude.{Contains}
use Rattle.tfpg_base.proofs.lemmas.lists.Elements.{All-from_members}
use Rattle.tfpg_base.proofs.lemmas.Sets.{IsSubset-cases}
use Rattle.tfpg_base.specs.NodeSet.{IsNodeSet}
use Rattle.tfpg_base.specs.Set.{IsSubset}
use Rattle.tfpg_base.specs.Hypothesis.{Hypothesis}

-- a set is a subset of itself
same_subset : (one other : List ℕ) → one ≡ other → IsSubset one other
same_subset one other same = subst (IsSubset one) same (All-from_members (Contains one) one (λ x member. member))

-- sets of as many nodes are equal exactly where the one is a subset of the other
pub equal_exactly : (test : Bool) (one other : List ℕ) → IsNodeSet one → IsNodeSet other → length one ≡ length other → IsTrue test ↔ IsSubset one other → IsTrue test ↔ (one ≡ other)
equal_exactly test one other is_set is_other as_many exact = (
  λ holds. ⊎_elim (λ same. same) (λ shorter. absurd (omega (arith, shorter, as_many))) (IsSubset-cases other one is_set.rising is_other.rising (exact.0 holds)),
  λ same. exact.1 (same_subset one other same),
)

module _ (part whole mine theirs : Hypothesis) (is_mine : mine ≡ part) (is_theirs : theirs ≡ whole) (first : Bool) (sets : IsTrue first ↔ IsSubset mine.set theirs.set) where
  -- where the failure modes are a subset, the doubts decide,
  pub part_by_doubts : (test : Bool) → first ≡ true → IsTrue test ↔ IsSubset mine.doubts theirs.doubts → IsTrue test ↔ (IsSubset part.set whole.set × IsSubset part.doubts whole.doubts)
  part_by_doubts test holds doubts =
      subst (λ (p : Hypothesis). IsTrue test ↔ (IsSubset p.set whole.set × IsSubset p.doubts whole.doubts)) is_mine
      (subst (λ (w : Hypothesis). IsTrue test ↔ (IsSubset mine.set w.set × IsSubset mine.doubts w.doubts)) is_theirs
      (λ is. (sets.0 holds, doubts.0 is), λ both. doubts.1 both.1))

  -- and where they are none, it is no part
  pub no_part_by_set : first ≡ false → IsTrue first ↔ (IsSubset part.set whole.set × IsSubset part.doubts whole.doubts)
  no_part_by_set fails =
      subst (λ (p : Hypothesis). IsTrue first ↔ (IsSubset p.set whole.set × IsSubset p.doubts whole.doubts)) is_mine
      (subst (λ (w : Hypothesis). IsTrue first ↔ (IsSubset mine.set w.set × IsSubset mine.doubts w.doubts)) is_theirs
      (λ is. absurd cc, λ both. sets.1 both.0))
