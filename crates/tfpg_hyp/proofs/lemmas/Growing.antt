-- What a set reaches, while it grows member by member.
use Rattle.std.proofs.Common.{◌≡◌, ℕ, ◌+◌, ◌<◌, ◌≤◌, ⊎_elim, List, length, sym, subst, arith}
use Rattle.std.specs.List.{Contains}
use Rattle.std.proofs.lemmas.Bool.{cases_lt}
use Rattle.std.proofs.lemmas.List.Elements.{All-contains}
use Rattle.tfpg_base.specs.Set.{IsSubset, with_member}
use Rattle.tfpg_base.proofs.lemmas.Sets.{All-with_member, Contains-with_member, with_member-keeps}
use Rattle.tfpg_base.proofs.lemmas.lists.Elements.{All-from_members}
use Rattle.tfpg_graph.specs.Graph.{Tfpg, failures, AreFailures}
use Rattle.tfpg_graph.specs.Reach.{IsReach}
use Rattle.tfpg_graph.proofs.lemmas.reach.Growing.{Reaches-larger}

-- the members of a part of a set of failure modes are failure modes
pub AreFailures-part : (graph : Tfpg) (part set : List ℕ) → IsSubset part set → AreFailures graph set → AreFailures graph part
AreFailures-part graph part set within failing =
    All-from_members (λ position. position < length (failures graph)) part
    (λ position member. All-contains (λ p. p < length (failures graph)) set position failing (All-contains (Contains set) part position within member))

-- sets with the same members reach the same
IsReach-same : (graph : Tfpg) (set other reach : List ℕ) → IsSubset set other → IsSubset other set → IsReach graph set reach → IsReach graph other reach
IsReach-same graph set other reach there back is = record {
  rising = is.rising;
  exact = λ node. (
    λ member. Reaches-larger graph set other there node ((is.exact node).0 member),
    λ reaches. (is.exact node).1 (Reaches-larger graph other set back node reaches),
  );
}

-- What the set has before a position, it has so far, and nothing else; and this is what that reaches.
pub record IsGrowing (graph : Tfpg) (set : List ℕ) (end : ℕ) (so_far reach : List ℕ) : Type 0 where
  pub reached : IsReach graph so_far reach
  pub within : IsSubset so_far set
  pub has : (position : ℕ) → position < end → Contains set position → Contains so_far position

module _ (graph : Tfpg) (set so_far : List ℕ) where
  -- it begins with a part of the set
  pub IsGrowing-none : (reach : List ℕ) → IsSubset so_far set → IsReach graph so_far reach → IsGrowing graph set 0 so_far reach
  IsGrowing-none reach within is = record { reached = is; within = within; has = λ position before. absurd (omega arith) }

  module _ (end : ℕ) (reach : List ℕ) (growing : IsGrowing graph set end so_far reach) where
    -- one position on, that is no member of the set
    pub IsGrowing-passed : (Contains set end → ⊥) → IsGrowing graph set (end + 1) so_far reach
    IsGrowing-passed lacks = record {
      reached = growing.reached;
      within = growing.within;
      has = λ position before member. ⊎_elim (λ earlier. growing.has position earlier member)
          (λ last. let same : position ≡ end = omega (arith, before, last) in
          absurd (lacks (subst (Contains set) same member))) (cases_lt position end);
    }

    -- one position on, that is one
    pub IsGrowing-with : (larger more : List ℕ) → larger ≡ with_member end so_far → Contains set end → IsReach graph (with_member end so_far) more → IsGrowing graph set (end + 1) larger more
    IsGrowing-with larger more is member reached =
        subst (λ (s : List ℕ). IsGrowing graph set (end + 1) s more) (sym is)
        (record {
          reached = reached;
          within = All-with_member (Contains set) end so_far member growing.within;
          has = λ position before in_set. ⊎_elim (λ earlier. with_member-keeps end so_far position (growing.has position earlier in_set))
              (λ last. let same : end ≡ position = omega (arith, before, last) in
              subst (Contains (with_member end so_far)) same (Contains-with_member end so_far)) (cases_lt position end);
        })

    -- after the last position that is what the set reaches
    pub IsReach-grown : AreFailures graph set → length (failures graph) ≤ end → IsReach graph set reach
    IsReach-grown failing all =
        IsReach-same graph so_far set reach growing.within
        (All-from_members (Contains so_far) set
        (λ position member.
        let below = All-contains (λ p. p < length (failures graph)) set position failing member in
        growing.has position (omega (arith, below, all)) member)) growing.reached
