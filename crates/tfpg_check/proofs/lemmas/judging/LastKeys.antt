-- What comes after the last key comes after all before.
use Rattle.std.proofs.Common.{◌≡◌, ◌≤◌, ℕ, ◌+◌, ◌∷◌, [], ◌++◌, List, Option, Some, None, take, get_or, slice_get, sym, subst}
use Rattle.std.specs.List.{All}
use Rattle.std.proofs.lemmas.List.Elements.{All-push, All-nil}
use Rattle.tfpg_base.proofs.lemmas.lists.Cuts.{take-next}
use Rattle.tfpg_base.proofs.lemmas.lists.Elements.{All-middle}
use Rattle.tfpg_hyp.specs.Ranking.{IsRankedBefore}
use Rattle.tfpg_hyp.specs.declared.place.Place.{Place}
use Rattle.tfpg_report.specs.declared.read_round.RankedLine.{RankedLine}
use Rattle.tfpg_check.specs.Judging.{key_read}
use Rattle.tfpg_check.specs.inside.RankedKeys.{IsLastOf}

-- the ranking order is transitive, as the law says it
abbrev pub IsTransitive : Type 0
IsTransitive = (a b c : Place) → 1 ≤ a.robust.monitored → 1 ≤ b.robust.monitored → 1 ≤ c.robust.monitored → IsRankedBefore a b → IsRankedBefore b c → IsRankedBefore a c

pub last_none : IsLastOf [] None
last_none = record { fractions = All-nil (λ (r : RankedLine). 1 ≤ r.monitored); exact = λ key fraction. (λ all. tt, λ none. All-nil (λ (r : RankedLine). IsRankedBefore (key_read r) key)) }

last_more : IsTransitive → (before : List RankedLine) (last : Option Place) (r : RankedLine) → IsLastOf before last → 1 ≤ r.monitored
    → All (λ (earlier : RankedLine). IsRankedBefore (key_read earlier) (key_read r)) before → IsLastOf (before ++ r ∷ []) (Some (key_read r))
last_more transitive before last r is fraction in_order = record {
  fractions = All-push (λ (e : RankedLine). 1 ≤ e.monitored) before r is.fractions fraction;
  exact = λ key whole. (
    λ all. All-middle (λ (e : RankedLine). IsRankedBefore (key_read e) key) before r [] all,
    λ comes. All-push (λ (e : RankedLine). IsRankedBefore (key_read e) key) before r
        (λ k d less. transitive (key_read (get_or before k d)) (key_read r) key (is.fractions k d less) fraction whole (in_order k d less) comes) comes,
  );
}

-- the last key after one ranked line more, which comes after those before
pub last_step : IsTransitive → (xs : List RankedLine) (index : ℕ) (last : Option Place) (r : RankedLine) (key : Place) → slice_get xs index ≡ Some r → IsLastOf (take index xs) last → 1 ≤ r.monitored
    → All (λ (earlier : RankedLine). IsRankedBefore (key_read earlier) (key_read r)) (take index xs) → key ≡ key_read r → IsLastOf (take (index + 1) xs) (Some key)
last_step transitive xs index last r key at is fraction in_order same =
    subst (λ (k : Place). IsLastOf (take (index + 1) xs) (Some k)) (sym same)
    (subst (λ (before : List RankedLine). IsLastOf before (Some (key_read r))) (sym (take-next xs index r at)) (last_more transitive (take index xs) last r is fraction in_order))
