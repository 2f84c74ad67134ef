-- A new system, and a fresh computation of an old one.
use Rattle.std.proofs.Common.{◌≡◌, ℕ, zero, suc, ◌+◌, ◌^◌, ◌<◌, ◌≤◌, List, [], ◌∷◌, ◌++◌, length, Some, refl, sym, ◌∙◌, ap, subst, arith}
use Rattle.std.specs.Prelude.{slice_get, slice_index}
use Rattle.std.proofs.lemmas.Option.{same_Some, none-some}
use Rattle.std.proofs.lemmas.List.Elements.{All-nil}
use Rattle.tfpg_diff.specs.declared.link.Link.{Link}
use Rattle.tfpg_diff.specs.declared.why.Why.{Why}
use Rattle.tfpg_diff.specs.VariableBounds.{VariableBounds}
use Rattle.tfpg_diff.specs.declared.pick.Pick.{Pick}
use Rattle.tfpg_diff.specs.declared.labels.Labels.{Labels}
use Rattle.tfpg_diff.specs.Demands.{Demands, demand_of_pick, demands_of}
use Rattle.tfpg_diff.specs.Cycle.{NamesNegativeCycle}
use Rattle.tfpg_base.specs.declared.limits.TheConstants.{NEVER}
use Rattle.tfpg_diff.specs.SystemState.{widest, unbounded_from}
use Rattle.tfpg_diff.specs.Solution.{IsBetween, HasSolution}
use Rattle.tfpg_diff.specs.inside.Kept.{IsMetBy, AreKept, AreAtCeilings}
use Rattle.tfpg_diff.specs.inside.Ready.{IsReady}
use Rattle.tfpg_diff.proofs.lemmas.Totals.{HasNoSolution-cycle}
use Rattle.tfpg_diff.proofs.lemmas.Bounding.{AreKept-start}
use Rattle.tfpg_diff.proofs.lemmas.TakingBack.{IsReady-afresh}

-- one more variable
pub unbounded_from-more : (first count : ℕ) → unbounded_from first (suc count) ≡ unbounded_from first count ++ widest (first + count) ∷ []
unbounded_from-more first zero = ap (λ (n : ℕ). widest n ∷ []) (omega arith)
unbounded_from-more first (suc count) =
    ap (λ (bs : List VariableBounds). widest first ∷ bs)
    (unbounded_from-more (first + 1) count ∙ ap (λ (n : ℕ). unbounded_from (first + 1) count ++ widest n ∷ []) (omega arith))

-- there are as many bounds as variables
pub length-unbounded_from : (first count : ℕ) → length (unbounded_from first count) ≡ count
length-unbounded_from first zero = refl
length-unbounded_from first (suc count) = ap suc (length-unbounded_from (first + 1) count)

-- each has the widest bounds
pub widest_from : (first count v : ℕ) (b : VariableBounds) → slice_get (unbounded_from first count) v ≡ Some b → (b ≡ widest (first + v)) × (v < count)
widest_from first zero v b at = absurd (none-some b at)
widest_from first (suc count) zero b at = (sym (same_Some (widest first) b at) ∙ ap widest (omega arith), omega arith)
widest_from first (suc count) (suc v) b at =
    let after = widest_from (first + 1) count v b at in
    (after.0 ∙ ap widest (omega arith), omega (arith, after.1))

-- a new system is ready
pub IsReady-new : (bounds now : List VariableBounds) (picks : List Pick) (count : ℕ) (labels : Labels) (capacity : ℕ) →
    now ≡ bounds → bounds ≡ unbounded_from 0 count → picks ≡ [] → count ≤ 2 ^ 31 →
    AreAtCeilings now labels.values.items labels.links.items (length now) → labels.trail.saved.items ≡ [] → count + 3 ≤ capacity →
    IsReady (demands_of bounds picks) labels capacity
IsReady-new bounds now picks count labels capacity same is none few start empty room =
    let len : length bounds ≡ count = ap length is ∙ length-unbounded_from 0 count in
    let widths : (v : ℕ) (b : VariableBounds) → slice_get bounds v ≡ Some b → (b.floor ≡ 0) × (b.ceiling ≡ NEVER) =
    λ v b at. (let same = (widest_from 0 count v b (sym (ap (λ (bs : List VariableBounds). slice_get bs v) is) ∙ at)).0 in
    (ap (λ (c : VariableBounds). c.floor) same, ap (λ (c : VariableBounds). c.ceiling) same)) in
    let begun : AreAtCeilings bounds labels.values.items labels.links.items (length bounds) =
    subst (λ (bs : List VariableBounds). AreAtCeilings bs labels.values.items labels.links.items (length bs)) same start in
    subst (λ (ps : List Pick). IsReady (demands_of bounds ps) labels capacity) (sym none)
    (IsReady-afresh (demands_of bounds []) labels capacity
    (record {
      few = omega arith;
      few_picks = omega arith;
      ceilings = λ v b at. (let w = widths v b at in omega (arith, w.1));
      lefts = All-nil (λ (pick : Pick). pick.constraint.left ≤ length bounds);
      rights = All-nil (λ (pick : Pick). pick.constraint.right ≤ length bounds);
    })
    (AreKept-start bounds [] labels.values.items labels.links.items begun (λ v b at. (let w = widths v b at in omega (arith, w.0))))
    (All-nil (λ (pick : Pick). IsMetBy labels.values.items (demand_of_pick pick))) empty (omega arith) (omega arith))

-- a fresh start keeps what is kept, where there is a solution
pub AreKept-fresh : (bounds : List VariableBounds) (picks : List Pick) (values : List ℕ) (links : List Link) → HasSolution (demands_of bounds picks) →
    AreAtCeilings bounds values links (length bounds) → AreKept (demands_of bounds picks) values links
AreKept-fresh bounds picks values links some start =
    AreKept-start bounds picks values links start
    (λ v b at. (let w : IsBetween b (slice_index some.0 v) = some.1.between v b at in
    let above = w.above in let below = w.below in omega arith))

-- and meets no negative cycle
pub no_cycle-solvable : (demands : Demands) (tags : List Why) → HasSolution demands → NamesNegativeCycle demands tags → ⊥
no_cycle-solvable demands tags some cycle = HasNoSolution-cycle demands tags cycle some.0 some.1
