-- What the test of a pick knows of it and of the values.
use Rattle.std.proofs.Common.{◌≡◌, ℕ, zero, suc, ◌+◌, ◌-◌, ◌<◌, ◌≤◌, List, [], ◌∷◌, length, length-append, get_or, set, map, sym, ◌∙◌, ap, subst, arith, inr}
use Rattle.std.specs.Prelude.{slice_index, All, pos, ◌+ℤ◌, ◌<ℤ◌}
use Rattle.std.proofs.lemmas.Option.{slice_get-get_or}
use Rattle.std.proofs.lemmas.List.{get_or_default, length-map, length-set}
use Rattle.std.proofs.lemmas.List.Elements.{Contains-get_or}
use Rattle.tfpg_diff.specs.declared.demand.Demand.{Demand}
use Rattle.tfpg_diff.specs.declared.pick.Pick.{Pick}
use Rattle.tfpg_diff.specs.VariableBounds.{VariableBounds}
use Rattle.tfpg_diff.specs.declared.why.Why.{Why}
use Rattle.tfpg_diff.specs.Demands.{Demands, Bounded, demand_of_pick}
use Rattle.tfpg_base.specs.declared.limits.TheConstants.{NEVER}
use Rattle.tfpg_diff.specs.Solution.{IsBetween}
use Rattle.tfpg_diff.specs.declared.link.Link.{Link}
use Rattle.tfpg_diff.specs.declared.link.Link.TheVariants.{Picked}
use Rattle.tfpg_diff.specs.inside.Linked.{no_bounds, no_pick, demand_of_link, demands_linked}
use Rattle.tfpg_diff.specs.inside.Kept.{IsSound, IsKept, AreKept, LeadsTo, Walked}
use Rattle.tfpg_diff.proofs.lemmas.Linked.{demand_of_link-picked, demands_linked-set}
use Rattle.tfpg_diff.proofs.lemmas.Lowering.{IsBrokenDemand, Labelled-kept, IsKept-lowered}
use Rattle.tfpg_diff.proofs.lemmas.Climb.{length-Climbs}

-- no value is past the latest one
pub small-kept : (demands : Demands) (sound : IsSound demands) (values : List ℕ) (links : List Demand) (kept : IsKept demands values links) →
    All (λ value. value ≤ NEVER) values
small-kept demands sound values links kept zero d inside =
    let z = kept.zero_stays in let e = get_or_default values zero d 0 inside in omega arith
small-kept demands sound values links kept (suc v) d inside =
    let within_n : v < length demands.bounds = let k = kept.values_len in omega arith in
    let none : VariableBounds = no_bounds in
    let at = slice_get-get_or demands.bounds v none within_n in
    let within : IsBetween (get_or demands.bounds v none) (slice_index values (v + 1)) = kept.within v (get_or demands.bounds v none) at in
    let ceiling = sound.ceilings v (get_or demands.bounds v none) at in
    let below = within.below in
    let e = get_or_default values (suc v) d 0 inside in
    let here : slice_index values (v + 1) ≡ slice_index values (suc v) = ap (slice_index values) (omega arith) in
    omega arith

-- a pick that the values break, as the code reads both
pub IsBrokenDemand-pick : (demands : Demands) (sound : IsSound demands) (values : List ℕ) (index : ℕ) (d : Pick) (demand : Demand) (now : List ℕ) →
    index < length demands.picks → demand ≡ demand_of_pick (get_or demands.picks index d) → now ≡ values →
    (pos (slice_index now demand.constraint.right) +ℤ demand.constraint.most) <ℤ pos (slice_index now demand.constraint.left) → IsBrokenDemand demands values demand
IsBrokenDemand-pick demands sound values index d demand now inside is same broken =
    let left : demand.constraint.left ≡ (get_or demands.picks index d).constraint.left = ap (λ (e : Demand). e.constraint.left) is in
    let right : demand.constraint.right ≡ (get_or demands.picks index d).constraint.right = ap (λ (e : Demand). e.constraint.right) is in
    let low = sound.lefts index d inside in
    let high = sound.rights index d inside in
    record {
      demanded = inr (inr (get_or demands.picks index d, Contains-get_or demands.picks index d inside, is));
      left = omega arith;
      right = omega arith;
      broken = subst (λ (xs : List ℕ). (pos (slice_index xs demand.constraint.right) +ℤ demand.constraint.most) <ℤ pos (slice_index xs demand.constraint.left)) same broken;
    }

-- the bounds of the left side, as the code reads them
pub Bounded-read : (demands : Demands) (left : ℕ) → 0 < left → left ≤ length demands.bounds →
    Bounded demands (left - 1) (get_or demands.bounds (left - 1) no_bounds) × (left ≡ (left - 1) + 1)
Bounded-read demands left up inside = (slice_get-get_or demands.bounds (left - 1) no_bounds (omega arith), omega arith)

-- they are the same, whatever is read past the end
pub limits-read : (bounds : List VariableBounds) (left : ℕ) (limits : VariableBounds) → 0 < left → left ≤ length bounds →
    limits ≡ get_or bounds (left - 1) limits → limits ≡ get_or bounds (left - 1) no_bounds
limits-read bounds left limits up inside read = read ∙ get_or_default bounds (left - 1) limits no_bounds (omega arith)

-- a cycle that has been walked to zero leaves room for one more tag
pub length-cycle : (demands : Demands) (values : List ℕ) (links : List Demand) (kept : IsKept demands values links) (from sought : ℕ)
    (first : Why) (tags : List Why) → Walked links from sought 0 (first ∷ []) tags → length tags ≤ length demands.bounds + 2
length-cycle demands values links kept from sought first tags walked =
    let few = length-Climbs links (Labelled-kept demands values links kept) from walked.chain walked.climbs in
    let k = kept.links_len in
    omega (arith, ap length walked.tags, length-map walked.chain (λ (demand : Demand). demand.why), length-append (first ∷ []) (map (λ (demand : Demand). demand.why) walked.chain))

-- no floor is past the latest value
pub floor-kept : (demands : Demands) (sound : IsSound demands) (values : List ℕ) (links : List Demand) (kept : IsKept demands values links)
    (variable : ℕ) (bounds : VariableBounds) → Bounded demands variable bounds → bounds.floor ≤ NEVER
floor-kept demands sound values links kept variable bounds at =
    let within : IsBetween bounds (slice_index values (variable + 1)) = kept.within variable bounds at in
    let above = within.above in
    let below = within.below in
    let ceiling = sound.ceilings variable bounds at in
    omega arith

-- a pick that is broken becomes the link of its left side
pub AreKept-lowered : (demands : Demands) (values : List ℕ) (links : List Link) (kept : AreKept demands values links) (index : ℕ) (demand : Demand)
    (value variable : ℕ) (bounds : VariableBounds) → demand ≡ demand_of_pick (get_or demands.picks index no_pick) →
    IsBrokenDemand demands values demand → LeadsTo (demands_linked demands links) demand.constraint.right demand.constraint.left 0 →
    Bounded demands variable bounds → demand.constraint.left ≡ variable + 1 →
    pos value ≡ (pos (slice_index values demand.constraint.right) +ℤ demand.constraint.most) → bounds.floor ≤ value →
    AreKept demands (set values demand.constraint.left value) (set links demand.constraint.left (Picked index))
AreKept-lowered demands values links kept index demand value variable bounds is broken leads bounded number sum high =
    let left : ℕ = demand.constraint.left in
    let same : demand_of_link demands left (Picked index) ≡ demand = demand_of_link-picked demands left index (omega arith) ∙ sym is in
    record {
      count = length-set links left (Picked index) ∙ kept.count;
      kept = subst (λ (es : List Demand). IsKept demands (set values left value) es)
          (sym (demands_linked-set demands links left (Picked index) ∙ ap (set (demands_linked demands links) left) same))
          (IsKept-lowered demands values (demands_linked demands links) kept.kept demand value variable bounds broken leads bounded number sum high);
    }
