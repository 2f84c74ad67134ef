-- What tags name: after a change of the demands, and of a negative cycle.
use Rattle.std.proofs.Common.{◌≡◌, ℕ, zero, suc, ◌<◌, Bool, true, false, cond, ltb, List, [], ◌∷◌, map, Option, Some, refl, sym, ◌∙◌, ap, subst, inl, inr, ⊎_elim, arith}
use Rattle.std.specs.Prelude.{slice_get, pos, All, Contains, option_map}
use Rattle.std.proofs.lemmas.Option.{same_Some, none-some}
use Rattle.std.proofs.lemmas.List.Elements.{All-head, All-tail, Contains-push_cases}
use Rattle.tfpg_base.specs.declared.constraint.Constraint.{Constraint}
use Rattle.tfpg_base.specs.Bounds.{at_most, at_least}
use Rattle.tfpg_base.specs.Choice.{each_of}
use Rattle.tfpg_base.proofs.lemmas.lists.Elements.{Contains-nil, Contains-take}
use Rattle.tfpg_diff.specs.declared.why.Why.{Why}
use Rattle.tfpg_diff.specs.declared.why.Why.TheVariants.{Floor, Ceiling, Given}
use Rattle.tfpg_diff.specs.VariableBounds.{VariableBounds}
use Rattle.tfpg_diff.specs.declared.pick.Pick.{Pick}
use Rattle.tfpg_diff.specs.declared.demand.Demand.{Demand}
use Rattle.tfpg_diff.specs.Demands.{Demands, Bounded, ceiling_of, floor_of, demand_of_pick}
use Rattle.tfpg_diff.specs.Cycle.{constraints_of, IsNegativeCycleOf, NamesNegativeCycle}
use Rattle.tfpg_diff.specs.Named.{AreDemandsNamed, AreNamesOfNegativeCycle}
use Rattle.tfpg_diff.proofs.lemmas.Fresh.{widest_from}
use Rattle.tfpg_base.specs.declared.limits.TheConstants.{NEVER}
use Rattle.tfpg_diff.specs.SystemState.{widest, unbounded_from, raised, lowered, changed_at, with_floor, with_ceiling, with_pick, popped_to}

-- The tag names the constraint.
abbrev pub IsNamedBy : (Why → Option Constraint) → Demand → Type 0
IsNamedBy named e = named e.why ≡ Some e.constraint

-- The tags of a variable's bounds name them.
abbrev pub AreBoundsNamed : (Why → Option Constraint) → ℕ → VariableBounds → Type 0
AreBoundsNamed named variable bounds = IsNamedBy named (ceiling_of variable bounds) × IsNamedBy named (floor_of variable bounds)

-- where all bounds and all picks are named, all demands are
pub AreDemandsNamed-parts : (demands : Demands) (named : Why → Option Constraint) →
    ((v : ℕ) (b : VariableBounds) → Bounded demands v b → AreBoundsNamed named v b) →
    ((pick : Pick) → Contains demands.picks pick → IsNamedBy named (demand_of_pick pick)) → AreDemandsNamed demands named
AreDemandsNamed-parts demands named bounds picks e demanded = elim demanded [
  | inl is ↦ subst (λ (f : Demand). IsNamedBy named f) (sym is.3) (bounds is.0 is.1 is.2).0
  | inr others ↦ elim others [
    | inl is ↦ subst (λ (f : Demand). IsNamedBy named f) (sym is.3) (bounds is.0 is.1 is.2).1
    | inr is ↦ subst (λ (f : Demand). IsNamedBy named f) (sym is.2) (picks is.0 is.1)
  ]
]

-- and back
pub AreBoundsNamed-demands : (demands : Demands) (named : Why → Option Constraint) → AreDemandsNamed demands named →
    (v : ℕ) (b : VariableBounds) → Bounded demands v b → AreBoundsNamed named v b
AreBoundsNamed-demands demands named names v b at =
    (names (ceiling_of v b) (inl (v, b, at, refl)), names (floor_of v b) (inr (inl (v, b, at, refl))))

-- and back
pub IsNamedBy-pick : (demands : Demands) (named : Why → Option Constraint) → AreDemandsNamed demands named →
    (pick : Pick) → Contains demands.picks pick → IsNamedBy named (demand_of_pick pick)
IsNamedBy-pick demands named names pick among = names (demand_of_pick pick) (inr (inr (pick, among, refl)))

-- a new system's tags name its demands, where those of its variables do
pub AreDemandsNamed-new : (named : Why → Option Constraint) (count : ℕ) →
    ((v : ℕ) → v < count → named (Floor v) ≡ Some (at_least v 0)) →
    ((v : ℕ) → v < count → named (Ceiling v) ≡ Some (at_most v (pos NEVER))) →
    AreDemandsNamed (record { bounds = unbounded_from 0 count; picks = [] }) named
AreDemandsNamed-new named count floors ceilings =
    AreDemandsNamed-parts (record { bounds = unbounded_from 0 count; picks = [] }) named
    (λ v b at. (let found = widest_from 0 count v b at in
    let is : b ≡ widest v = found.0 ∙ ap widest (omega arith) in
    subst (λ (c : VariableBounds). AreBoundsNamed named v c) (sym is) (ceilings v found.1, floors v found.1)))
    (λ p among. absurd (Contains-nil p among))

-- what holds of each variable's bounds holds after a change that keeps it
pub changed_at-all : (P : ℕ → VariableBounds → Type 0) (change : VariableBounds → VariableBounds) (bounds : List VariableBounds) (v : ℕ) →
    ((b : VariableBounds) → P v b → P v (change b)) → ((u : ℕ) (b : VariableBounds) → slice_get bounds u ≡ Some b → P u b) →
    (u : ℕ) (b : VariableBounds) → slice_get (changed_at change bounds v) u ≡ Some b → P u b
changed_at-all P change [] v keeps all u b at = absurd (none-some b at)
changed_at-all P change (c ∷ cs) zero keeps all zero b at = subst (P zero) (same_Some (change c) b at) (keeps c (all zero c refl))
changed_at-all P change (c ∷ cs) zero keeps all (suc u) b at = all (suc u) b at
changed_at-all P change (c ∷ cs) (suc v) keeps all zero b at = all zero b at
changed_at-all P change (c ∷ cs) (suc v) keeps all (suc u) b at =
    changed_at-all (λ n d. P (suc n) d) change cs v keeps (λ n d here. all (suc n) d here) u b at

-- a raised bound is named
raised-named : (named : Why → Option Constraint) (v least tag : ℕ) →
    named (Given tag) ≡ Some (at_least v least) →
    (b : VariableBounds) → AreBoundsNamed named v b → AreBoundsNamed named v (raised least tag b)
raised-named named v least tag new b names = by (ltb b.floor least)
  where
    by : (c : Bool) → AreBoundsNamed named v (cond c (record b { floor = least; floor_why = Given tag }) b)
    by true = (names.0, new)
    by false = names

-- a lowered bound is named
lowered-named : (named : Why → Option Constraint) (v ceiling tag : ℕ) →
    named (Given tag) ≡ Some (at_most v (pos ceiling)) →
    (b : VariableBounds) → AreBoundsNamed named v b → AreBoundsNamed named v (lowered ceiling tag b)
lowered-named named v ceiling tag new b names = by (ltb ceiling b.ceiling)
  where
    by : (c : Bool) → AreBoundsNamed named v (cond c (record b { ceiling = ceiling; ceiling_why = Given tag }) b)
    by true = (new, names.1)
    by false = names

-- a lower bound was added
pub AreDemandsNamed-floor : (demands : Demands) (named : Why → Option Constraint) (variable least tag : ℕ) → AreDemandsNamed demands named →
    named (Given tag) ≡ Some (at_least variable least) →
    AreDemandsNamed (with_floor demands variable least tag) named
AreDemandsNamed-floor demands named variable least tag names new =
    AreDemandsNamed-parts (with_floor demands variable least tag) named
    (changed_at-all (AreBoundsNamed named) (raised least tag) demands.bounds variable (raised-named named variable least tag new)
    (AreBoundsNamed-demands demands named names))
    (IsNamedBy-pick demands named names)

-- an upper bound was added
pub AreDemandsNamed-ceiling : (demands : Demands) (named : Why → Option Constraint) (variable ceiling tag : ℕ) → AreDemandsNamed demands named →
    named (Given tag) ≡ Some (at_most variable (pos ceiling)) →
    AreDemandsNamed (with_ceiling demands variable ceiling tag) named
AreDemandsNamed-ceiling demands named variable ceiling tag names new =
    AreDemandsNamed-parts (with_ceiling demands variable ceiling tag) named
    (changed_at-all (AreBoundsNamed named) (lowered ceiling tag) demands.bounds variable (lowered-named named variable ceiling tag new)
    (AreBoundsNamed-demands demands named names))
    (IsNamedBy-pick demands named names)

-- a pick was added
pub AreDemandsNamed-demand_of_pick : (demands : Demands) (named : Why → Option Constraint) (constraint : Constraint) (tag : ℕ) →
    AreDemandsNamed demands named → named (Given tag) ≡ Some constraint → AreDemandsNamed (with_pick demands constraint tag) named
AreDemandsNamed-demand_of_pick demands named constraint tag names new =
    let pick : Pick = record { constraint = constraint; tag = tag } in
    AreDemandsNamed-parts (with_pick demands constraint tag) named
    (AreBoundsNamed-demands demands named names)
    (λ p among. ⊎_elim
    (λ (old : Contains demands.picks p). IsNamedBy-pick demands named names p old)
    (λ (last : pick ≡ p). subst (λ (q : Pick). IsNamedBy named (demand_of_pick q)) last new)
    (Contains-push_cases demands.picks pick p among))

-- picks were popped
pub AreDemandsNamed-popped : (demands : Demands) (named : Why → Option Constraint) (len : ℕ) → AreDemandsNamed demands named →
    AreDemandsNamed (popped_to demands len) named
AreDemandsNamed-popped demands named len names =
    AreDemandsNamed-parts (popped_to demands len) named
    (AreBoundsNamed-demands demands named names)
    (λ p among. IsNamedBy-pick demands named names p (Contains-take demands.picks len p among))

-- the constraints of a list of demands are those that their tags name
each_of-named : (named : Why → Option Constraint) (es : List Demand) → All (IsNamedBy named) es →
    each_of (map named (map (λ (e : Demand). e.why) es)) ≡ Some (constraints_of es)
each_of-named named [] all = refl
each_of-named named (e ∷ es) all =
    let rest = each_of-named named es (All-tail (IsNamedBy named) e es all) in
    ap (λ (o : Option Constraint). each_of (o ∷ map named (map (λ (f : Demand). f.why) es))) (All-head (IsNamedBy named) e es all)
    ∙ ap (option_map (λ (cs : List Constraint). e.constraint ∷ cs)) rest

-- a negative cycle is one of constraints that the tags name
pub AreNamesOfNegativeCycle-named : (demands : Demands) (named : Why → Option Constraint) (tags : List Why) → AreDemandsNamed demands named →
    NamesNegativeCycle demands tags → (constraints : List Constraint) × AreNamesOfNegativeCycle named tags constraints
AreNamesOfNegativeCycle-named demands named tags names found =
    let cycle : IsNegativeCycleOf demands tags found.0 = found.1 in (
      constraints_of found.0,
      record {
        are_named = ap (λ (whys : List Why). each_of (map named whys)) (sym cycle.tags_are)
            ∙ each_of-named named found.0 (λ i d inside. names _ (cycle.demanded i d inside));
        negative_cycle = cycle.negative_cycle;
        simple = cycle.simple;
      },
    )
