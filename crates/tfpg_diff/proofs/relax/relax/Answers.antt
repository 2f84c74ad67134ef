-- A pick that is broken closes a cycle or lowers a value.
use Rattle.std.proofs.Common.{arith, ◌≡◌, ◌≢◌, ℕ, ◌+◌, ◌-◌, ◌<◌, ◌≤◌, get_or, set, sym, ap, subst, refl, List, ◌∷◌, ◌++◌, [], ⊎_elim, ◌∙◌}
use Rattle.std.specs.Prelude.{slice_index, pos, ◌+ℤ◌, ◌<ℤ◌}
use Rattle.std.proofs.lemmas.Bool.{cases_eq, false≢true}
use Rattle.std.proofs.lemmas.List.Elements.{All-same}
use Rattle.tfpg_diff.specs.declared.demand.Demand.{Demand}
use Rattle.tfpg_diff.specs.declared.why.Why.{Why}
use Rattle.tfpg_diff.specs.VariableBounds.{VariableBounds}
use Rattle.tfpg_diff.specs.Demands.{Bounded, demands_of}
use Rattle.tfpg_diff.specs.inside.Linked.{no_bounds, no_pick, demands_linked}
use Rattle.tfpg_diff.specs.inside.Kept.{IsLabelled, AreKept}
use Rattle.tfpg_diff.proofs.lemmas.Walks.{Walked-found, Walked-not_found}
use Rattle.tfpg_base.specs.declared.limits.TheConstants.{NEVER}
use Rattle.tfpg_diff.proofs.lemmas.Lowering.{IsBrokenDemand, Labelled-kept, cycle_from_met, cycle_from_floor}
use Rattle.tfpg_diff.proofs.lemmas.Relaxing.{small-kept, IsBrokenDemand-pick, Bounded-read, limits-read, length-cycle, floor-kept, AreKept-lowered}
use Rattle.tfpg_diff.proofs.relax.relax.Goals as goal
use Rattle.tfpg_diff.proofs.relax.relax.Goals.{Else-not-is_broken, Else-leads_to}

pub is_broken-requires-clause-small : goal.is_broken-requires-clause-small
is_broken-requires-clause-small c =
    All-same (λ (value : ℕ). value ≤ NEVER) c.deref.result.now c.args.labels.now.values.items c.deref.ensures.value
    (small-kept (demands_of c.args.bounds.now c.args.picks.now) c.requires.sound c.args.labels.now.values.items (demands_linked (demands_of c.args.bounds.now c.args.picks.now) c.args.labels.now.links.items) c.requires.kept.kept)

-- the pick is broken
broken : (c : Else-not-is_broken) → IsBrokenDemand (demands_of c.args.bounds.now c.args.picks.now) c.args.labels.now.values.items c.demand_of_pick-demand.result
broken c =
    IsBrokenDemand-pick (demands_of c.args.bounds.now c.args.picks.now) c.requires.sound c.args.labels.now.values.items c.args.index no_pick
    c.demand_of_pick-demand.result c.deref.result.now c.requires.index c.demand_of_pick-demand.ensures c.deref.ensures.value
    (c.is_broken.ensures.broken c.if-not-is_broken.false)

-- each link has its number on its left
labelled : (c : Else-not-is_broken) → IsLabelled (demands_linked (demands_of c.args.bounds.now c.args.picks.now) c.args.labels.now.links.items)
labelled c =
    Labelled-kept (demands_of c.args.bounds.now c.args.picks.now) c.args.labels.now.values.items
    (demands_linked (demands_of c.args.bounds.now c.args.picks.now) c.args.labels.now.links.items) c.requires.kept.kept

pub returns-then-leads_to-clause-cycle : goal.returns-then-leads_to-clause-cycle
returns-then-leads_to-clause-cycle c =
    let a = (goal.at.returns-then-leads_to-clause-cycle c).Else-not-is_broken in
    let demand : Demand = c.demand_of_pick-demand.result in
    cycle_from_met (demands_of c.args.bounds.now c.args.picks.now) c.args.labels.now.values.items (demands_linked (demands_of c.args.bounds.now c.args.picks.now) c.args.labels.now.links.items) c.requires.kept.kept
    demand c.begin_cycle.new.cycle.items (broken a)
    (Walked-found (demands_linked (demands_of c.args.bounds.now c.args.picks.now) c.args.labels.now.links.items) (labelled a) demand.constraint.right demand.constraint.left
    (demand.why ∷ []) c.begin_cycle.new.cycle.items c.begin_cycle.result c.if-leads_to.ensures.leads c.begin_cycle.ensures.walked)

-- the left side is a variable, since the links do not lead to it
up : (c : Else-leads_to) → 0 < c.demand_of_pick-demand.result.constraint.left
up c = ⊎_elim
    (λ (zero : c.demand_of_pick-demand.result.constraint.left ≡ 0). absurd (false≢true (sym c.if-leads_to.false ∙ c.leads_to.ensures.found zero)))
    (λ (other : c.demand_of_pick-demand.result.constraint.left ≢ 0). omega arith)
    (cases_eq c.demand_of_pick-demand.result.constraint.left 0)

-- the bounds of the left side
read : (c : Else-leads_to) → Bounded (demands_of c.args.bounds.now c.args.picks.now) (c.demand_of_pick-demand.result.constraint.left - 1)
    (get_or c.args.bounds.now (c.demand_of_pick-demand.result.constraint.left - 1) no_bounds)
    × (c.demand_of_pick-demand.result.constraint.left ≡ (c.demand_of_pick-demand.result.constraint.left - 1) + 1)
read c = Bounded-read (demands_of c.args.bounds.now c.args.picks.now) c.demand_of_pick-demand.result.constraint.left (up c) (broken (goal.at.Else-leads_to c).Else-not-is_broken).left

pub allowed-requires-clause-small : goal.allowed-requires-clause-small
allowed-requires-clause-small c =
    All-same (λ (value : ℕ). value ≤ NEVER) c.deref-2.result.now c.args.labels.now.values.items c.deref-2.ensures.value
    (small-kept (demands_of c.args.bounds.now c.args.picks.now) c.requires.sound c.args.labels.now.values.items (demands_linked (demands_of c.args.bounds.now c.args.picks.now) c.args.labels.now.links.items) c.requires.kept.kept)

pub allowed-requires-clause-low : goal.allowed-requires-clause-low
allowed-requires-clause-low c =
    rw (c.floor.ensures ∙ ap (λ (limits : VariableBounds). limits.floor) (limits-read c.args.bounds.now c.demand_of_pick-demand.result.constraint.left c.index-bounds-left.result (up (goal.at.allowed-requires-clause-low c).Else-leads_to) (broken (goal.at.allowed-requires-clause-low c).Else-not-is_broken).left c.index-bounds-left.is)) (floor-kept (demands_of c.args.bounds.now c.args.picks.now) c.requires.sound c.args.labels.now.values.items (demands_linked (demands_of c.args.bounds.now c.args.picks.now) c.args.labels.now.links.items) c.requires.kept.kept
    (c.demand_of_pick-demand.result.constraint.left - 1) (get_or c.args.bounds.now (c.demand_of_pick-demand.result.constraint.left - 1) no_bounds)
    (read (goal.at.allowed-requires-clause-low c).Else-leads_to).0)

pub push_tag-requires : goal.push_tag-requires
push_tag-requires c =
    let a = (goal.at.push_tag-requires c).Else-not-is_broken in
    let demand : Demand = c.demand_of_pick-demand.result in
    let few = length-cycle (demands_of c.args.bounds.now c.args.picks.now) c.args.labels.now.values.items (demands_linked (demands_of c.args.bounds.now c.args.picks.now) c.args.labels.now.links.items) c.requires.kept.kept
    demand.constraint.right demand.constraint.left demand.why c.begin_cycle-in_default.new.cycle.items
    (Walked-not_found (demands_linked (demands_of c.args.bounds.now c.args.picks.now) c.args.labels.now.links.items) (labelled a) demand.constraint.right demand.constraint.left
    (demand.why ∷ []) c.begin_cycle-in_default.new.cycle.items c.begin_cycle-in_default.result c.if-leads_to.ensures.leads c.begin_cycle-in_default.ensures.walked) in
    omega (arith, few, c.begin_cycle-in_default.new.cycle.ok.0, c.begin_cycle-in_default.ensures.capacity)

pub returns-in_default-clause-cycle : goal.returns-in_default-clause-cycle
returns-in_default-clause-cycle c =
    let a = (goal.at.returns-in_default-clause-cycle c).Else-not-is_broken in
    let r = read (goal.at.returns-in_default-clause-cycle c).Else-leads_to in
    let demand : Demand = c.demand_of_pick-demand.result in
    rw (c.push_tag.ensures.items ∙ ap (λ (why : Why). c.begin_cycle-in_default.new.cycle.items ++ why ∷ []) (c.floor_why.ensures ∙ ap (λ (limits : VariableBounds). limits.floor_why) (limits-read c.args.bounds.now c.demand_of_pick-demand.result.constraint.left c.index-bounds-left.result (up (goal.at.returns-in_default-clause-cycle c).Else-leads_to) (broken (goal.at.returns-in_default-clause-cycle c).Else-not-is_broken).left c.index-bounds-left.is))) (cycle_from_floor (demands_of c.args.bounds.now c.args.picks.now) c.args.labels.now.values.items (demands_linked (demands_of c.args.bounds.now c.args.picks.now) c.args.labels.now.links.items) c.requires.kept.kept
    demand c.begin_cycle-in_default.new.cycle.items (demand.constraint.left - 1) (get_or c.args.bounds.now (demand.constraint.left - 1) no_bounds) (broken a)
    (Walked-not_found (demands_linked (demands_of c.args.bounds.now c.args.picks.now) c.args.labels.now.links.items) (labelled a) demand.constraint.right demand.constraint.left
    (demand.why ∷ []) c.begin_cycle-in_default.new.cycle.items c.begin_cycle-in_default.result c.if-leads_to.ensures.leads c.begin_cycle-in_default.ensures.walked)
    r.0 r.1
    (subst (λ (xs : List ℕ). (pos (slice_index xs demand.constraint.right) +ℤ demand.constraint.most) <ℤ pos (get_or c.args.bounds.now (demand.constraint.left - 1) no_bounds).floor)
    c.deref-2.ensures.value (subst (λ (low : ℕ). (pos (slice_index c.deref-2.result.now demand.constraint.right) +ℤ demand.constraint.most) <ℤ pos low) (c.floor.ensures ∙ ap (λ (limits : VariableBounds). limits.floor) (limits-read c.args.bounds.now c.demand_of_pick-demand.result.constraint.left c.index-bounds-left.result (up (goal.at.returns-in_default-clause-cycle c).Else-leads_to) (broken (goal.at.returns-in_default-clause-cycle c).Else-not-is_broken).left c.index-bounds-left.is)) (c.in_default.ensures.below refl))))

pub returns-clause-kept : goal.returns-clause-kept
returns-clause-kept c =
    let b = broken (goal.at.returns-clause-kept c).Else-not-is_broken in
    let r = read (goal.at.returns-clause-kept c).Else-leads_to in
    let demand : Demand = c.demand_of_pick-demand.result in
    subst (λ (vs : List ℕ). AreKept (demands_of c.args.bounds.now c.args.picks.now) vs c.lower.new.self.links.items) (sym c.lower.ensures.values)
    (subst (AreKept (demands_of c.args.bounds.now c.args.picks.now) (set c.args.labels.now.values.items demand.constraint.left c.in-Some.value)) (sym c.lower.ensures.links)
    (AreKept-lowered (demands_of c.args.bounds.now c.args.picks.now) c.args.labels.now.values.items c.args.labels.now.links.items c.requires.kept c.args.index
    demand c.in-Some.value (demand.constraint.left - 1) (get_or c.args.bounds.now (demand.constraint.left - 1) no_bounds)
    c.demand_of_pick-demand.ensures b c.if-leads_to.ensures.leads r.0 r.1
    (subst (λ (xs : List ℕ). pos c.in-Some.value ≡ (pos (slice_index xs demand.constraint.right) +ℤ demand.constraint.most))
    c.deref-2.ensures.value c.in-Some.ensures.value)
    (subst (λ (low : ℕ). low ≤ c.in-Some.value) (c.floor.ensures ∙ ap (λ (limits : VariableBounds). limits.floor) (limits-read c.args.bounds.now c.demand_of_pick-demand.result.constraint.left c.index-bounds-left.result (up (goal.at.returns-clause-kept c).Else-leads_to) (broken (goal.at.returns-clause-kept c).Else-not-is_broken).left c.index-bounds-left.is)) c.in-Some.ensures.above)))
