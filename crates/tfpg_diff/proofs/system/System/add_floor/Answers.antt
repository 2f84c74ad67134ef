-- A floor that is not tighter changes nothing, one above the value closes a cycle, and any other is written.
use Rattle.std.proofs.Common.{◌≡◌, ℕ, ◌+◌, ◌<◌, ◌≤◌, ◌∷◌, [], length, Some, refl, sym, ap, subst, arith}
use Rattle.std.specs.Prelude.{slice_get, slice_index, vec_capacity}
use Rattle.std.proofs.lemmas.List.{get_or_read_under}
use Rattle.tfpg_base.proofs.lemmas.lists.Choices.{cond-same}
use Rattle.tfpg_diff.specs.declared.why.Why.TheVariants.{Given}
use Rattle.tfpg_diff.specs.Demands.{Demands, demands_of}
use Rattle.tfpg_diff.specs.SystemState.{SystemState}
use Rattle.tfpg_diff.specs.inside.Linked.{demands_linked}
use Rattle.tfpg_diff.specs.inside.Kept.{IsSound, AreKept, Walked}
use Rattle.tfpg_diff.proofs.lemmas.Outcomes as outcome
use Rattle.tfpg_diff.proofs.system.System.add_floor.Goals as goal
use Rattle.tfpg_diff.proofs.system.System.add_floor.Goals.{After-index-old, Else-least-floor, After-index, After-deref-then-index-least}

-- the demands of the fields are those that contracts see
seen : (c : After-index-old) → demands_of c.self.inside.bounds.items c.self.inside.picks.items ≡ c.args.self.now.demands
seen c = ap (λ (s : SystemState). s.demands) c.self.view_is

-- the bounds that the variable has
at : (c : After-index-old) → slice_get c.self.inside.bounds.items c.args.variable ≡ Some c.index-old.result.now
at c = outcome.Bounded-old c.self.inside.bounds.items c.self.inside.picks.items c.self.inside.labels (vec_capacity c.self.inside.cycle) c.self.invariant c.args.self.now.demands (seen c)
    c.args.variable c.index-old.result.now c.index-old.ensures c.requires

-- the floor is above the old one
tighter : (c : Else-least-floor) → c.index-old.result.now.floor < c.args.least
tighter c = subst (λ (floor : ℕ). floor < c.args.least) c.floor.ensures c.if-least-floor.false

-- the value of the variable, as the code reads it
value : (c : After-index) → c.index.result.now ≡ slice_index c.self.inside.labels.values.items (c.args.variable + 1)
value c =
    let len = ap (λ (d : Demands). length d.bounds) (ap (λ (s : SystemState). s.demands) c.self.view_is) in
    let all = c.self.invariant.kept.kept.values_len in
    get_or_read_under c.self.inside.labels.values.items (c.args.variable + 1) (length c.self.inside.labels.values.items) c.index.result.now 0 c.index.ensures (omega arith) refl

pub returns-then-least-floor-clause-adds : goal.returns-then-least-floor-clause-adds
returns-then-least-floor-clause-adds c =
    let a = (goal.at.returns-then-least-floor-clause-adds c).After-index-old in
    outcome.adds_floor_same c.self.inside.bounds.items c.self.inside.picks.items c.self.inside.labels (vec_capacity c.self.inside.cycle) c.self.invariant c.args.self.now.demands (seen a)
    c.args.variable c.index-old.result.now c.args.least c.args.tag (at a) (subst (λ (floor : ℕ). c.args.least ≤ floor) c.floor.ensures c.if-least-floor.true)

-- the demands, as the code reads them
demands : (c : After-deref-then-index-least) → demands_of c.deref.result.now c.deref-then-index-least.result.now ≡ demands_of c.self.inside.bounds.items c.self.inside.picks.items
demands c = outcome.demands_read c.self.inside.bounds.items c.deref.result.now c.self.inside.picks.items c.deref-then-index-least.result.now c.deref.ensures.value c.deref-then-index-least.ensures.value

pub begin_cycle-requires-clause-sound : goal.begin_cycle-requires-clause-sound
begin_cycle-requires-clause-sound c = subst IsSound (sym (demands (goal.at.begin_cycle-requires-clause-sound c).After-deref-then-index-least)) c.self.invariant.sound

pub begin_cycle-requires-clause-kept : goal.begin_cycle-requires-clause-kept
begin_cycle-requires-clause-kept c =
    subst (λ (d : Demands). AreKept d c.self.inside.labels.values.items c.self.inside.labels.links.items)
    (sym (demands (goal.at.begin_cycle-requires-clause-kept c).After-deref-then-index-least)) c.self.invariant.kept

pub returns-then-index-least-clause-adds : goal.returns-then-index-least-clause-adds
returns-then-index-least-clause-adds c =
    let a = (goal.at.returns-then-index-least-clause-adds c).After-index-old in
    let read = value (goal.at.returns-then-index-least-clause-adds c).After-index in
    outcome.adds_floor_conflict c.self.inside.bounds.items c.self.inside.picks.items c.self.inside.labels (vec_capacity c.self.inside.cycle) c.self.invariant c.args.self.now.demands (seen a)
    c.args.variable c.index-old.result.now c.args.least c.args.tag c.begin_cycle.new.cycle.items (at a) (tighter (goal.at.returns-then-index-least-clause-adds c).Else-least-floor)
    (omega (arith, read, c.if-index-least.true))
    (subst (λ (d : Demands). Walked (demands_linked d c.self.inside.labels.links.items) (c.args.variable + 1) 0 0 (Given c.args.tag ∷ []) c.begin_cycle.new.cycle.items)
    (demands (goal.at.returns-then-index-least-clause-adds c).After-deref-then-index-least)
    (subst (λ (stands : ℕ). Walked (demands_linked (demands_of c.deref.result.now c.deref-then-index-least.result.now) c.self.inside.labels.links.items) (c.args.variable + 1) 0 stands
    (Given c.args.tag ∷ []) c.begin_cycle.new.cycle.items)
    (cond-same c.begin_cycle.result 0) c.begin_cycle.ensures.walked))

pub invariant_of-self-2 : goal.invariant_of-self-2
invariant_of-self-2 c =
    let a = (goal.at.invariant_of-self-2 c).After-index-old in
    let read = value (goal.at.invariant_of-self-2 c).After-index in
    rw c.with_floor.ensures (outcome.IsReady-floor c.self.inside.bounds.items c.self.inside.picks.items c.self.inside.labels (vec_capacity c.self.inside.cycle) c.self.invariant c.args.self.now.demands (seen a)
    c.args.variable c.index-old.result.now c.args.least c.args.tag (at a) (tighter (goal.at.invariant_of-self-2 c).Else-least-floor) (omega (arith, read, c.if-index-least.false)))

pub returns-clause-adds : goal.returns-clause-adds
returns-clause-adds c =
    let a = (goal.at.returns-clause-adds c).After-index-old in
    let read = value (goal.at.returns-clause-adds c).After-index in
    rw c.with_floor.ensures (outcome.adds_floor c.self.inside.bounds.items c.self.inside.picks.items c.self.inside.labels (vec_capacity c.self.inside.cycle) c.self.invariant c.args.self.now.demands (seen a)
    c.args.variable c.index-old.result.now c.args.least c.args.tag (at a) (tighter (goal.at.returns-clause-adds c).Else-least-floor) (omega (arith, read, c.if-index-least.false)))
