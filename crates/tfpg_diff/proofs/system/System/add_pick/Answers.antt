-- A pick that the values meet is pushed on the stack, and any other lowers values or is taken off again.
use Rattle.std.proofs.Common.{◌≡◌, ℕ, ◌+◌, ◌-◌, ◌^◌, ◌<◌, ◌≤◌, List, ◌∷◌, ◌++◌, [], length, take, sym, ◌∙◌, ap, subst, arith, length-append}
use Rattle.std.specs.Prelude.{vec_capacity, vec_len}
use Rattle.std.proofs.lemmas.List.{take_at}
use Rattle.std.proofs.lemmas.List.Elements.{All-same}
use Rattle.tfpg_diff.specs.declared.demand.Demand.{Demand}
use Rattle.tfpg_diff.specs.declared.pick.Pick.{Pick}
use Rattle.tfpg_diff.specs.Demands.{Demands, demand_of_pick, demands_of}
use Rattle.tfpg_diff.specs.Solution.{HasSolution}
use Rattle.tfpg_diff.specs.Cycle.{NamesNegativeCycle}
use Rattle.tfpg_base.specs.declared.limits.TheConstants.{NEVER}
use Rattle.tfpg_diff.specs.SystemState.{SystemState, with_pick}
use Rattle.tfpg_diff.specs.inside.Linked.{demands_linked}
use Rattle.tfpg_diff.specs.declared.why.Why.{Why}
use Rattle.tfpg_diff.specs.inside.Kept.{IsMetBy, AreKept, IsSound, MeetsPicks}
use Rattle.tfpg_diff.specs.inside.Undone.{Remembers}
use Rattle.tfpg_diff.specs.inside.Ready.{IsReady, CanTakeBack, TakesBack}
use Rattle.tfpg_diff.proofs.lemmas.TakingBack.{AreSized-kept, IsReady-lengthened, CanTakeBack-conflict, IsReady-taken_back}
use Rattle.tfpg_diff.proofs.lemmas.Totals.{HasNoSolution-cycle}
use Rattle.tfpg_diff.proofs.lemmas.Relaxing.{small-kept}
use Rattle.tfpg_diff.proofs.lemmas.Outcomes as outcome
use Rattle.tfpg_diff.proofs.system.System.add_pick.Goals as goal
use Rattle.tfpg_diff.proofs.system.System.add_pick.Goals.{After-push_in_room, After-is_broken, After-deref-3, After-lower_until_met, After-deref-in-Err-2}

-- the demands of the fields are those that contracts see
seen : (c : After-push_in_room) → demands_of c.self.inside.bounds.items c.self.inside.picks.items ≡ c.args.self.now.demands
seen c = ap (λ (s : SystemState). s.demands) c.self.view_is

-- the pick stands on the stack
pushed : (c : After-push_in_room) → c.push_in_room.new.picks.items ≡ c.self.inside.picks.items ++ c.args.pick ∷ []
pushed c = c.push_in_room.ensures.items

-- there is room for the index of the pick
room : (c : After-push_in_room) → length c.self.inside.picks.items + 1 < 2 ^ 32
room c = omega (arith, c.requires.spare, ap (λ (s : SystemState). s.spare) c.self.view_is, c.self.inside.picks.ok.0)

pub is_broken-requires-clause-small : goal.is_broken-requires-clause-small
is_broken-requires-clause-small c =
    All-same (λ (value : ℕ). value ≤ NEVER) c.deref.result.now c.self.inside.labels.values.items c.deref.ensures.value
    (small-kept (demands_of c.self.inside.bounds.items c.self.inside.picks.items) c.self.invariant.sound c.self.inside.labels.values.items (demands_linked (demands_of c.self.inside.bounds.items c.self.inside.picks.items) c.self.inside.labels.links.items) c.self.invariant.kept.kept)

-- the values meet the pick where the test says so
met : (c : After-is_broken) → IsMetBy c.deref.result.now c.demand_of_pick.result → IsMetBy c.self.inside.labels.values.items (demand_of_pick c.args.pick)
met c m = subst (λ (values : List ℕ). IsMetBy values (demand_of_pick c.args.pick)) c.deref.ensures.value
    (subst (λ (e : Demand). IsMetBy c.deref.result.now e) c.demand_of_pick.ensures m)

pub invariant_of-self : goal.invariant_of-self
invariant_of-self c =
    let a = (goal.at.invariant_of-self c).After-push_in_room in
    subst (λ (picks : List Pick). IsReady (demands_of c.self.inside.bounds.items picks) c.self.inside.labels (vec_capacity c.self.inside.cycle)) (sym (pushed a))
    (outcome.IsReady-pick c.self.inside.bounds.items c.self.inside.picks.items c.self.inside.labels (vec_capacity c.self.inside.cycle) c.self.invariant c.args.self.now.demands (seen a)
    c.args.pick (room a) c.requires.left c.requires.right (met (goal.at.invariant_of-self c).After-is_broken (c.is_broken.ensures.met c.if-not-is_broken.true)))

pub returns-then-not-is_broken-clause-adds : goal.returns-then-not-is_broken-clause-adds
returns-then-not-is_broken-clause-adds c =
    let a = (goal.at.returns-then-not-is_broken-clause-adds c).After-push_in_room in
    rw (pushed a) (outcome.adds_pick c.self.inside.bounds.items c.self.inside.picks.items c.self.inside.labels (vec_capacity c.self.inside.cycle) c.self.invariant c.args.self.now.demands (seen a)
    c.args.pick (room a) c.requires.left c.requires.right (met (goal.at.returns-then-not-is_broken-clause-adds c).After-is_broken (c.is_broken.ensures.met c.if-not-is_broken.true)))

-- the lengthened demands, as the code reads them
lengthened : (c : After-deref-3) (pushed : c.push_in_room.new.picks.items ≡ c.self.inside.picks.items ++ c.args.pick ∷ []) →
    demands_of c.deref-2.result.now c.deref-3.result.now ≡ demands_of c.self.inside.bounds.items (c.self.inside.picks.items ++ c.args.pick ∷ [])
lengthened c pushed = outcome.demands_read c.self.inside.bounds.items c.deref-2.result.now (c.self.inside.picks.items ++ c.args.pick ∷ []) c.deref-3.result.now
    c.deref-2.ensures.value (c.deref-3.ensures.value ∙ pushed)

pub lower_until_met-requires-clause-sound : goal.lower_until_met-requires-clause-sound
lower_until_met-requires-clause-sound c =
    let a = goal.at.lower_until_met-requires-clause-sound c in
    subst IsSound (sym (lengthened a.After-deref-3 (pushed a.After-push_in_room)))
    (outcome.IsSound-more c.self.inside.bounds.items c.self.inside.picks.items c.self.inside.labels (vec_capacity c.self.inside.cycle) c.self.invariant c.args.self.now.demands (seen a.After-push_in_room)
    c.args.pick (room a.After-push_in_room) c.requires.left c.requires.right)

pub lower_until_met-requires-clause-kept : goal.lower_until_met-requires-clause-kept
lower_until_met-requires-clause-kept c =
    let a = goal.at.lower_until_met-requires-clause-kept c in
    subst (λ (d : Demands). AreKept d c.self.inside.labels.values.items c.self.inside.labels.links.items)
    (sym (lengthened a.After-deref-3 (pushed a.After-push_in_room)))
    (outcome.AreKept-pick c.self.inside.bounds.items c.self.inside.picks.items c.self.inside.labels (vec_capacity c.self.inside.cycle) c.self.invariant c.args.self.now.demands
    (seen a.After-push_in_room) c.args.pick)

-- what the trail saved
remembers : (c : After-lower_until_met) → Remembers (length c.self.inside.picks.items) c.self.inside.labels c.lower_until_met.new.labels
remembers c =
    let before : c.len-before.result ≡ length c.self.inside.picks.items = omega (arith, c.len-before.ensures, c.self.inside.picks.ok.0) in
    subst (λ (count : ℕ). Remembers count c.self.inside.labels c.lower_until_met.new.labels) before c.lower_until_met.ensures.remembers

pub invariant_of-self-in-Ok : goal.invariant_of-self-in-Ok
invariant_of-self-in-Ok c =
    let at = goal.at.invariant_of-self-in-Ok c in
    let a = at.After-push_in_room in
    subst (λ (picks : List Pick). IsReady (demands_of c.self.inside.bounds.items picks) c.lower_until_met.new.labels (vec_capacity c.lower_until_met.new.cycle)) (sym (pushed a))
    (IsReady-lengthened c.self.inside.bounds.items c.self.inside.picks.items c.self.inside.labels (vec_capacity c.self.inside.cycle) c.self.invariant c.lower_until_met.new.labels (remembers at.After-lower_until_met)
    c.args.pick (vec_capacity c.lower_until_met.new.cycle)
    (outcome.IsSound-more c.self.inside.bounds.items c.self.inside.picks.items c.self.inside.labels (vec_capacity c.self.inside.cycle) c.self.invariant c.args.self.now.demands (seen a) c.args.pick (room a) c.requires.left c.requires.right)
    (subst (λ (d : Demands). AreKept d c.lower_until_met.new.labels.values.items c.lower_until_met.new.labels.links.items) (lengthened at.After-deref-3 (pushed a)) c.in-Ok.ensures.kept)
    (subst (MeetsPicks c.lower_until_met.new.labels.values.items) (c.deref-3.ensures.value ∙ pushed a) c.in-Ok.ensures.met)
    (omega (arith, c.self.invariant.room, c.in-Ok.ensures.capacity)))

pub returns-in-Ok-clause-adds : goal.returns-in-Ok-clause-adds
returns-in-Ok-clause-adds c =
    let a = (goal.at.returns-in-Ok-clause-adds c).After-push_in_room in
    let p = pushed a in
    let is = outcome.with_pick-seen c.self.inside.bounds.items c.self.inside.picks.items c.self.inside.labels (vec_capacity c.self.inside.cycle) c.self.invariant c.args.self.now.demands (seen a) c.args.pick in
    let same = lengthened (goal.at.returns-in-Ok-clause-adds c).After-deref-3 p in (
      ap (λ (ps : List Pick). demands_of c.self.inside.bounds.items ps) p ∙ is,
      subst HasSolution (same ∙ is)
          (outcome.HasSolution-kept (demands_of c.deref-2.result.now c.deref-3.result.now) c.lower_until_met.new.labels.values.items
          (demands_linked (demands_of c.deref-2.result.now c.deref-3.result.now) c.lower_until_met.new.labels.links.items)
          c.in-Ok.ensures.kept.kept c.in-Ok.ensures.met),
    )

-- what is left after the pick is taken off
popped : (c : After-push_in_room) (rest : List Pick) → rest ≡ take (vec_len c.push_in_room.new.picks - 1) c.push_in_room.new.picks.items → rest ≡ c.self.inside.picks.items
popped c rest is =
    let p = pushed c in
    let len = ap length p in
    let own = c.push_in_room.new.picks.ok.0 in
    is ∙ ap (take (vec_len c.push_in_room.new.picks - 1)) p
    ∙ take_at c.self.inside.picks.items (c.args.pick ∷ []) (vec_len c.push_in_room.new.picks - 1)
    (omega (arith, len, own, length-append c.self.inside.picks.items (c.args.pick ∷ [])))

-- the old demands, as the code reads them
as_before : (c : After-deref-in-Err-2) → demands_of c.deref-in-Err.result.now c.deref-in-Err-2.result.now ≡ demands_of c.self.inside.bounds.items c.self.inside.picks.items
as_before c = outcome.demands_read c.self.inside.bounds.items c.deref-in-Err.result.now c.self.inside.picks.items c.deref-in-Err-2.result.now
    c.deref-in-Err.ensures.value (c.deref-in-Err-2.ensures.value ∙ popped (goal.at.After-deref-in-Err-2 c).After-push_in_room c.pop.new.self.items c.pop.ensures.rest)

pub take_back-requires-clause-sound : goal.take_back-requires-clause-sound
take_back-requires-clause-sound c = subst IsSound (sym (as_before (goal.at.take_back-requires-clause-sound c).After-deref-in-Err-2)) c.self.invariant.sound

pub take_back-requires-clause-able : goal.take_back-requires-clause-able
take_back-requires-clause-able c =
    let at = goal.at.take_back-requires-clause-able c in
    subst (λ (d : Demands). CanTakeBack d c.lower_until_met.new.labels) (sym (as_before at.After-deref-in-Err-2))
    (CanTakeBack-conflict c.self.inside.bounds.items c.self.inside.picks.items c.self.inside.labels (vec_capacity c.self.inside.cycle) c.self.invariant c.lower_until_met.new.labels (remembers at.After-lower_until_met)
    (AreSized-kept (demands_of c.deref-2.result.now c.deref-3.result.now) (demands_of c.self.inside.bounds.items c.self.inside.picks.items) c.lower_until_met.new.labels c.in-Err.ensures.kept
    (ap length c.deref-2.ensures.value)))

pub take_back-requires-clause-room : goal.take_back-requires-clause-room
take_back-requires-clause-room c = omega (arith, ap length c.deref-in-Err.ensures.value, c.self.invariant.room, c.in-Err.ensures.capacity)

pub invariant_of-self-in-Err : goal.invariant_of-self-in-Err
invariant_of-self-in-Err c =
    let at = goal.at.invariant_of-self-in-Err c in
    let rest = popped at.After-push_in_room c.pop.new.self.items c.pop.ensures.rest in
    subst (λ (picks : List Pick). IsReady (demands_of c.self.inside.bounds.items picks) c.take_back.new.labels (vec_capacity c.take_back.new.cycle)) (sym rest)
    (IsReady-taken_back c.self.inside.bounds.items c.self.inside.picks.items c.self.inside.labels (vec_capacity c.self.inside.cycle) c.self.invariant c.lower_until_met.new.labels (remembers at.After-lower_until_met)
    c.take_back.new.labels (vec_capacity c.take_back.new.cycle)
    (subst (λ (d : Demands). TakesBack d c.lower_until_met.new.labels c.take_back.new.labels) (as_before at.After-deref-in-Err-2) c.take_back.ensures.taken)
    (omega (arith, c.in-Err.ensures.capacity, c.take_back.ensures.capacity)))

pub returns-in-Err-clause-adds : goal.returns-in-Err-clause-adds
returns-in-Err-clause-adds c =
    let at = goal.at.returns-in-Err-clause-adds c in
    let a = at.After-push_in_room in
    let is = outcome.with_pick-seen c.self.inside.bounds.items c.self.inside.picks.items c.self.inside.labels (vec_capacity c.self.inside.cycle) c.self.invariant c.args.self.now.demands (seen a) c.args.pick in
    let same = lengthened at.After-deref-3 (pushed a) in
    let cycle = subst (λ (tags : List Why). NamesNegativeCycle (with_pick c.args.self.now.demands c.args.pick.constraint c.args.pick.tag) tags) (sym c.take_back.ensures.cycle)
    (subst (λ (d : Demands). NamesNegativeCycle d c.lower_until_met.new.cycle.items) (same ∙ is) c.in-Err.ensures.cycle) in (
      ap (λ (ps : List Pick). demands_of c.self.inside.bounds.items ps) (popped a c.pop.new.self.items c.pop.ensures.rest) ∙ seen a,
      HasNoSolution-cycle (with_pick c.args.self.now.demands c.args.pick.constraint c.args.pick.tag) c.take_back.new.cycle.items cycle,
      cycle,
    )
