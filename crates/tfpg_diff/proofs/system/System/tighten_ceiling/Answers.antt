-- A tighter ceiling that the value is not above is written, and any other lowers the value first.
use Rattle.std.proofs.Common.{◌≡◌, ℕ, ◌+◌, ◌<◌, ◌≤◌, List, length, set, Some, refl, sym, ◌∙◌, ap, subst, arith}
use Rattle.std.specs.Prelude.{slice_get, slice_index, vec_capacity}
use Rattle.std.proofs.lemmas.List.{get_or_read_under, length-set}
use Rattle.tfpg_diff.specs.declared.why.Why.{Why}
use Rattle.tfpg_diff.specs.VariableBounds.{VariableBounds}
use Rattle.tfpg_diff.specs.Demands.{Demands, demands_of}
use Rattle.tfpg_diff.specs.Solution.{HasSolution}
use Rattle.tfpg_diff.proofs.lemmas.Totals.{HasNoSolution-cycle}
use Rattle.tfpg_diff.specs.Cycle.{NamesNegativeCycle}
use Rattle.tfpg_diff.specs.SystemState.{SystemState, with_ceiling}
use Rattle.tfpg_diff.specs.inside.Linked.{demands_linked}
use Rattle.tfpg_diff.specs.declared.labels.Labels.{Labels}
use Rattle.tfpg_diff.specs.inside.Kept.{AreKept, IsSound, MeetsPicks}
use Rattle.tfpg_diff.specs.inside.Undone.{Remembers}
use Rattle.tfpg_diff.specs.inside.Ready.{IsReady, CanTakeBack, TakesBack}
use Rattle.tfpg_diff.proofs.lemmas.Undoing.{Remembers-more}
use Rattle.tfpg_diff.proofs.lemmas.TakingBack.{AreSized-kept, IsReady-afresh, CanTakeBack-conflict, IsReady-taken_back}
use Rattle.tfpg_diff.proofs.lemmas.Bounding.{under}
use Rattle.tfpg_base.proofs.lemmas.lists.Written.{set_back}
use Rattle.tfpg_diff.proofs.lemmas.Outcomes as outcome
use Rattle.tfpg_diff.proofs.system.System.tighten_ceiling.Goals as goal
use Rattle.tfpg_diff.proofs.system.System.tighten_ceiling.Goals.{After-index-old, After-with_ceiling, After-index, After-restart, After-deref-2, After-lower_until_met, After-deref-in-Err-2}

-- the demands of the fields are those that contracts see
seen : (c : After-index-old) → demands_of c.self.inside.bounds.items c.self.inside.picks.items ≡ c.args.self.now.demands
seen c = ap (λ (s : SystemState). s.demands) c.self.view_is

-- the bounds that the variable has
at_v : (c : After-index-old) → slice_get c.self.inside.bounds.items c.args.variable ≡ Some c.index-old.result.now
at_v c = outcome.Bounded-old c.self.inside.bounds.items c.self.inside.picks.items c.self.inside.labels (vec_capacity c.self.inside.cycle) c.self.invariant c.args.self.now.demands (seen c)
    c.args.variable c.index-old.result.now c.index-old.ensures c.requires.variable

-- the ceiling is below the old one, and not below the floor
between : (c : After-index-old) → (c.args.ceiling < c.index-old.result.now.ceiling) × (c.index-old.result.now.floor ≤ c.args.ceiling)
between c = c.requires.tighter c.index-old.result.now (subst (λ (d : Demands). slice_get d.bounds c.args.variable ≡ Some c.index-old.result.now) (seen c) (at_v c))

tighter : (c : After-index-old) → c.args.ceiling < c.index-old.result.now.ceiling
tighter c = (between c).0

-- the value of the variable, as the code reads it
value : (c : After-index) → c.index.result.now ≡ slice_index c.self.inside.labels.values.items (c.args.variable + 1)
value c =
    let len = ap (λ (d : Demands). length d.bounds) (ap (λ (s : SystemState). s.demands) c.self.view_is) in
    let all = c.self.invariant.kept.kept.values_len in
    get_or_read_under c.self.inside.labels.values.items (c.args.variable + 1) (length c.self.inside.labels.values.items) c.index.result.now 0 c.index.ensures (omega arith) refl

-- the lengthened demands, as the code reads them
lengthened : (c : After-deref-2) → demands_of c.deref.result.now c.deref-2.result.now
    ≡ demands_of (set c.self.inside.bounds.items c.args.variable (under c.index-old.result.now c.args.ceiling c.args.tag)) c.self.inside.picks.items
lengthened c = outcome.demands_read (set c.self.inside.bounds.items c.args.variable (under c.index-old.result.now c.args.ceiling c.args.tag)) c.deref.result.now
    c.self.inside.picks.items c.deref-2.result.now (c.deref.ensures.value ∙ ap (set c.self.inside.bounds.items c.args.variable) c.with_ceiling.ensures) c.deref-2.ensures.value

-- the tighter ceiling is written
written : (c : After-index-old) → c.args.ceiling < c.index-old.result.now.ceiling → demands_of (set c.self.inside.bounds.items c.args.variable (under c.index-old.result.now c.args.ceiling c.args.tag)) c.self.inside.picks.items
    ≡ with_ceiling c.args.self.now.demands c.args.variable c.args.ceiling c.args.tag
written c tighter = outcome.with_ceiling-set c.self.inside.bounds.items c.self.inside.picks.items c.self.inside.labels (vec_capacity c.self.inside.cycle) c.self.invariant c.args.self.now.demands (seen c)
    c.args.variable c.index-old.result.now c.args.ceiling c.args.tag (at_v c) tighter

-- the tighter demands are sound
sound : (c : After-index-old) → c.args.ceiling < c.index-old.result.now.ceiling → IsSound (demands_of (set c.self.inside.bounds.items c.args.variable (under c.index-old.result.now c.args.ceiling c.args.tag)) c.self.inside.picks.items)
sound c tighter = outcome.IsSound-ceiling c.self.inside.bounds.items c.self.inside.picks.items c.self.inside.labels (vec_capacity c.self.inside.cycle) c.self.invariant c.args.self.now.demands (seen c)
    c.args.variable c.index-old.result.now c.args.ceiling c.args.tag (at_v c) tighter

-- the bounds that are restored are the old ones
restored : (c : After-with_ceiling) → set (set c.self.inside.bounds.items c.args.variable c.with_ceiling.result) c.args.variable c.index-old.result.now ≡ c.self.inside.bounds.items
restored c = set_back c.self.inside.bounds.items c.args.variable c.index-old.result.now c.with_ceiling.result (at_v (goal.at.After-with_ceiling c).After-index-old)

pub returns-then-index-ceiling-clause-adds : goal.returns-then-index-ceiling-clause-adds
returns-then-index-ceiling-clause-adds c =
    let a = (goal.at.returns-then-index-ceiling-clause-adds c).After-index-old in
    let read = value (goal.at.returns-then-index-ceiling-clause-adds c).After-index in
    rw c.with_ceiling.ensures (outcome.adds_ceiling c.self.inside.bounds.items c.self.inside.picks.items c.self.inside.labels (vec_capacity c.self.inside.cycle) c.self.invariant c.args.self.now.demands (seen a)
    c.args.variable c.index-old.result.now c.args.ceiling c.args.tag (at_v a) (tighter (goal.at.returns-then-index-ceiling-clause-adds c).After-index-old) (omega (arith, read, c.if-index-ceiling.true)))

-- how many picks there are
before : (c : After-restart) → c.len-before.result ≡ length c.self.inside.picks.items
before c = omega (arith, c.len-before.ensures, c.self.inside.picks.ok.0)

-- the labels with the trail restarted
abbrev restarted : After-restart → Labels
restarted c = record { values = c.self.inside.labels.values; links = c.self.inside.labels.links; trail = c.restart.new.self }

-- the old system is ready with them
ready : (c : After-restart) → IsReady (demands_of c.self.inside.bounds.items c.self.inside.picks.items) (restarted c) (vec_capacity c.self.inside.cycle)
ready c = outcome.IsReady-restarted c.self.inside.bounds.items c.self.inside.picks.items c.self.inside.labels (vec_capacity c.self.inside.cycle) c.self.invariant c.args.self.now.demands (seen (goal.at.After-restart c).After-index-old)
    (restarted c) refl refl c.restart.ensures.saved (let b = before c in let f = c.from.ensures in let r = c.restart.ensures.reach in omega arith)

-- what the trail saved
remembers : (c : After-lower_until_met) → Remembers (length c.self.inside.picks.items) (restarted (goal.at.After-lower_until_met c).After-restart) c.lower_until_met.new.labels
remembers c =
    subst (λ (count : ℕ). Remembers count (restarted (goal.at.After-lower_until_met c).After-restart) c.lower_until_met.new.labels) (before (goal.at.After-lower_until_met c).After-restart)
    (Remembers-more c.len-before.result (restarted (goal.at.After-lower_until_met c).After-restart) c.lower.new.self c.lower_until_met.new.labels c.lower.ensures.remembers c.lower_until_met.ensures.remembers)

pub invariant_of-self : goal.invariant_of-self
invariant_of-self c =
    let at = goal.at.invariant_of-self c in
    let read = value at.After-index in
    rw c.with_ceiling.ensures (outcome.IsReady-ceiling c.self.inside.bounds.items c.self.inside.picks.items c.self.inside.labels (vec_capacity c.self.inside.cycle) c.self.invariant c.args.self.now.demands (seen at.After-index-old)
    c.args.variable c.index-old.result.now c.args.ceiling c.args.tag (at_v at.After-index-old) (tighter (goal.at.invariant_of-self c).After-index-old) (omega (arith, read, c.if-index-ceiling.true))
    (restarted at.After-restart) refl refl c.restart.ensures.saved
    (let b = before at.After-restart in let f = c.from.ensures in let r = c.restart.ensures.reach in omega arith))

pub lower_until_met-requires-clause-sound : goal.lower_until_met-requires-clause-sound
lower_until_met-requires-clause-sound c =
    subst IsSound (sym (lengthened (goal.at.lower_until_met-requires-clause-sound c).After-deref-2))
    (sound (goal.at.lower_until_met-requires-clause-sound c).After-index-old (tighter (goal.at.lower_until_met-requires-clause-sound c).After-index-old))

pub lower_until_met-requires-clause-kept : goal.lower_until_met-requires-clause-kept
lower_until_met-requires-clause-kept c =
    let at = goal.at.lower_until_met-requires-clause-kept c in
    let read = value at.After-index in
    subst (λ (d : Demands). AreKept d c.lower.new.self.values.items c.lower.new.self.links.items) (sym (lengthened at.After-deref-2))
    (subst (λ (vs : List ℕ). AreKept (demands_of (set c.self.inside.bounds.items c.args.variable (under c.index-old.result.now c.args.ceiling c.args.tag)) c.self.inside.picks.items) vs c.lower.new.self.links.items) (sym c.lower.ensures.values)
    (subst (AreKept (demands_of (set c.self.inside.bounds.items c.args.variable (under c.index-old.result.now c.args.ceiling c.args.tag)) c.self.inside.picks.items) (set c.self.inside.labels.values.items (c.args.variable + 1) c.args.ceiling)) (sym c.lower.ensures.links)
    (outcome.AreKept-ceiling_low c.self.inside.bounds.items c.self.inside.picks.items c.self.inside.labels (vec_capacity c.self.inside.cycle) c.self.invariant c.args.self.now.demands (seen at.After-index-old)
    c.args.variable c.index-old.result.now c.args.ceiling c.args.tag (at_v at.After-index-old) (tighter (goal.at.lower_until_met-requires-clause-kept c).After-index-old) (between at.After-index-old).1 (omega (arith, read, c.if-index-ceiling.false)))))

pub invariant_of-self-in-Ok : goal.invariant_of-self-in-Ok
invariant_of-self-in-Ok c =
    let at = goal.at.invariant_of-self-in-Ok c in
    let same = length-set c.self.inside.bounds.items c.args.variable (under c.index-old.result.now c.args.ceiling c.args.tag) in
    let b = before at.After-restart in
    let f = c.from-in-Ok.ensures in
    let r = c.restart-in-Ok.ensures.reach in
    rw c.with_ceiling.ensures (IsReady-afresh (demands_of (set c.self.inside.bounds.items c.args.variable (under c.index-old.result.now c.args.ceiling c.args.tag)) c.self.inside.picks.items) _ (vec_capacity c.lower_until_met.new.cycle) (sound at.After-index-old (tighter (goal.at.invariant_of-self-in-Ok c).After-index-old))
    (subst (λ (d : Demands). AreKept d c.lower_until_met.new.labels.values.items c.lower_until_met.new.labels.links.items) (lengthened at.After-deref-2) c.in-Ok.ensures.kept)
    (subst (MeetsPicks c.lower_until_met.new.labels.values.items) c.deref-2.ensures.value c.in-Ok.ensures.met) c.restart-in-Ok.ensures.saved (omega arith)
    (omega (arith, same, c.self.invariant.room, c.in-Ok.ensures.capacity)))

pub returns-in-Ok-clause-adds : goal.returns-in-Ok-clause-adds
returns-in-Ok-clause-adds c =
    let is = written (goal.at.returns-in-Ok-clause-adds c).After-index-old (tighter (goal.at.returns-in-Ok-clause-adds c).After-index-old) in
    let same = lengthened (goal.at.returns-in-Ok-clause-adds c).After-deref-2 in rw c.with_ceiling.ensures (
      is,
      subst HasSolution (same ∙ is)
          (outcome.HasSolution-kept (demands_of c.deref.result.now c.deref-2.result.now) c.lower_until_met.new.labels.values.items
          (demands_linked (demands_of c.deref.result.now c.deref-2.result.now) c.lower_until_met.new.labels.links.items)
          c.in-Ok.ensures.kept.kept c.in-Ok.ensures.met),
    )

-- the old demands, as the code reads them
as_before : (c : After-deref-in-Err-2) → demands_of c.deref-in-Err.result.now c.deref-in-Err-2.result.now ≡ demands_of c.self.inside.bounds.items c.self.inside.picks.items
as_before c = outcome.demands_read c.self.inside.bounds.items c.deref-in-Err.result.now c.self.inside.picks.items c.deref-in-Err-2.result.now
    (c.deref-in-Err.ensures.value ∙ restored (goal.at.After-deref-in-Err-2 c).After-with_ceiling) c.deref-in-Err-2.ensures.value

pub take_back-requires-clause-sound : goal.take_back-requires-clause-sound
take_back-requires-clause-sound c = subst IsSound (sym (as_before (goal.at.take_back-requires-clause-sound c).After-deref-in-Err-2)) c.self.invariant.sound

pub take_back-requires-clause-able : goal.take_back-requires-clause-able
take_back-requires-clause-able c =
    let at = goal.at.take_back-requires-clause-able c in
    subst (λ (d : Demands). CanTakeBack d c.lower_until_met.new.labels) (sym (as_before at.After-deref-in-Err-2))
    (CanTakeBack-conflict c.self.inside.bounds.items c.self.inside.picks.items (restarted at.After-restart) (vec_capacity c.self.inside.cycle) (ready at.After-restart) c.lower_until_met.new.labels (remembers at.After-lower_until_met)
    (AreSized-kept (demands_of c.deref.result.now c.deref-2.result.now) (demands_of c.self.inside.bounds.items c.self.inside.picks.items) c.lower_until_met.new.labels c.in-Err.ensures.kept
    (ap length c.deref.ensures.value ∙ length-set c.self.inside.bounds.items c.args.variable c.with_ceiling.result)))

pub invariant_of-self-in-Err : goal.invariant_of-self-in-Err
invariant_of-self-in-Err c =
    let at = goal.at.invariant_of-self-in-Err c in
    subst (λ (bounds : List VariableBounds). IsReady (demands_of bounds c.self.inside.picks.items) c.take_back.new.labels (vec_capacity c.take_back.new.cycle)) (sym (restored at.After-with_ceiling))
    (IsReady-taken_back c.self.inside.bounds.items c.self.inside.picks.items (restarted at.After-restart) (vec_capacity c.self.inside.cycle) (ready at.After-restart) c.lower_until_met.new.labels (remembers at.After-lower_until_met)
    c.take_back.new.labels (vec_capacity c.take_back.new.cycle)
    (subst (λ (d : Demands). TakesBack d c.lower_until_met.new.labels c.take_back.new.labels) (as_before at.After-deref-in-Err-2) c.take_back.ensures.taken)
    (omega (arith, c.in-Err.ensures.capacity, c.take_back.ensures.capacity)))

pub returns-in-Err-clause-adds : goal.returns-in-Err-clause-adds
returns-in-Err-clause-adds c =
    let at = goal.at.returns-in-Err-clause-adds c in
    let is = lengthened at.After-deref-2 ∙ written at.After-index-old (tighter (goal.at.returns-in-Err-clause-adds c).After-index-old) in
    let cycle = subst (λ (tags : List Why). NamesNegativeCycle (with_ceiling c.args.self.now.demands c.args.variable c.args.ceiling c.args.tag) tags) (sym c.take_back.ensures.cycle)
    (subst (λ (d : Demands). NamesNegativeCycle d c.lower_until_met.new.cycle.items) is c.in-Err.ensures.cycle) in
    let none = HasNoSolution-cycle (with_ceiling c.args.self.now.demands c.args.variable c.args.ceiling c.args.tag) c.take_back.new.cycle.items cycle in
    (ap (λ (bs : List VariableBounds). demands_of bs c.self.inside.picks.items) (restored at.After-with_ceiling) ∙ seen at.After-index-old, none, cycle)
