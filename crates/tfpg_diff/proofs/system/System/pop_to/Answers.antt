-- A ready system is taken back to fewer picks.
use Rattle.std.proofs.Common.{◌≡◌, ◌<◌, List, length, take, sym, ◌∙◌, ap, subst, arith}
use Rattle.std.specs.Prelude.{vec_capacity}
use Rattle.tfpg_diff.specs.declared.pick.Pick.{Pick}
use Rattle.tfpg_diff.specs.Demands.{Demands, demands_of}
use Rattle.tfpg_diff.specs.SystemState.{SystemState}
use Rattle.tfpg_diff.specs.inside.Ready.{IsReady, CanTakeBack, TakesBack}
use Rattle.tfpg_diff.proofs.lemmas.Outcomes.{demands_read}
use Rattle.tfpg_diff.proofs.lemmas.TakingBack.{CanTakeBack-popped, IsReady-popped}
use Rattle.tfpg_diff.proofs.system.System.pop_to.Goals as goal
use Rattle.tfpg_diff.proofs.system.System.pop_to.Goals.{After-deref-2}

-- the demands with fewer picks, as the code reads them
popped : (c : After-deref-2) → demands_of c.deref.result.now c.deref-2.result.now ≡ demands_of c.self.inside.bounds.items (take c.args.len c.self.inside.picks.items)
popped c = demands_read c.self.inside.bounds.items c.deref.result.now (take c.args.len c.self.inside.picks.items) c.deref-2.result.now
    c.deref.ensures.value (c.deref-2.ensures.value ∙ c.truncate.ensures.items)

-- there are fewer
fewer : (c : After-deref-2) → c.args.len < length c.self.inside.picks.items
fewer c =
    let same = ap (λ (s : SystemState). length s.demands.picks) c.self.view_is in
    omega (arith, same, c.len.ensures, c.self.inside.picks.ok.0)

pub take_back-requires-clause-able : goal.take_back-requires-clause-able
take_back-requires-clause-able c =
    let a = (goal.at.take_back-requires-clause-able c).After-deref-2 in
    subst (λ (d : Demands). CanTakeBack d c.self.inside.labels) (sym (popped a))
    (CanTakeBack-popped c.self.inside.bounds.items c.self.inside.picks.items c.self.inside.labels (vec_capacity c.self.inside.cycle) c.self.invariant c.args.len (fewer a))

pub invariant_of-self : goal.invariant_of-self
invariant_of-self c =
    let a = (goal.at.invariant_of-self c).After-deref-2 in
    subst (λ (picks : List Pick). IsReady (demands_of c.self.inside.bounds.items picks) c.take_back.new.labels (vec_capacity c.take_back.new.cycle)) (sym c.truncate.ensures.items)
    (IsReady-popped c.self.inside.bounds.items c.self.inside.picks.items c.self.inside.labels (vec_capacity c.self.inside.cycle) c.self.invariant c.args.len (fewer a) c.take_back.new.labels (vec_capacity c.take_back.new.cycle)
    (subst (λ (d : Demands). TakesBack d c.self.inside.labels c.take_back.new.labels) (popped a) c.take_back.ensures.taken) c.take_back.ensures.capacity)
