-- A ceiling that is not tighter changes nothing, one below the floor closes a cycle, and any other is handed on.
use Rattle.std.proofs.Common.{◌≡◌, ℕ, ◌<◌, ◌≤◌, List, ◌∷◌, ◌++◌, [], Some, sym, ◌∙◌, ap, subst}
use Rattle.std.specs.Prelude.{slice_get, vec_capacity}
use Rattle.std.proofs.lemmas.Option.{same_Some}
use Rattle.tfpg_diff.specs.declared.why.Why.{Why}
use Rattle.tfpg_diff.specs.declared.why.Why.TheVariants.{Given}
use Rattle.tfpg_diff.specs.VariableBounds.{VariableBounds}
use Rattle.tfpg_diff.specs.Demands.{demands_of}
use Rattle.tfpg_diff.specs.SystemState.{SystemState}
use Rattle.tfpg_diff.proofs.lemmas.Outcomes as outcome
use Rattle.tfpg_diff.proofs.system.System.add_ceiling.Goals as goal
use Rattle.tfpg_diff.proofs.system.System.add_ceiling.Goals.{After-index-old, Else-ceiling}

-- the demands of the fields are those that contracts see
seen : (c : After-index-old) → demands_of c.self.inside.bounds.items c.self.inside.picks.items ≡ c.args.self.now.demands
seen c = ap (λ (s : SystemState). s.demands) c.self.view_is

-- the bounds that the variable has
at_v : (c : After-index-old) → slice_get c.self.inside.bounds.items c.args.variable ≡ Some c.index-old.result.now
at_v c = outcome.Bounded-old c.self.inside.bounds.items c.self.inside.picks.items c.self.inside.labels (vec_capacity c.self.inside.cycle) c.self.invariant c.args.self.now.demands (seen c)
    c.args.variable c.index-old.result.now c.index-old.ensures c.requires

-- the ceiling is below the old one
tighter : (c : Else-ceiling) → c.args.ceiling < c.index-old.result.now.ceiling
tighter c = subst (λ (ceiling : ℕ). c.args.ceiling < ceiling) c.ceiling.ensures c.if-ceiling.false

pub returns-then-ceiling-clause-adds : goal.returns-then-ceiling-clause-adds
returns-then-ceiling-clause-adds c =
    let a = (goal.at.returns-then-ceiling-clause-adds c).After-index-old in
    outcome.adds_ceiling_same c.self.inside.bounds.items c.self.inside.picks.items c.self.inside.labels (vec_capacity c.self.inside.cycle) c.self.invariant c.args.self.now.demands (seen a)
    c.args.variable c.index-old.result.now c.args.ceiling c.args.tag (at_v a) (subst (λ (ceiling : ℕ). ceiling ≤ c.args.ceiling) c.ceiling.ensures c.if-ceiling.true)

pub returns-then-ceiling-floor-clause-adds : goal.returns-then-ceiling-floor-clause-adds
returns-then-ceiling-floor-clause-adds c =
    let a = (goal.at.returns-then-ceiling-floor-clause-adds c).After-index-old in
    let tags : c.push_tag-then-ceiling-floor.new.cycle.items ≡ Given c.args.tag ∷ c.index-old.result.now.floor_why ∷ [] =
    c.push_tag-then-ceiling-floor.ensures.items
    ∙ ap (λ (why : Why). c.push_tag.new.cycle.items ++ why ∷ []) c.floor_why.ensures
    ∙ ap (λ (ws : List Why). ws ++ c.index-old.result.now.floor_why ∷ []) (c.push_tag.ensures.items ∙ ap (λ (ws : List Why). ws ++ Given c.args.tag ∷ []) c.clear.ensures.items) in
    rw tags (outcome.adds_ceiling_below_floor c.self.inside.bounds.items c.self.inside.picks.items c.self.inside.labels (vec_capacity c.self.inside.cycle) c.self.invariant c.args.self.now.demands (seen a)
    c.args.variable c.index-old.result.now c.args.ceiling c.args.tag (at_v a) (tighter (goal.at.returns-then-ceiling-floor-clause-adds c).Else-ceiling) (subst (λ (floor : ℕ). c.args.ceiling < floor) c.floor.ensures c.if-ceiling-floor.true))

pub tighten_ceiling-requires-clause-tighter : goal.tighten_ceiling-requires-clause-tighter
tighten_ceiling-requires-clause-tighter c bounds there =
    let at = goal.at.tighten_ceiling-requires-clause-tighter c in
    let same : c.index-old.result.now ≡ bounds = same_Some c.index-old.result.now bounds (sym (at_v at.After-index-old) ∙ there) in
    subst (λ (b : VariableBounds). (c.args.ceiling < b.ceiling) × (b.floor ≤ c.args.ceiling)) same
    (tighter at.Else-ceiling, subst (λ (floor : ℕ). floor ≤ c.args.ceiling) c.floor.ensures c.if-ceiling-floor.false)
