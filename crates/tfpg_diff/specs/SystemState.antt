-- What contracts see of a system, and what its calls change.
use Rattle.std.specs.Prelude.{◌≡◌, Result, Ok, Err, ℕ, zero, suc, ◌+◌, List, [], ◌∷◌, ◌++◌, take, nat_lt, if◌then◌else◌}
use Rattle.tfpg_base.specs.declared.limits.TheConstants.{NEVER}
use Rattle.tfpg_base.specs.declared.constraint.Constraint.{Constraint}
use Rattle.tfpg_diff.specs.declared.why.Why.{Why}
use Rattle.tfpg_diff.specs.declared.why.Why.TheVariants.{Floor, Ceiling, Given}
use Rattle.tfpg_diff.specs.declared.why.Conflict.{Conflict}
use Rattle.tfpg_diff.specs.VariableBounds.{VariableBounds}
use Rattle.tfpg_diff.specs.declared.pick.Pick.{Pick}
use Rattle.tfpg_diff.specs.Demands.{Demands, demands_of}
use Rattle.tfpg_diff.specs.Solution.{HasSolution, HasNoSolution}
use Rattle.tfpg_diff.specs.Cycle.{NamesNegativeCycle}

-- What a system demands, for how many more picks it has room, the tags that it lends after a conflict, how many calls of `raise`,
-- `lower` and `push` it has counted, by whatever counter they were counted besides, and which system it is. Its calls keep that, and
-- of a new system or a copy nothing says that it is one that was there.
pub record SystemState : Type 0 where
  pub demands : Demands
  pub spare : ℕ
  pub cycle : List Why
  pub calls : ℕ
  pub identity : ℕ

-- the bounds of a variable of which nothing is known
abbrev pub widest : ℕ → VariableBounds
widest variable =
    record { floor = 0; floor_why = Floor variable; ceiling = NEVER; ceiling_why = Ceiling variable }

-- so many variables, from this one on, of which nothing is known
abbrev pub unbounded_from : ℕ → ℕ → List VariableBounds
unbounded_from first zero = []
unbounded_from first (suc count) = widest first ∷ unbounded_from (first + 1) count

-- the bounds with this lower bound, where it is tighter
abbrev pub raised : ℕ → ℕ → VariableBounds → VariableBounds
raised least tag bounds =
    if nat_lt bounds.floor least then record bounds { floor = least; floor_why = Given tag } else bounds

-- the bounds with this upper bound, where it is tighter
abbrev pub lowered : ℕ → ℕ → VariableBounds → VariableBounds
lowered ceiling tag bounds =
    if nat_lt ceiling bounds.ceiling then record bounds { ceiling = ceiling; ceiling_why = Given tag } else bounds

-- the list with a change of one item
abbrev pub changed_at : (VariableBounds → VariableBounds) → List VariableBounds → ℕ → List VariableBounds
changed_at change [] index = []
changed_at change (first ∷ others) zero = change first ∷ others
changed_at change (first ∷ others) (suc index) = first ∷ changed_at change others index

-- the demands with a lower bound of a variable
abbrev pub with_floor : Demands → ℕ → ℕ → ℕ → Demands
with_floor demands variable least tag =
    demands_of (changed_at (raised least tag) demands.bounds variable) demands.picks

-- the demands with an upper bound of a variable
abbrev pub with_ceiling : Demands → ℕ → ℕ → ℕ → Demands
with_ceiling demands variable ceiling tag =
    demands_of (changed_at (lowered ceiling tag) demands.bounds variable) demands.picks

-- the demands with one more pick
abbrev pub with_pick : Demands → Constraint → ℕ → Demands
with_pick demands constraint tag =
    let pick : Pick = record { constraint = constraint; tag = tag } in
    demands_of demands.bounds (demands.picks ++ pick ∷ [])

-- the demands without the picks after so many
abbrev pub popped_to : Demands → ℕ → Demands
popped_to demands len = demands_of demands.bounds (take len demands.picks)

-- What adding to a system returns. Ok: the system demands all of it, and that has a solution. Conflict: all of it together
-- has no solution; what the system demands is unchanged, and it lends the tags of a negative cycle among all of it.
abbrev pub Adds : SystemState → Demands → Result (Unit {0}) Conflict → SystemState → Type 0
Adds old lengthened (Ok done) new = (new.demands ≡ lengthened) × HasSolution lengthened
Adds old lengthened (Err conflict) new =
    (new.demands ≡ old.demands) × HasNoSolution lengthened × NamesNegativeCycle lengthened new.cycle

-- For how many picks there is room after a push. Ok: for one less. Conflict: for as many as before.
abbrev pub LeavesRoom : ℕ → Result (Unit {0}) Conflict → ℕ → Type 0
LeavesRoom old (Ok done) new = old ≡ new + 1
LeavesRoom old (Err conflict) new = new ≡ old
