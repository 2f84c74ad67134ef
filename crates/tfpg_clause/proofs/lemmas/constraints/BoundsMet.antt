-- What it means that numbers meet the constraints of which clauses and facts are made.
use Rattle.std.proofs.Common.{◌≡◌, ℕ, suc, ◌+◌, ◌<◌, ◌≤◌, List, get_or, ap, arith, pos}
use Rattle.std.specs.Prelude.{ℤ, ◌-ℤ◌, neg_ℤ}
use Rattle.std.proofs.lemmas.Int.{ints}
use Rattle.tfpg_base.specs.declared.constraint.Constraint.{Constraint}
use Rattle.tfpg_base.specs.Bounds.{at_most, at_least, at_most_after, at_least_after}
use Rattle.tfpg_base.specs.Constraint.{Meets, value_of}

-- two lower bounds that are the same are of one node, at one time
pub at_least-same : (u v a b : ℕ) → at_least u a ≡ at_least v b → (u ≡ v) × (a ≡ b)
at_least-same u v a b same =
    let right : u + 1 ≡ v + 1 = ap (λ (c : Constraint). c.right) same in
    let bound : neg_ℤ (pos a) ≡ neg_ℤ (pos b) = ap (λ (c : Constraint). c.most) same in
    (omega arith, omega (arith, ints))

-- and so are two upper bounds
pub at_most-same : (u v a b : ℕ) → at_most u (pos a) ≡ at_most v (pos b) → (u ≡ v) × (a ≡ b)
at_most-same u v a b same =
    let left : u + 1 ≡ v + 1 = ap (λ (c : Constraint). c.left) same in
    let bound : pos a ≡ pos b = ap (λ (c : Constraint). c.most) same in
    (omega arith, omega (arith, ints))

-- an upper bound is no lower bound
pub at_most-least : (u v b : ℕ) (bound : ℤ) → at_most u bound ≡ at_least v b → ⊥
at_most-least u v b bound same = omega (arith, ap (λ (c : Constraint). c.left) same)

module _ (numbers : List ℕ) where
  -- the value of a node
  value : (node : ℕ) → value_of numbers (node + 1) ≡ pos (get_or numbers node 0)
  value node = let next : node + 1 ≡ suc node = omega arith in ap (value_of numbers) next

  module _ (node : ℕ) (bound : ℕ) where
    -- The upper bound of a node is met where its number is at most so much,
    pub met_at_most : get_or numbers node 0 ≤ bound → Meets numbers (at_most node (pos bound))
    met_at_most upto = omega (arith, ints, value node, upto)

    -- and only there.
    pub says_at_most : Meets numbers (at_most node (pos bound)) → get_or numbers node 0 ≤ bound
    says_at_most met = omega (arith, ints, value node, met)

    -- The bound "before so much" is met where its number is below that,
    pub met_before : get_or numbers node 0 < bound → Meets numbers (at_most node (pos bound -ℤ pos 1))
    met_before below = omega (arith, ints, value node, below)

    -- and only there.
    pub says_before : Meets numbers (at_most node (pos bound -ℤ pos 1)) → get_or numbers node 0 < bound
    says_before met = omega (arith, ints, value node, met)

    -- The lower bound of a node is met where its number is at least so much,
    pub met_at_least : bound ≤ get_or numbers node 0 → Meets numbers (at_least node bound)
    met_at_least from = omega (arith, ints, value node, from)

    -- and only there.
    pub says_at_least : Meets numbers (at_least node bound) → bound ≤ get_or numbers node 0
    says_at_least met = omega (arith, ints, value node, met)

  module _ (node source bound : ℕ) where
    -- That a node is at most so much after its source is met where their numbers are so,
    pub met_at_most_after : get_or numbers node 0 ≤ get_or numbers source 0 + bound → Meets numbers (at_most_after node source bound)
    met_at_most_after upto = omega (arith, ints, value node, value source, upto)

    -- and only there.
    pub says_at_most_after : Meets numbers (at_most_after node source bound) → get_or numbers node 0 ≤ get_or numbers source 0 + bound
    says_at_most_after met = omega (arith, ints, value node, value source, met)

    -- That a node is at least so much after its source is met where their numbers are so,
    pub met_at_least_after : get_or numbers source 0 + bound ≤ get_or numbers node 0 → Meets numbers (at_least_after node source bound)
    met_at_least_after upto = omega (arith, ints, value node, value source, upto)

    -- and only there.
    pub says_at_least_after : Meets numbers (at_least_after node source bound) → get_or numbers source 0 + bound ≤ get_or numbers node 0
    says_at_least_after met = omega (arith, ints, value node, value source, met)
