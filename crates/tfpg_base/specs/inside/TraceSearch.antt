-- Where the search for a node of a trace ends.
use Rattle.std.specs.Prelude.{◌≡◌, ℕ, ◌<◌, ◌≤◌, List, length}
use Rattle.std.specs.List.{AllWithin, HoldsAt}
use Rattle.tfpg_base.specs.declared.activation.Activation.{Activation}

-- the nodes before this index are lesser
abbrev pub AreLesserBefore : List Activation → ℕ → ℕ → Type 0
AreLesserBefore trace node index = AllWithin (λ earlier. earlier.node < node) trace 0 index

-- The node stands at this index.
pub record StandsAt (trace : List Activation) (node index : ℕ) : Type 0 where
  pub in_range : index < length trace
  pub before : AreLesserBefore trace node index
  pub here : HoldsAt (λ activation. activation.node ≡ node) trace index

-- The node stands nowhere, and would be inserted at this index.
pub record IsInsertedAt (trace : List Activation) (node index : ℕ) : Type 0 where
  pub in_range : index ≤ length trace
  pub before : AreLesserBefore trace node index
  pub after : AllWithin (λ later. node < later.node) trace index (length trace)
