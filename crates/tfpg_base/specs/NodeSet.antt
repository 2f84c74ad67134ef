-- Sets of nodes, as the rising lists of their numbers.
use Rattle.std.specs.Prelude.{◌<◌, ℕ, List, All}
use Rattle.tfpg_base.specs.Set.{Rises}
use Rattle.tfpg_base.specs.declared.limits.TheConstants.{MAX_NODE_NUMBERS}

-- The nodes rise strictly, so each stands once, and each is the number of a node that a graph can have.
pub record IsNodeSet (nodes : List ℕ) : Type 0 where
  pub rising : Rises nodes
  pub small : All (λ node. node < MAX_NODE_NUMBERS) nodes
