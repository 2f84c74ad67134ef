-- How many counted calls a round of a search makes at most. A counted call is one of `raise`, `lower` or `push` of the system.
use Rattle.std.specs.Prelude.{◌≡◌, ℕ, ◌+◌, ◌*◌, ◌≤◌, List, [], ◌∷◌, length, replicate, Some, slice_get, nat_eq, if◌then◌else◌}
use Rattle.tfpg_base.specs.declared.limits.TheConstants.{NEVER}
use Rattle.tfpg_clause.specs.Case.{Case, case_at}
use Rattle.tfpg_clause.specs.Facts.{IsLow, IsHigh}

-- A lower and an upper bound of the time of each node, in the order of the nodes.
pub record NodeBounds : Type 0 where
  pub lows : List ℕ
  pub highs : List ℕ

-- the bounds of so many nodes of which nothing is known: each is active at 0 at the earliest, and at NEVER at the latest
abbrev pub widest_bounds : ℕ → NodeBounds
widest_bounds nodes = record { lows = replicate nodes 0; highs = replicate nodes NEVER }

-- These are the bounds that the facts of the case give the nodes: the greatest lower bound and the least upper bound of each.
pub record AreFactBounds (case : Case) (bounds : NodeBounds) : Type 0 where
  pub low_each : length bounds.lows ≡ length case.graph.nodes
  pub high_each : length bounds.highs ≡ length case.graph.nodes
  pub low : (node time : ℕ) → slice_get bounds.lows node ≡ Some time → IsLow case node time
  pub high : (node time : ℕ) → slice_get bounds.highs node ≡ Some time → IsHigh case node time

-- These are the bounds of a search that has seen so many events, where the case is at their log: the widest where it has seen
-- none, and else those that the facts give.
pub record AreBoundsAt (case : Case) (seen : ℕ) (bounds : NodeBounds) : Type 0 where
  pub unseen : seen ≡ 0 → bounds ≡ widest_bounds (length case.graph.nodes)
  pub given : 1 ≤ seen → AreFactBounds case bounds

-- at how many indexes two lists differ
abbrev pub differing : List ℕ → List ℕ → ℕ
differing [] others = 0
differing (first ∷ rest) [] = 0
differing (first ∷ rest) (other ∷ others) = (if nat_eq first other then 0 else 1) + differing rest others

-- how many lower and upper bounds differ
abbrev pub changed_bounds : NodeBounds → NodeBounds → ℕ
changed_bounds one other = differing one.lows other.lows + differing one.highs other.highs

-- The limit for a call that appends so many steps, where the search saw so many events before: one counted call for each bound
-- that differs from the one before, and four for each step and once more. The calls are those of one system, which a search keeps
-- from round to round. If that were given again each bound that is as before, it would not keep within the limit.
pub record IsWorkLimit (case : Case) (seen steps limit : ℕ) : Type 0 where
  pub old : NodeBounds
  pub before : AreBoundsAt (case_at case seen) seen old
  pub new : NodeBounds
  pub now : AreFactBounds case new
  pub is : limit ≡ changed_bounds old new + 4 * (steps + 1)
