-- A search in depth that is under way: how far it is at each node that it has come to and is not done with. No public
-- contract cites this.
use Rattle.std.specs.Prelude.{◌≡◌, ℕ, ◌+◌, ◌-◌, ◌*◌, ◌<◌, ◌≤◌, List, [], ◌∷◌, length, sum_by, Option, None, slice_index_or, Contains}
use Rattle.tfpg_graph.specs.declared.zero_cycle.find_groups.Frame.{Frame}
use Rattle.tfpg_graph.specs.inside.zero_cycle.ZeroSearch.{row, mark_of, IsMarked, unmarked_count, IsVisited, Searched, HasGrown, HasVisited}

-- A search from the node is done with this many of those to which one step leads from it.
pub record IsUnderway (rows : List (List ℕ)) (mark node passed : ℕ) (old new : Searched) : Type 0 where
  pub within : node < length rows
  pub upto : passed ≤ length (row rows node)
  pub count : length old.marks ≡ length rows
  pub unmarked : mark_of old.marks node ≡ None
  pub searched : IsVisited rows old.marks old.order
  pub grown : HasGrown rows node mark old new
  pub marked : IsMarked new.marks node
  pub followed : (index : ℕ) → index < passed → IsMarked new.marks (slice_index_or (row rows node) index 0)
  pub fewer : unmarked_count new.marks ≤ unmarked_count old.marks

-- A search from one of these nodes has come to the first frame, one from a node to which a step leads from there to the
-- second, and so on up to the last, from which it goes on.
abbrev pub AreUnderway : List (List ℕ) → ℕ → List ℕ → Searched → Searched → List Frame → Type 0
AreUnderway rows mark nodes old new [] = old ≡ new
AreUnderway rows mark nodes old new (frame ∷ above) =
    (middle : Searched) × Contains nodes frame.node × IsUnderway rows mark frame.node frame.passed old middle
    × AreUnderway rows mark (row rows frame.node) middle new above

-- A search from one of these nodes has these frames, and is done if there are none.
abbrev pub IsSearching : List (List ℕ) → ℕ → List ℕ → Searched → Searched → List Frame → Type 0
IsSearching rows mark nodes old new [] = (node : ℕ) × Contains nodes node × HasVisited rows node mark old new
IsSearching rows mark nodes old new (frame ∷ above) = AreUnderway rows mark nodes old new (frame ∷ above)

-- how many turns the frame takes at most, but for those of frames above it
abbrev pub turns_left : List (List ℕ) → Frame → ℕ
turns_left rows frame = length (row rows frame.node) + 1 - frame.passed

-- at most how many turns a search takes that has these marks and frames
abbrev pub all_turns_left : List (List ℕ) → List (Option ℕ) → List Frame → ℕ
all_turns_left rows marks frames = unmarked_count marks * (sum_by length rows + 2) + sum_by (turns_left rows) frames
