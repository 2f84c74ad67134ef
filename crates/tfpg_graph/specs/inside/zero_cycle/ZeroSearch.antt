-- A search along steps from node to node: the marks that it leaves, and the order in which it is done with nodes. No
-- public contract cites this.
use Rattle.std.specs.Prelude.{◌≡◌, ℕ, zero, suc, ◌<◌, ◌≤◌, ◌⊎◌, List, [], ◌∷◌, ◌++◌, length, set, Option, Some, None, is_none, slice_index, slice_index_or, count_by, Contains}

-- the nodes to which one step leads from a node
abbrev pub row : List (List ℕ) → ℕ → List ℕ
row rows node = slice_index_or rows node []

-- one step leads from the one node to the other
abbrev pub IsStep : List (List ℕ) → ℕ → ℕ → Type 0
IsStep rows from to = Contains (row rows from) to

-- the steps with one more
abbrev pub with_step : List (List ℕ) → ℕ → ℕ → List (List ℕ)
with_step rows from to = set rows from (row rows from ++ to ∷ [])

-- each step leads to a node
abbrev pub AreStepsWithin : List (List ℕ) → Type 0
AreStepsWithin rows = (from to : ℕ) → IsStep rows from to → to < length rows

-- the steps of the one list are those of the other, reversed
pub record AreReversed (rows reversed : List (List ℕ)) : Type 0 where
  pub count : length reversed ≡ length rows
  pub there : (from to : ℕ) → IsStep rows from to → IsStep reversed to from
  pub back : (from to : ℕ) → IsStep reversed from to → IsStep rows to from

-- the mark of a node, where it has one
abbrev pub mark_of : List (Option ℕ) → ℕ → Option ℕ
mark_of marks node = slice_index_or marks node None

-- The node has a mark.
abbrev pub IsMarked : List (Option ℕ) → ℕ → Type 0
IsMarked marks node = (mark : ℕ) × (mark_of marks node ≡ Some mark)

-- how many nodes have no mark
abbrev pub unmarked_count : List (Option ℕ) → ℕ
unmarked_count marks = count_by is_none marks

-- this many steps lead from the one node to the other, each to a node without a mark
abbrev pub WalksUnmarked : List (List ℕ) → List (Option ℕ) → ℕ → ℕ → ℕ → Type 0
WalksUnmarked rows marks from to zero = from ≡ to
WalksUnmarked rows marks from to (suc steps) =
    (next : ℕ) × IsStep rows from next × (mark_of marks next ≡ None) × WalksUnmarked rows marks next to steps

-- some steps lead from the one node to the other, each to a node without a mark
abbrev pub ReachesUnmarked : List (List ℕ) → List (Option ℕ) → ℕ → ℕ → Type 0
ReachesUnmarked rows marks from to = (steps : ℕ) × WalksUnmarked rows marks from to steps

-- From some index on, the nodes of the order up to this one are all reached from this one, and no step leads to them
-- from a node before.
pub record ClosesGroup (rows : List (List ℕ)) (order : List ℕ) (index : ℕ) : Type 0 where
  pub start : ℕ
  pub begins : start ≤ index
  pub reached : (other : ℕ) → start ≤ other → other ≤ index
      → ReachesUnmarked rows [] (slice_index order index) (slice_index order other)
  pub apart : (before other : ℕ) → before < start → start ≤ other → other ≤ index
      → IsStep rows (slice_index order before) (slice_index order other) → ⊥

-- The search is done with the nodes of the order, whose every step leads to a node with a mark.
pub record IsVisited (rows : List (List ℕ)) (marks : List (Option ℕ)) (order : List ℕ) : Type 0 where
  pub marked : (node : ℕ) → Contains order node → IsMarked marks node
  pub followed : (from to : ℕ) → Contains order from → IsStep rows from to → IsMarked marks to
  pub closed : (index : ℕ) → index < length order → ClosesGroup rows order index

-- What searches have found so far: the marks of the nodes, and the nodes with which they are done, in order.
pub record Searched : Type 0 where
  pub marks : List (Option ℕ)
  pub order : List ℕ

-- these marks and this order
abbrev pub search_of : List (Option ℕ) → List ℕ → Searched
search_of marks order = record { marks = marks; order = order }

-- A node got this mark in a search from a node that had none.
pub record IsFresh (rows : List (List ℕ)) (node mark : ℕ) (old_marks : List (Option ℕ)) (other given : ℕ) : Type 0 where
  pub same : given ≡ mark
  pub unmarked : mark_of old_marks node ≡ None
  pub walk : ReachesUnmarked rows old_marks node other

-- What a search from a node has done so far: old marks are kept, new ones are on nodes that it has reached, and with
-- these it is done, but for the node itself.
pub record HasGrown (rows : List (List ℕ)) (node mark : ℕ) (old new : Searched) : Type 0 where
  pub count : length new.marks ≡ length old.marks
  pub kept : (other given : ℕ) → mark_of old.marks other ≡ Some given → mark_of new.marks other ≡ Some given
  pub fresh : (other given : ℕ) → mark_of new.marks other ≡ Some given
      → (mark_of old.marks other ≡ Some given) ⊎ IsFresh rows node mark old.marks other given
  pub done : (other : ℕ) → IsMarked new.marks other → mark_of old.marks other ≡ None → (other ≡ node) ⊎ Contains new.order other
  pub more : List ℕ
  pub order_is : new.order ≡ old.order ++ more
  pub more_new : (other : ℕ) → Contains more other → mark_of old.marks other ≡ None
  pub searched : IsVisited rows new.marks new.order

-- What a whole search from a node has done.
pub record HasVisited (rows : List (List ℕ)) (node mark : ℕ) (old new : Searched) : Type 0 where
  pub grown : HasGrown rows node mark old new
  pub marked : IsMarked new.marks node
  pub finished : mark_of old.marks node ≡ None → Contains new.order node
  pub fewer : unmarked_count new.marks ≤ unmarked_count old.marks

-- Searches from all nodes before this one are done.
pub record HasSwept (rows : List (List ℕ)) (marks : List (Option ℕ)) (order : List ℕ) (end : ℕ) : Type 0 where
  pub count : length marks ≡ length rows
  pub marked : (node : ℕ) → node < end → IsMarked marks node
  pub finished : (node : ℕ) → IsMarked marks node → Contains order node
  pub searched : IsVisited rows marks order

-- The order in which searches from all nodes were done with them.
pub record IsFinishingOrder (rows : List (List ℕ)) (order : List ℕ) : Type 0 where
  pub complete : (node : ℕ) → node < length rows → Contains order node
  pub inside : (node : ℕ) → Contains order node → node < length rows
  pub closed : (index : ℕ) → index < length order → ClosesGroup rows order index

-- Nodes have been marked by searches from the nodes of the order from this index on, each with the index as its mark.
pub record IsGroupedFrom (rows reversed : List (List ℕ)) (order : List ℕ) (marks : List (Option ℕ)) (done : List ℕ)
    (index : ℕ) : Type 0 where
  pub count : length marks ≡ length rows
  pub later : (other : ℕ) → index ≤ other → other < length order → IsMarked marks (slice_index order other)
  pub high : (node mark : ℕ) → mark_of marks node ≡ Some mark → index ≤ mark
  pub there : (node mark : ℕ) → mark_of marks node ≡ Some mark → ReachesUnmarked rows [] (slice_index order mark) node
  pub back : (node mark : ℕ) → mark_of marks node ≡ Some mark → ReachesUnmarked reversed [] (slice_index order mark) node
  pub rises : (from to mark : ℕ) → mark_of marks from ≡ Some mark → IsStep rows from to
      → (above : ℕ) × (mark_of marks to ≡ Some above) × (mark ≤ above)
  pub finished : (node : ℕ) → IsMarked marks node → Contains done node
  pub searched : IsVisited rows marks done

-- Each node has a mark, by which no step goes down; nodes with one mark reach each other.
pub record AreGroups (rows : List (List ℕ)) (marks : List (Option ℕ)) : Type 0 where
  pub count : length marks ≡ length rows
  pub all : (node : ℕ) → node < length rows → IsMarked marks node
  pub rises : (from to mark : ℕ) → mark_of marks from ≡ Some mark → IsStep rows from to
      → (above : ℕ) × (mark_of marks to ≡ Some above) × (mark ≤ above)
  pub joined : (from to mark : ℕ) → mark_of marks from ≡ Some mark → mark_of marks to ≡ Some mark
      → ReachesUnmarked rows [] from to
