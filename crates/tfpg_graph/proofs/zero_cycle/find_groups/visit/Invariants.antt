-- The search from the node has these frames.
use Rattle.std.proofs.Common.{[], ◌∷◌}
use Rattle.tfpg_graph.specs.inside.zero_cycle.ZeroSearch.{search_of}
use Rattle.tfpg_graph.specs.inside.zero_cycle.SearchFrames.{IsSearching, all_turns_left}
use Rattle.tfpg_graph.proofs.zero_cycle.find_groups.visit.Given as goal

abbrev pub invariant-loop-top : goal.invariant-loop-top
invariant-loop-top l = IsSearching l.steps l.mark (l.node ∷ []) (search_of l.fn.search.marks.items l.fn.search.order.items)
    (search_of l.search.marks.items l.search.order.items) l.frames.items

abbrev pub decreases-loop-top : goal.decreases-loop-top
decreases-loop-top l = all_turns_left l.steps l.search.marks.items l.frames.items
