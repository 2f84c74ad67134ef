use Rattle.std.proofs.Common.{◌≡◌, List, [], ◌∷◌, ◌++◌, None, Some, set, sym, ap, ◌∙◌, subst, arith}
use Rattle.std.proofs.lemmas.List.{nil_from_length}
use Rattle.tfpg_graph.specs.declared.zero_cycle.find_groups.Frame.{Frame}
use Rattle.tfpg_graph.specs.inside.zero_cycle.ZeroSearch.{mark_of, search_of}
use Rattle.tfpg_graph.specs.inside.zero_cycle.SearchFrames.{IsSearching}
use Rattle.tfpg_graph.proofs.lemmas.zero_cycle.ZeroWalks.{marked_read, unmarked_read}
use Rattle.tfpg_graph.proofs.lemmas.zero_cycle.ZeroVisits.{HasVisited-already}
use Rattle.tfpg_graph.proofs.lemmas.zero_cycle.ZeroFrames.{IsSearching-begin, IsSearching-top, IsSearching-end}
use Rattle.tfpg_graph.proofs.zero_cycle.find_groups.visit.Goals as goal

pub returns-then-is_some : goal.returns-then-is_some
returns-then-is_some c =
    let marks = c.args.search.now.marks.items in
    HasVisited-already c.args.steps.now c.args.node c.args.mark marks c.args.search.now.order.items c.requires.searched
    (marked_read marks c.args.node c.index.result.now (omega arith) c.index.ensures
    (sym c.is_some.ensures ∙ c.if-is_some.true))

pub loop-top-init : goal.loop-top-init
loop-top-init c =
    let marks = c.args.search.now.marks.items in
    let none : mark_of marks c.args.node ≡ None =
    unmarked_read marks c.args.node c.index.result.now (omega arith) c.index.ensures
    (sym c.is_some.ensures ∙ c.if-is_some.false) in
    let first : Frame = record { node = c.args.node; passed = 0 } in
    let pushed : c.push.new.self.items ≡ first ∷ [] =
    c.in_ok-push.ensures.items ∙ ap (λ (frames : List Frame). frames ++ first ∷ []) c.new-frames.ensures.items in
    subst (IsSearching c.args.steps.now c.args.mark (c.args.node ∷ []) (search_of marks c.args.search.now.order.items)
    (search_of (set marks c.args.node (Some c.args.mark)) c.args.search.now.order.items))
    (sym pushed)
    (IsSearching-begin c.args.steps.now c.args.mark c.args.node marks c.args.search.now.order.items
    c.requires.node c.requires.count c.requires.searched none)

pub go_on-requires : goal.go_on-requires
go_on-requires c =
    let search = c.loop-top.search in
    let now = search_of search.marks.items search.order.items in
    IsSearching-top c.args.steps.now c.args.mark c.pop.new.self.items c.in-Some.top (c.args.node ∷ [])
    (search_of c.args.search.now.marks.items c.args.search.now.order.items) now
    (subst (IsSearching c.args.steps.now c.args.mark (c.args.node ∷ [])
    (search_of c.args.search.now.marks.items c.args.search.now.order.items) now)
    c.in-Some.ensures.items c.loop-top.invariant)

pub loop-top-preserved : goal.loop-top-preserved
loop-top-preserved c =
    let search = c.loop-top.search in
    let old = search_of c.args.search.now.marks.items c.args.search.now.order.items in
    c.in_ok-go_on.ensures.searching (c.args.node ∷ []) old
    (subst (IsSearching c.args.steps.now c.args.mark (c.args.node ∷ []) old (search_of search.marks.items search.order.items))
    c.in-Some.ensures.items c.loop-top.invariant)

pub returns : goal.returns
returns c =
    let search = c.loop-top.search in
    let old = search_of c.args.search.now.marks.items c.args.search.now.order.items in
    let now = search_of search.marks.items search.order.items in
    let empty : c.loop-top.frames.items ≡ [] = nil_from_length c.loop-top.frames.items (omega (arith, c.in_default.ensures.cases.0)) in
    IsSearching-end c.args.steps.now c.args.mark c.args.node old now
    (subst (IsSearching c.args.steps.now c.args.mark (c.args.node ∷ []) old now) empty c.loop-top.invariant)
