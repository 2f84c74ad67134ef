use Rattle.std.proofs.Common.{◌≡◌, ℕ, ◌<◌, List, [], ◌∷◌, ◌++◌, None, length, get_or, set, Some, Contains, sym, ap, ◌∙◌, subst, arith}
use Rattle.std.proofs.lemmas.List.Elements.{Contains-get_or}
use Rattle.tfpg_graph.specs.declared.zero_cycle.find_groups.Frame.{Frame}
use Rattle.tfpg_graph.specs.inside.zero_cycle.ZeroSearch.{IsStep, mark_of, IsMarked, search_of}
use Rattle.tfpg_graph.specs.inside.zero_cycle.SearchFrames.{IsSearching, all_turns_left}
use Rattle.tfpg_graph.proofs.lemmas.zero_cycle.ZeroWalks.{marked_read, unmarked_read}
use Rattle.tfpg_graph.proofs.lemmas.zero_cycle.ZeroFrames.{IsSearching-done, IsSearching-passed, IsSearching-deeper, turns-deeper}
use Rattle.tfpg_graph.proofs.zero_cycle.find_groups.go_on.Goals as goal

pub returns-then-top-row-clause-searching : goal.returns-then-top-row-clause-searching
returns-then-top-row-clause-searching c nodes old was =
    let marks = c.args.search.now.marks.items in
    subst (λ (order : List ℕ). IsSearching c.args.steps.now c.args.mark nodes old (search_of marks order) c.args.frames.now.items)
    (sym {A = List ℕ} c.in_ok-push.ensures.items)
    (IsSearching-done c.args.steps.now c.args.mark c.args.frames.now.items c.args.top nodes old marks
    c.args.search.now.order.items was (omega (arith, c.if-top-row.true, ap length c.row-row.ensures.row)))

pub returns-then-is_some-clause-searching : goal.returns-then-is_some-clause-searching
returns-then-is_some-clause-searching c nodes old was =
    let marks = c.args.search.now.marks.items in
    let items = c.row-row.result.now in
    let next : ℕ = get_or items c.args.top.passed 0 in
    let lt : c.args.top.passed < length items =
    omega (arith, c.if-top-row.false, c.requires.1.upto, ap length c.row-row.ensures.row) in
    let marked : IsMarked marks next =
    marked_read marks next c.index.result.now (omega arith) c.index.ensures (sym c.is_some.ensures ∙ c.if-is_some.true) in
    subst (λ (frames : List Frame). IsSearching c.args.steps.now c.args.mark nodes old
    (search_of marks c.args.search.now.order.items) frames)
    (sym {A = List Frame} c.in_ok-push-2.ensures.items)
    (IsSearching-passed c.args.steps.now c.args.mark c.args.frames.now.items c.args.top nodes old marks
    c.args.search.now.order.items was (omega (arith, lt, ap length c.row-row.ensures.row))
    (subst (λ (row : List ℕ). IsMarked marks (get_or row c.args.top.passed 0)) c.row-row.ensures.row marked))

pub returns-clause-searching : goal.returns-clause-searching
returns-clause-searching c nodes old was =
    let steps = c.args.steps.now in
    let marks = c.args.search.now.marks.items in
    let items = c.row-row.result.now in
    let next : ℕ = get_or items c.args.top.passed 0 in
    let lt : c.args.top.passed < length items =
    omega (arith, c.if-top-row.false, c.requires.1.upto, ap length c.row-row.ensures.row) in
    let none : mark_of marks next ≡ None =
    unmarked_read marks next c.index.result.now (omega arith) c.index.ensures (sym c.is_some.ensures ∙ c.if-is_some.false) in
    let leads : IsStep steps c.args.top.node next =
    subst (λ (nodes : List ℕ). Contains nodes next) c.row-row.ensures.row (Contains-get_or items c.args.top.passed 0 lt) in
    let pushed = ap (λ (frames : List Frame). frames ++ record { node = next; passed = 0 } ∷ []) c.in_ok-push-3.ensures.items in
    subst (λ (frames : List Frame). IsSearching steps c.args.mark nodes old
    (search_of (set marks next (Some c.args.mark)) c.args.search.now.order.items) frames)
    (sym {A = List Frame} (c.in_ok-push-4.ensures.items ∙ pushed))
    (IsSearching-deeper steps c.args.mark c.args.frames.now.items c.args.top nodes old marks c.args.search.now.order.items was
    next leads (c.row-row.ensures.within c.args.top.passed 0 lt) none)

pub returns-clause-ends : goal.returns-clause-ends
returns-clause-ends c =
    let steps = c.args.steps.now in
    let marks = c.args.search.now.marks.items in
    let items = c.row-row.result.now in
    let next : ℕ = get_or items c.args.top.passed 0 in
    let lt : c.args.top.passed < length items =
    omega (arith, c.if-top-row.false, c.requires.1.upto, ap length c.row-row.ensures.row) in
    let within : next < length marks = omega arith in
    let none : mark_of marks next ≡ None =
    unmarked_read marks next c.index.result.now within c.index.ensures (sym c.is_some.ensures ∙ c.if-is_some.false) in
    let pushed = ap (λ (frames : List Frame). frames ++ record { node = next; passed = 0 } ∷ []) c.in_ok-push-3.ensures.items in
    subst (λ (frames : List Frame). all_turns_left steps (set marks next (Some c.args.mark)) frames
    < all_turns_left steps marks (c.args.frames.now.items ++ c.args.top ∷ []))
    (sym {A = List Frame} (c.in_ok-push-4.ensures.items ∙ pushed))
    (turns-deeper steps marks c.args.frames.now.items c.args.top c.requires.1.upto next c.args.mark
    (c.row-row.ensures.within c.args.top.passed 0 lt) within none)
