use Rattle.std.proofs.Common.{arith, ℕ, ◌+◌, List, [], ◌∷◌, map, drop, get_or, sym, ◌∙◌, subst}
use Rattle.std.specs.Borrow.{Bor}
use Rattle.std.proofs.lemmas.List.{drop_more, drop_all}
use Rattle.tfpg_graph.specs.Members.{doubt_word}
use Rattle.tfpg_report.specs.inside.ReadMembers.{doubt_named, IsMonitor}
use Rattle.tfpg_report.proofs.lemmas.reading.RisingMembers.{doubt_naming, IsReadTo, IsReadTo-unknown, IsReadTo-early, IsReadTo-turn, IsReadTo-end}
use Rattle.tfpg_report.proofs.reading.set_word.rising_doubts.Goals as goal
use Rattle.tfpg_report.proofs.reading.set_word.rising_doubts.Goals.{After-find_doubt}

-- the words that are left, at one of them
left_at : (c : After-find_doubt) (unnamed : Bor (List ℕ))
    → IsReadTo (doubt_word c.args.graph.now) (IsMonitor c.args.graph.now) (map (λ word. word.now) c.args.words.now) c.loop-word.doubts c.loop-word.least
    ((get_or c.args.words.now c.loop-word.word-index unnamed).now ∷ map (λ word. word.now) (drop (c.loop-word.word-index + 1) c.args.words.now))
left_at c unnamed =
    let more = drop_more c.args.words.now c.loop-word.word-index unnamed c.loop-word-test.true in
    subst (λ (left : List (Bor (List ℕ))). IsReadTo (doubt_word c.args.graph.now) (IsMonitor c.args.graph.now) (map (λ word. word.now) c.args.words.now) c.loop-word.doubts c.loop-word.least (map (λ word. word.now) left))
    more c.loop-word.invariant

pub returns-in_err-node-clause-none : goal.returns-in_err-node-clause-none
returns-in_err-node-clause-none c none =
    IsReadTo-unknown _ _ _ _ _ (doubt_named c.args.graph.now) (doubt_naming c.args.graph.now c.find_doubt.ensures.valid) _ _
    (left_at (goal.at.returns-in_err-node-clause-none c).After-find_doubt _) (sym c.find_doubt.ensures.node ∙ c.in_err-node.was)

pub returns-then-node-least-clause-none : goal.returns-then-node-least-clause-none
returns-then-node-least-clause-none c none =
    IsReadTo-early _ _ _ _ _ (doubt_named c.args.graph.now) (doubt_naming c.args.graph.now c.find_doubt.ensures.valid) _ _
    (left_at (goal.at.returns-then-node-least-clause-none c).After-find_doubt _) c.in_ok-node.node (sym c.find_doubt.ensures.node ∙ c.in_ok-node.was) c.if-node-least.true

pub loop-word-preserved : goal.loop-word-preserved
loop-word-preserved c =
    subst (λ (read : List ℕ). IsReadTo (doubt_word c.args.graph.now) (IsMonitor c.args.graph.now) (map (λ word. word.now) c.args.words.now) read (c.in_ok-node.node + 1) (map (λ word. word.now) (drop (c.loop-word.word-index + 1) c.args.words.now)))
    (sym c.with-doubts.ensures.list)
    (IsReadTo-turn _ _ _ _ _ (doubt_named c.args.graph.now) (doubt_naming c.args.graph.now c.find_doubt.ensures.valid) _ _
    (left_at (goal.at.loop-word-preserved c).After-find_doubt _) c.in_ok-node.node (sym c.find_doubt.ensures.node ∙ c.in_ok-node.was) c.if-node-least.false)

pub returns-clause-found : goal.returns-clause-found
returns-clause-found c =
    IsReadTo-end _ _ _ _ _
    (subst (λ (left : List (Bor (List ℕ))). IsReadTo (doubt_word c.args.graph.now) (IsMonitor c.args.graph.now) (map (λ word. word.now) c.args.words.now) c.loop-word.doubts c.loop-word.least (map (λ word. word.now) left))
    (drop_all c.loop-word.word-index c.args.words.now (omega arith)) c.loop-word.invariant)
