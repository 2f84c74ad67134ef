use Rattle.std.proofs.Common.{arith, ℕ, ◌+◌, List, [], ◌∷◌, map, drop, get_or, sym, ◌∙◌, subst}
use Rattle.std.specs.Borrow.{Bor}
use Rattle.std.proofs.lemmas.List.{drop_more, drop_all}
use Rattle.tfpg_graph.specs.Graph.{failure_word}
use Rattle.tfpg_report.specs.inside.ReadMembers.{position_named, IsPosition}
use Rattle.tfpg_report.proofs.lemmas.reading.RisingMembers.{failure_naming, IsReadTo, IsReadTo-unknown, IsReadTo-early, IsReadTo-turn, IsReadTo-end}
use Rattle.tfpg_report.proofs.reading.set_word.rising_positions.Goals as goal
use Rattle.tfpg_report.proofs.reading.set_word.rising_positions.Goals.{After-find_failure}

-- the names that are left, at one of them
left_at : (c : After-find_failure) (unnamed : Bor (List ℕ))
    → IsReadTo (failure_word c.args.graph.now) (IsPosition c.args.graph.now) (map (λ name. name.now) c.args.names.now) c.loop-name.set c.loop-name.least
    ((get_or c.args.names.now c.loop-name.name-index unnamed).now ∷ map (λ name. name.now) (drop (c.loop-name.name-index + 1) c.args.names.now))
left_at c unnamed =
    let more = drop_more c.args.names.now c.loop-name.name-index unnamed c.loop-name-test.true in
    subst (λ (left : List (Bor (List ℕ))). IsReadTo (failure_word c.args.graph.now) (IsPosition c.args.graph.now) (map (λ name. name.now) c.args.names.now) c.loop-name.set c.loop-name.least (map (λ name. name.now) left))
    more c.loop-name.invariant

pub returns-in_err-position-clause-none : goal.returns-in_err-position-clause-none
returns-in_err-position-clause-none c none =
    IsReadTo-unknown _ _ _ _ _ (position_named c.args.graph.now) (failure_naming c.args.graph.now c.find_failure.ensures.valid) _ _
    (left_at (goal.at.returns-in_err-position-clause-none c).After-find_failure _) (sym c.find_failure.ensures.position ∙ c.in_err-position.was)

pub returns-then-position-least-clause-none : goal.returns-then-position-least-clause-none
returns-then-position-least-clause-none c none =
    IsReadTo-early _ _ _ _ _ (position_named c.args.graph.now) (failure_naming c.args.graph.now c.find_failure.ensures.valid) _ _
    (left_at (goal.at.returns-then-position-least-clause-none c).After-find_failure _) c.in_ok-position.position (sym c.find_failure.ensures.position ∙ c.in_ok-position.was) c.if-position-least.true

pub loop-name-preserved : goal.loop-name-preserved
loop-name-preserved c =
    subst (λ (read : List ℕ). IsReadTo (failure_word c.args.graph.now) (IsPosition c.args.graph.now) (map (λ name. name.now) c.args.names.now) read (c.in_ok-position.position + 1) (map (λ name. name.now) (drop (c.loop-name.name-index + 1) c.args.names.now)))
    (sym c.with-set.ensures.list)
    (IsReadTo-turn _ _ _ _ _ (position_named c.args.graph.now) (failure_naming c.args.graph.now c.find_failure.ensures.valid) _ _
    (left_at (goal.at.loop-name-preserved c).After-find_failure _) c.in_ok-position.position (sym c.find_failure.ensures.position ∙ c.in_ok-position.was) c.if-position-least.false)

pub returns-clause-found : goal.returns-clause-found
returns-clause-found c =
    IsReadTo-end _ _ _ _ _
    (subst (λ (left : List (Bor (List ℕ))). IsReadTo (failure_word c.args.graph.now) (IsPosition c.args.graph.now) (map (λ name. name.now) c.args.names.now) c.loop-name.set c.loop-name.least (map (λ name. name.now) left))
    (drop_all c.loop-name.name-index c.args.names.now (omega arith)) c.loop-name.invariant)
