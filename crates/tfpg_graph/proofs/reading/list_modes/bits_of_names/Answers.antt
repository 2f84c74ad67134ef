use Rattle.std.proofs.Common.{rules, ℕ, ◌+◌, List, [], ◌∷◌, map, drop, get_or, sym, ◌∙◌, subst}
use Rattle.std.specs.Borrow.{Bor}
use Rattle.std.proofs.lemmas.Bool.{false≢true}
use Rattle.std.proofs.lemmas.List.{drop_more}
use Rattle.tfpg_graph.specs.inside.reading.EdgeNames.{NameNewModes}
use Rattle.tfpg_graph.proofs.lemmas.reading.causes.NewModes.{AreLeft, AreLeft-unknown, AreLeft-again, AreLeft-turn}
use Rattle.tfpg_graph.proofs.reading.list_modes.bits_of_names.Goals as goal
use Rattle.tfpg_graph.proofs.reading.list_modes.bits_of_names.Goals.{After-find_mode}

-- the names that are left at one of them
left_at : (c : After-find_mode) (unnamed : Bor (List ℕ))
    → AreLeft c.args.declared.now (map (λ name. name.now) c.args.names.now) c.loop-name.modes
    ((get_or c.args.names.now c.loop-name.name-index unnamed).now ∷ map (λ name. name.now) (drop (c.loop-name.name-index + 1) c.args.names.now))
left_at c unnamed =
    let more = drop_more c.args.names.now c.loop-name.name-index unnamed c.loop-name-test.true in
    subst (λ (left : List (Bor (List ℕ))). AreLeft c.args.declared.now (map (λ name. name.now) c.args.names.now) c.loop-name.modes (map (λ name. name.now) left))
    more c.loop-name.invariant

pub returns-in_err-mode-clause-refused : goal.returns-in_err-mode-clause-refused
returns-in_err-mode-clause-refused c =
    let wrong : NameNewModes c.args.declared.now [] (map (λ name. name.now) c.args.names.now) → ⊥ =
    AreLeft-unknown _ _ _ _ _ (left_at (goal.at.returns-in_err-mode-clause-refused c).After-find_mode _) (sym c.find_mode.ensures ∙ c.in_err-mode.was) in
    search rules

pub returns-then-has-clause-refused : goal.returns-then-has-clause-refused
returns-then-has-clause-refused c =
    AreLeft-again _ _ _ _ _ (left_at (goal.at.returns-then-has-clause-refused c).After-find_mode _) c.in_ok-mode.mode (sym c.find_mode.ensures ∙ c.in_ok-mode.was)
    (c.has.ensures.member.0 c.if-has.true)

pub loop-name-preserved : goal.loop-name-preserved
loop-name-preserved c =
    subst (λ (modes : List ℕ). AreLeft c.args.declared.now (map (λ name. name.now) c.args.names.now) modes (map (λ name. name.now) (drop (c.loop-name.name-index + 1) c.args.names.now)))
    (sym c.with-modes.ensures.list)
    (AreLeft-turn _ _ _ _ _ (left_at (goal.at.loop-name-preserved c).After-find_mode _) c.in_ok-mode.mode (sym c.find_mode.ensures ∙ c.in_ok-mode.was)
    (λ member. false≢true (sym c.if-has.false ∙ c.has.ensures.member.1 member)))
