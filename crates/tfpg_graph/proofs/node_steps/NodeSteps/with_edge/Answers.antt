use Rattle.std.proofs.Common.{◌≡◌, ℕ, List, Bool, true, false, IfOk, sym, subst, arith}
use Rattle.std.proofs.lemmas.Result.{IfOk-weaker}
use Rattle.tfpg_graph.specs.inside.zero_cycle.ZeroSearch.{with_step}
use Rattle.tfpg_graph.specs.inside.zero_cycle.ZeroEdges.{AddsZeroStep}
use Rattle.tfpg_graph.proofs.lemmas.zero_cycle.ZeroEdgeSteps.{AddsZeroStep-passed, AddsZeroStep-along}
use Rattle.tfpg_graph.proofs.node_steps.NodeSteps.with_edge.Goals as goal

pub returns-then-edge-gt0 : goal.returns-then-edge-gt0
returns-then-edge-gt0 c = AddsZeroStep-passed c.args.reversed c.args.edge c.args.self c.if-edge-gt0.true

pub returns-then-reversed : goal.returns-then-reversed
returns-then-reversed c =
    let edge = c.args.edge in
    let rows : List (List ℕ) = c.args.self in
    let no_time : edge.tmin ≡ 0 = omega arith in
    subst (λ (reversed : Bool). IfOk c.with_step.result (AddsZeroStep reversed edge rows)) (sym c.if-reversed.true)
    (IfOk-weaker c.with_step.result (λ more. more ≡ with_step rows edge.target edge.source)
    (λ more. AddsZeroStep true edge rows more)
    (λ more is. subst (λ (seen : List (List ℕ)). AddsZeroStep true edge rows seen) (sym is)
    (AddsZeroStep-along true edge rows no_time c.requires.target))
    c.with_step.ensures)

pub returns-else-reversed : goal.returns-else-reversed
returns-else-reversed c =
    let edge = c.args.edge in
    let rows : List (List ℕ) = c.args.self in
    let no_time : edge.tmin ≡ 0 = omega arith in
    subst (λ (reversed : Bool). IfOk c.with_step-else-reversed.result (AddsZeroStep reversed edge rows))
    (sym c.if-reversed.false)
    (IfOk-weaker c.with_step-else-reversed.result (λ more. more ≡ with_step rows edge.source edge.target)
    (λ more. AddsZeroStep false edge rows more)
    (λ more is. subst (λ (seen : List (List ℕ)). AddsZeroStep false edge rows seen) (sym is)
    (AddsZeroStep-along false edge rows no_time c.requires.source))
    c.with_step-else-reversed.ensures)
