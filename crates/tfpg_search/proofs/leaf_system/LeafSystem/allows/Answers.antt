-- Node by node, each time lies between its bounds.
use Rattle.std.proofs.Common.{◌≡◌, get_or, refl, sym, subst, ◌∙◌, below_more, arith}
use Rattle.std.proofs.lemmas.List.Elements.{All-nil}
use Rattle.std.proofs.lemmas.Option.{same_Some, slice_get_within}
use Rattle.tfpg_base.specs.Constraint.{Meets}
use Rattle.tfpg_diff.specs.declared.pick.Pick.{Pick}
use Rattle.tfpg_diff.specs.VariableBounds.{VariableBounds}
use Rattle.tfpg_diff.specs.Solution.{IsBetween}
use Rattle.tfpg_search.proofs.leaf_system.LeafSystem.allows.Goals as goal

pub returns-then-times-node_count : goal.returns-then-times-node_count
returns-then-times-node_count c = (λ yes. absurd cc, λ solution. absurd (let each = solution.complete in omega arith))

pub returns-then-not-is_between : goal.returns-then-not-is_between
returns-then-not-is_between c = (λ yes. absurd cc, λ solution. absurd (let within = c.is_between.ensures.1 (solution.between c.loop-node.node c.bounds.result c.bounds.ensures) in cc))

pub loop-node-preserved : goal.loop-node-preserved
loop-node-preserved c =
    below_more _ _ c.loop-node.invariant
    (λ bounds there.
    let same : c.bounds.result ≡ bounds = same_Some c.bounds.result bounds (sym c.bounds.ensures ∙ there) in
    subst (λ (b : VariableBounds). IsBetween b (get_or c.args.times.now c.loop-node.node 0)) same (c.is_between.ensures.0 c.if-not-is_between.false))

pub returns : goal.returns
returns c = (
  λ yes. record {
    complete = omega arith;
    between = λ variable bounds there. c.loop-node.invariant variable (let short = slice_get_within c.args.self.now.demands.bounds variable bounds there in omega arith) bounds there;
    met = All-nil (λ (pick : Pick). Meets c.args.times.now pick.constraint);
  },
  λ solution. refl,
)
