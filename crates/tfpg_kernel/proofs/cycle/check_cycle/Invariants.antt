use Rattle.std.proofs.Common.{◌≡◌, ◌*◌, ◌^◌, take, List, map, Some}
use Rattle.tfpg_base.specs.Choice.{each_of}
use Rattle.tfpg_base.specs.declared.constraint.Constraint.{Constraint}
use Rattle.tfpg_clause.specs.Case.{case_of}
use Rattle.tfpg_clause.specs.Trees.{stated}
use Rattle.tfpg_clause.specs.Paths.{chosen_on}
use Rattle.tfpg_kernel.specs.inside.Chains.{HasMagnitudeUpTo, chain_of}
use Rattle.tfpg_kernel.proofs.cycle.check_cycle.Given as goal

abbrev pub invariant-loop-reason : goal.invariant-loop-reason
invariant-loop-reason l = record {
  constraints : List Constraint;
  hold : each_of (map (stated (case_of l.graph l.log l.reach) (chosen_on l.path)) (take l.reason-index l.reasons)) ≡ Some constraints;
  chain : l.chain ≡ chain_of constraints;
  small : HasMagnitudeUpTo (l.reason-index * 2 ^ 63) l.chain.sum;
}
