use Rattle.tfpg_trace.specs.inside.RuleFaults.{KeepRulesBefore}
use Rattle.tfpg_trace.proofs.rules.broken_rule.Given as goal

abbrev pub invariant-loop-node : goal.invariant-loop-node
invariant-loop-node l = KeepRulesBefore l.graph l.log l.trace l.node
