-- The variables so far have their upper bounds.
use Rattle.std.proofs.Common.{◌≡◌}
use Rattle.tfpg_diff.specs.inside.Kept.{AreAtCeilings}
use Rattle.tfpg_diff.proofs.passes.start.Given as goal

abbrev pub invariant-loop-variable : goal.invariant-loop-variable
invariant-loop-variable l = record {
  ceilings : AreAtCeilings l.bounds l.labels.values.items l.labels.links.items l.variable;
  trail : l.labels.trail ≡ l.initial.labels.trail;
}
