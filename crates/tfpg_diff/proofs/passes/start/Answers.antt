-- One more variable at its upper bound.
use Rattle.std.proofs.Common.{◌∙◌, ap}
use Rattle.std.proofs.lemmas.List.{get_or_default}
use Rattle.tfpg_diff.specs.inside.Linked.{no_bounds}
use Rattle.tfpg_diff.specs.VariableBounds.{VariableBounds}
use Rattle.tfpg_diff.proofs.lemmas.Bounding.{AreAtCeilings-more}
use Rattle.tfpg_diff.proofs.passes.start.Goals as goal

pub loop-variable-preserved : goal.loop-variable-preserved
loop-variable-preserved c = record {
  ceilings = rw (c.ceiling.ensures ∙ ap (λ (limits : VariableBounds). limits.ceiling) (c.index-bounds-variable.is ∙ get_or_default c.args.bounds.now c.loop-variable.variable c.index-bounds-variable.result no_bounds c.loop-variable-test.true)) (AreAtCeilings-more c.args.bounds.now c.loop-variable.labels.values.items c.loop-variable.labels.links.items c.loop-variable.variable
      c.loop-variable-test.true c.loop-variable.invariant.ceilings);
  trail = c.loop-variable.invariant.trail;
}
