-- A pick that was broken makes the sum fall, and one that was met stays met while no value changes.
use Rattle.std.proofs.Common.{arith, inl, inr, ◌∙◌}
use Rattle.tfpg_diff.proofs.lemmas.Undoing.{Remembers-more}
use Rattle.tfpg_diff.proofs.lemmas.Passing.{Passes-more}
use Rattle.tfpg_diff.proofs.passes.pass.Goals as goal
use Rattle.tfpg_diff.proofs.passes.pass.Goals.{then-branch, else-branch}

pub loop-index-preserved : goal.loop-index-preserved
loop-index-preserved c = record {
  kept = c.relax.ensures.kept;
  passes = Passes-more c.args.picks.now c.loop-index.index c.args.labels.now.values.items c.loop-index.labels.values.items c.relax.new.labels.values.items
      c.loop-index.last c.in_ok-relax.field-0 c.if-branch.last c.loop-index.invariant.passes c.in_ok-relax.ensures.relaxes
      (elim c.if-branch.branch [ then-branch w ↦ inl (w.if-branch.true, w.last-is) | else-branch w ↦ inr (w.if-branch.false, w.last-is) ]);
  remembers = Remembers-more c.args.before c.args.labels.now c.loop-index.labels c.relax.new.labels c.loop-index.invariant.remembers c.relax.ensures.remembers;
  no_cycle = c.in_ok-relax.ensures.no_cycle ∙ c.loop-index.invariant.no_cycle;
  capacity = omega arith;
}
