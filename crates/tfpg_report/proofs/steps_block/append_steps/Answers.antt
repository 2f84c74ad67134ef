use Rattle.std.proofs.Common.{subst, sym}
use Rattle.tfpg_base.specs.Append.{Appends}
use Rattle.tfpg_report.proofs.lemmas.WrittenLines.{texts_of_steps}
use Rattle.tfpg_report.proofs.steps_block.append_steps.Goals as goal

-- the lines of the steps have the steps' texts
pub returns : goal.returns
returns c =
    subst (Appends _ c.args.into.now.items _) (sym (texts_of_steps c.args.graph.now c.args.steps.now)) c.append_each_step.ensures
