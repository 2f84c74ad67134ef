use Rattle.std.proofs.Common.{arith}
use Rattle.tfpg_base.proofs.lemmas.Appended.{Appends-err_after}
use Rattle.tfpg_base.proofs.lemmas.lists.Appended.{appended_next, appended_all}
use Rattle.tfpg_graph.specs.inside.writing.Written.{mode_text}
use Rattle.tfpg_graph.proofs.writing.append_modes.Goals as goal

pub returns-in_err-append_line : goal.returns-in_err-append_line
returns-in_err-append_line c = Appends-err_after _ _ _ _ _ _ c.from_residual.ensures.0 c.loop-mode.invariant c.in_err-append_line.ensures

pub loop-mode-preserved : goal.loop-mode-preserved
loop-mode-preserved c = appended_next mode_text c.args.graph.now.modes c.loop-mode.mode _ _ _ _ c.mode_name.ensures c.loop-mode.invariant c.in_ok-append_line.ensures

pub returns : goal.returns
returns c = appended_all mode_text c.args.graph.now.modes c.loop-mode.mode _ _ (omega arith) c.loop-mode.invariant
