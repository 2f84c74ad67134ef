use Rattle.std.proofs.Common.{length, sym, ◌∙◌}
use Rattle.std.proofs.lemmas.Bool.{ltb-false}
use Rattle.tfpg_base.specs.declared.limits.TheConstants.{LONGEST_LINE}
use Rattle.tfpg_report.proofs.lemmas.reading.ActivationsSaid.{activation_said}
use Rattle.tfpg_report.proofs.reading.read_activation.activation_in.Goals as goal

pub returns : goal.returns
returns c =
    activation_said c.args.graph.now c.args.line.now c.in_ok-name.name.now c.in_ok-name.digits.now c.in_ok-node.node c.in_ok-time.time
    (ltb-false LONGEST_LINE (length c.args.line.now) (sym c.is_too_long.ensures ∙ c.if-is_too_long.false))
    c.in_ok-name.ensures c.in_ok-node.ensures c.in_ok-time.ensures.number
