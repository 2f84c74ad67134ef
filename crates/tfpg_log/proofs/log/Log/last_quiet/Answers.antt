use Rattle.std.proofs.Common.{sym, subst, ◌∙◌}
use Rattle.tfpg_log.specs.Quiet.{IsLastQuiet}
use Rattle.tfpg_log.proofs.lemmas.events.LastQuiets.{none_quiet, last_says, last_says_nothing}
use Rattle.tfpg_log.proofs.log.Log.last_quiet.Goals as goal

pub returns-in_err-number : goal.returns-in_err-number
returns-in_err-number c =
    subst (IsLastQuiet c.args.graph.now c.args.self.now c.args.node) (sym c.from_residual.ensures)
    (none_quiet c.args.graph.now c.args.self.now c.args.node c.in_err-number.ensures)

pub returns-in-Some : goal.returns-in-Some
returns-in-Some c =
    last_says c.args.graph.now c.args.self.now c.args.node c.in_ok-number.number c.in_ok-number.ensures
    c.in-Some.field-0 (sym c.quiet_at.ensures ∙ c.in-Some.is)

pub returns-in-None : goal.returns-in-None
returns-in-None c =
    last_says_nothing c.args.graph.now c.args.self.now c.args.node c.in_ok-number.number c.in_ok-number.ensures
    c.is_always_ordered.ensures (sym c.quiet_at.ensures ∙ c.in-None.is)
