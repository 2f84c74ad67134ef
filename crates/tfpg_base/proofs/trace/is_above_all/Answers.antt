use Rattle.std.proofs.Common.{sym, ◌∙◌, ap}
use Rattle.std.proofs.lemmas.Bool.{ltb-true}
use Rattle.std.specs.Option.{option_copied}
use Rattle.tfpg_base.proofs.lemmas.Traces.{IsInsertedAt-after_last, IsInsertedAt-no_last}
use Rattle.tfpg_base.proofs.trace.is_above_all.Goals as goal

pub returns-in-Some : goal.returns-in-Some
returns-in-Some c = λ yes.
    IsInsertedAt-after_last c.args.items.now c.args.node c.in-Some.last.now c.requires
    (sym c.last.ensures.value ∙ ap option_copied c.in-Some.is) (ltb-true _ _ yes)

pub returns-in-None : goal.returns-in-None
returns-in-None c = λ yes.
    IsInsertedAt-no_last c.args.items.now c.args.node (sym c.last.ensures.value ∙ ap option_copied c.in-None.is)
