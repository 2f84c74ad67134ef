use Rattle.std.proofs.Common.{false}
use Rattle.tfpg_words.specs.inside.Parts.{rows_in}
use Rattle.tfpg_words.proofs.lemmas.Once.{once_then, once_else}
use Rattle.tfpg_words.proofs.parts.Parts.are_once.Goals as goal

pub returns-then-options_are_once : goal.returns-then-options_are_once
returns-then-options_are_once c =
    once_then c.args.form.now (rows_in c.args.self.now) c.options_are_once.result c.flags_are_once.result
    c.options_are_once.ensures c.if-options_are_once.true c.flags_are_once.ensures

pub returns-else-options_are_once : goal.returns-else-options_are_once
returns-else-options_are_once c =
    once_else c.args.form.now (rows_in c.args.self.now) c.options_are_once.result false c.options_are_once.ensures c.if-options_are_once.false
