use Rattle.std.proofs.Common.{refl, ◌∙◌}
use Rattle.tfpg_json.proofs.lemmas.ListsRead.{data_in-none, data_in-utf8}
use Rattle.tfpg_json.proofs.reading.value_of.Goals as goal

pub returns-in-Ok : goal.returns-in-Ok
returns-in-Ok c = data_in-utf8 c.args.text.now c.in-Ok.ensures.ok.0 ∙ c.in-Ok.ensures.ok.1

pub returns-in-Err-2 : goal.returns-in-Err-2
returns-in-Err-2 c = (
  data_in-none c.args.text.now (c.in-Err.ensures.err (λ memory. let is = c.is_memory.ensures.1 memory in absurd (cc (c.if-is_memory.false)))),
  refl,
)
