-- Bytes that say a line say no other, so none of them may come where that one may not.
use Rattle.std.proofs.Common.{ap, sym, ◌∙◌}
use Rattle.tfpg_report.specs.Stands.{stand_after}
use Rattle.tfpg_report.proofs.block_reader.next_line.Goals as goal

pub returns-in-None-clause-bad : goal.returns-in-None-clause-bad
returns-in-None-clause-bad c = λ at same. (
  cc,
  λ read says.
      ap (stand_after c.args.before) (c.a_report_line_says_one_thing.ensures c.args.graph.now read c.in-Ok.line c.args.line.now c.is_always_valid.ensures.valid says c.in-Ok.ensures.says)
      ∙ sym c.step_after.ensures ∙ c.in-None.is,
)
