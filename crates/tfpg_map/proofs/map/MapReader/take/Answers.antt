use Rattle.std.proofs.Common.{◌∙◌}
use Rattle.std.proofs.lemmas.Result.{on_ok_weaker}
use Rattle.tfpg_map.proofs.lemmas.Lines.{HasRead-more, HasRead-fault}
use Rattle.tfpg_map.proofs.map.MapReader.take.Goals as goal

pub returns-in-Some-clause-taken : goal.returns-in-Some-clause-taken
returns-in-Some-clause-taken c lines read short =
    on_ok_weaker c.take_activation.result (λ takes.
    rw (c.take_activation.ensures.hypothesis ∙ c.in-Some.is) (HasRead-more c.args.graph.now c.in-Some.field-0 c.args.self.now.hypothesis c.args.self.now.trace c.take_activation.new.self.trace lines c.args.line.now c.in-Some.is read takes short))
    c.take_activation.ensures.taken

pub returns-in-Some-clause-bad : goal.returns-in-Some-clause-bad
returns-in-Some-clause-bad c lines read bad =
    HasRead-fault c.args.graph.now c.is_always_valid.ensures.valid c.in-Some.field-0 c.args.self.now.hypothesis c.args.self.now.trace lines c.args.line.now c.in-Some.is read (c.take_activation.ensures.bad bad)
