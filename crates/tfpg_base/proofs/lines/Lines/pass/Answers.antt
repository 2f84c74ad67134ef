use Rattle.std.proofs.Common.{ap}
use Rattle.tfpg_base.specs.Lines.{LinesState}
use Rattle.tfpg_base.proofs.lemmas.lists.Ranges.{slice_range-after}
use Rattle.tfpg_base.proofs.lines.Lines.pass.Goals as goal

pub returns-clause-waiting : goal.returns-clause-waiting
returns-clause-waiting c =
    let a = c.self.inside in
    slice_range-after a.buffer.items a.waiting.start a.waiting.end c.args.self.now.waiting (ap (λ (b : LinesState). b.waiting) c.self.view_is) c.args.count c.requires
