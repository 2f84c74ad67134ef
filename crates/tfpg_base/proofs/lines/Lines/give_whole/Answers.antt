use Rattle.std.proofs.Common.{ap, ◌∙◌, arith}
use Rattle.tfpg_base.specs.Lines.{LinesState}
use Rattle.tfpg_base.specs.inside.LineSearch.{lent_of}
use Rattle.tfpg_base.proofs.lemmas.lists.Ranges.{slice_range-after, slice_range-before, end-above}
use Rattle.tfpg_base.proofs.lines.Lines.give_whole.Goals as goal

pub returns-clause-waiting : goal.returns-clause-waiting
returns-clause-waiting c =
    let a = c.self.inside in
    slice_range-after a.buffer.items a.waiting.start a.waiting.end c.args.self.now.waiting (ap (λ (b : LinesState). b.waiting) c.self.view_is) c.args.count c.requires

pub returns-clause-text : goal.returns-clause-text
returns-clause-text c =
    let a = c.self.inside in
    let is = ap (λ (b : LinesState). b.waiting) c.self.view_is in
    let within = end-above a.buffer.items a.waiting.start a.waiting.end c.args.self.now.waiting is c.args.count c.requires in
    c.lent-self-inside.ensures.text a.buffer.items (omega (arith, a.buffer.ok.0))
    ∙ ap lent_of (slice_range-before a.buffer.items a.waiting.start a.waiting.end c.args.self.now.waiting is c.args.count c.requires)
