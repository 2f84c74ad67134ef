use Rattle.std.proofs.Common.{◌≡◌, ◌≤◌, None, ap, ◌∙◌, sym, subst, arith}
use Rattle.tfpg_base.specs.Lines.{LinesState, HasNoLineEnd}
use Rattle.tfpg_base.specs.declared.limits.TheConstants.{MAX_BYTES}
use Rattle.tfpg_base.proofs.lemmas.Histories.{Continues-searched}
use Rattle.tfpg_base.proofs.lemmas.Searches.{Continues-at_once}
use Rattle.tfpg_base.proofs.lines.Lines.next.Goals as goal

pub returns-in-Some-line_end : goal.returns-in-Some-line_end
returns-in-Some-line_end g c =
    let unended : c.args.self.now.ended ≡ None = sym (ap (λ (b : LinesState). b.ended) c.self.view_is) ∙ c.in_default.is in
    let few : c.args.self.now.taken ≤ MAX_BYTES = omega (arith, c.self.invariant.few c.in_default.is, ap (λ (b : LinesState). b.taken) c.self.view_is) in
    let given = c.give_whole.ensures in
    Continues-at_once c.args.self.now c.give_whole.new.self (g.S.Source.state c.args.source.now) c.give_whole.result
    c.waiting.result.now c.in-Some-line_end.count c.waiting.ensures c.in-Some-line_end.ensures.some unended few
    given.kind given.waiting given.text given.number given.taken given.ended

pub returns-in-None : goal.returns-in-None
returns-in-None g c =
    let state = g.S.Source.state in
    let unended : c.args.self.now.ended ≡ None = sym (ap (λ (b : LinesState). b.ended) c.self.view_is) ∙ c.in_default.is in
    Continues-searched c.args.self.now c.read_line.new.self (state c.args.source.now) (state c.read_line.new.source) c.read_line.result c.read_line.ensures.counted
    unended (subst HasNoLineEnd c.waiting.ensures c.in-None.ensures.none) c.read_line.ensures.searched
