use Rattle.std.proofs.Common.{◌≡◌, ℕ, ◌+◌, List, ◌∷◌, ◌++◌, length, Result, Err, ap, ◌∙◌, sym, subst, arith, drop, take}
use Rattle.std.proofs.lemmas.Result.{err_from_is_err_and}
use Rattle.tfpg_base.specs.declared.line.Line.{Line}
use Rattle.tfpg_base.specs.declared.line.LineFault.{LineFault}
use Rattle.tfpg_base.specs.Lines.{HasNoLineEnd, CountsReadFault}
use Rattle.tfpg_base.specs.inside.LineSearch.{Searched}
use Rattle.tfpg_base.proofs.lemmas.Searches.{SoFar-more, Searched-long, Searched-long_last, Searched-fault}
use Rattle.tfpg_base.proofs.lemmas.Taking.{CountsReadFault-later}
use Rattle.tfpg_base.proofs.lines.Lines.skip_line.Goals as goal

pub returns-in_err-refill-clause-searched : goal.returns-in_err-refill-clause-searched
returns-in_err-refill-clause-searched g c =
    let p = err_from_is_err_and c.from_residual.result c.from_residual.ensures.1 in
    let before = g.S.Source.state c.args.source.now in
    let mid = g.S.Source.state c.loop-self.source in
    let after = g.S.Source.state c.refill.new.source in
    let same : c.drop_waiting.new.self.number ≡ c.args.self.now.number = c.drop_waiting.ensures.number ∙ c.loop-self.invariant.number in
    let is : c.from_residual.result ≡ Err c.in_err-refill.field-0.0 = p.1 ∙ ap (λ (why : LineFault). let ending : Result Line LineFault = Err why in ending) p.2 in
    subst (λ (ending : Result Line LineFault). Searched c.args.self.now before after ending c.refill.new.self) (sym is)
    (Searched-fault c.args.self.now c.drop_waiting.new.self c.refill.new.self before mid after c.loop-self.self.taken c.loop-self.invariant.so_far
    c.drop_waiting.ensures.taken same c.in_err-refill.field-0.0 c.in_err-refill.ensures.refilled)

pub returns-in_err-refill-clause-counted : goal.returns-in_err-refill-clause-counted
returns-in_err-refill-clause-counted g c =
    let p = err_from_is_err_and c.from_residual.result c.from_residual.ensures.1 in
    let before = g.S.Source.state c.args.source.now in
    let mid = g.S.Source.state c.loop-self.source in
    let after = g.S.Source.state c.refill.new.source in
    let is : c.from_residual.result ≡ Err c.in_err-refill.field-0.0 = p.1 ∙ ap (λ (why : LineFault). let ending : Result Line LineFault = Err why in ending) p.2 in
    subst (λ (ending : Result Line LineFault). CountsReadFault ending before after) (sym is)
    (CountsReadFault-later ℕ Line c.in_err-refill.field-0.0 before mid after c.loop-self.invariant.so_far.faults c.in_err-refill.ensures.counted)

pub returns-then-branch-eq0-clause-searched : goal.returns-then-branch-eq0-clause-searched
returns-then-branch-eq0-clause-searched g c =
    let filled = c.in_ok-refill.ensures.refilled in
    let none : length filled.more ≡ 0 = filled.length ∙ c.if-branch-eq0.true in
    let counted : c.pass_last.new.self.taken ≡ c.loop-self.self.taken + length filled.more = omega (arith, c.pass_last.ensures.taken, filled.took.count, c.drop_waiting.ensures.taken) in
    Searched-long_last c.args.self.now (g.S.Source.state c.args.source.now) (g.S.Source.state c.loop-self.source) c.loop-self.self.taken c.loop-self.invariant.so_far (g.S.Source.state c.refill.new.source) filled.more filled.took.takes (omega (arith, filled.length, filled.small))
    c.pass_last.new.self counted
    c.requires.long none (filled.end c.if-branch-eq0.true) (omega (arith, filled.few, c.pass_last.ensures.taken)) c.pass_last.ensures.ended (omega (arith, c.pass_last.ensures.number, filled.number, c.drop_waiting.ensures.number, c.loop-self.invariant.number)) c.pass_last.ensures.text

pub returns-in-Some-clause-searched : goal.returns-in-Some-clause-searched
returns-in-Some-clause-searched g c =
    let filled = c.in_ok-refill.ensures.refilled in
    let index = c.in-Some.ensures.some in
    let bytes : List ℕ = c.waiting.result.now in
    let counted : c.pass.new.self.taken ≡ c.loop-self.self.taken + length filled.more = omega (arith, c.pass.ensures.taken, filled.took.count, c.drop_waiting.ensures.taken) in
    let same : bytes ≡ filled.more = c.waiting.ensures ∙ filled.waiting ∙ ap (λ b. b ++ filled.more) c.drop_waiting.ensures.waiting in
    let front : List ℕ = take c.in-Some.count bytes in
    let whole : filled.more ≡ front ++ 10 ∷ c.pass.new.self.waiting = sym same ∙ index.whole ∙ ap (λ b. front ++ 10 ∷ b) (ap (drop (c.in-Some.count + 1)) c.waiting.ensures ∙ sym c.pass.ensures.waiting) in
    Searched-long c.args.self.now (g.S.Source.state c.args.source.now) (g.S.Source.state c.loop-self.source) c.loop-self.self.taken c.loop-self.invariant.so_far (g.S.Source.state c.refill.new.source) filled.more filled.took.takes (omega (arith, filled.length, filled.small))
    c.pass.new.self counted
    c.requires.long front whole index.line (omega (arith, filled.few, c.pass.ensures.taken))
    (c.pass.ensures.ended ∙ filled.ended ∙ c.drop_waiting.ensures.ended ∙ c.loop-self.invariant.ended)
    (omega (arith, c.pass.ensures.number, filled.number, c.drop_waiting.ensures.number, c.loop-self.invariant.number)) c.pass.ensures.text

pub loop-self-preserved : goal.loop-self-preserved
loop-self-preserved g c =
    let filled = c.in_ok-refill.ensures.refilled in
    let bytes : List ℕ = c.waiting.result.now in
    let same : bytes ≡ filled.more = c.waiting.ensures ∙ filled.waiting ∙ ap (λ b. b ++ filled.more) c.drop_waiting.ensures.waiting in
    record {
      so_far = SoFar-more c.args.self.now (g.S.Source.state c.args.source.now) (g.S.Source.state c.loop-self.source) c.loop-self.self.taken c.loop-self.invariant.so_far (g.S.Source.state c.refill.new.source) filled.more filled.took.takes c.in_ok-refill.ensures.counted
          c.refill.new.self.taken (omega (arith, filled.took.count, c.drop_waiting.ensures.taken)) filled.few (subst HasNoLineEnd same c.in_default.ensures.none);
      some = omega (arith, c.if-branch-eq0.false, filled.length, ap length (filled.waiting ∙ ap (λ b. b ++ filled.more) c.drop_waiting.ensures.waiting));
      number = filled.number ∙ c.drop_waiting.ensures.number ∙ c.loop-self.invariant.number;
      ended = filled.ended ∙ c.drop_waiting.ensures.ended ∙ c.loop-self.invariant.ended;
    }
