use Rattle.std.proofs.Common.{◌≡◌, ℕ, true, false, length, Result, Err, ap, ◌∙◌, sym, subst, refl, arith}
use Rattle.std.proofs.lemmas.Result.{err_from_is_err_and}
use Rattle.tfpg_base.specs.declared.line.Line.{Line}
use Rattle.tfpg_base.specs.declared.line.LineFault.{LineFault}
use Rattle.tfpg_base.specs.Lines.{HasNoLineEnd, CountsReadFault}
use Rattle.tfpg_base.specs.inside.LineSearch.{IsAtLineEnd, GivesLast, Searched}
use Rattle.tfpg_base.proofs.lemmas.Searches.{IsReading-start, IsReading-more, Searched-read, Searched-given_last, Searched-fault, Searched-further, after_seen}
use Rattle.tfpg_base.proofs.lemmas.Taking.{CountsReadFault-later}
use Rattle.tfpg_base.proofs.lines.Lines.read_line.Goals as goal

pub loop-self-init : goal.loop-self-init
loop-self-init g c = IsReading-start c.args.self.now (g.S.Source.state c.args.source.now) c.requires.part c.requires.few c.requires.goes_on

pub returns-then-seen-gt-LONGEST_LINE-clause-searched :
    goal.returns-then-seen-gt-LONGEST_LINE-clause-searched
returns-then-seen-gt-LONGEST_LINE-clause-searched g c =
    let state = g.S.Source.state in
    let reading = c.loop-self.invariant in
    Searched-further c.args.self.now c.loop-self.self c.skip_line.new.self (state c.args.source.now) (state c.loop-self.source) (state c.skip_line.new.source)
    reading.so_far reading.waiting reading.number c.skip_line.result c.skip_line.ensures.searched

pub returns-in_err-refill-clause-searched : goal.returns-in_err-refill-clause-searched
returns-in_err-refill-clause-searched g c =
    let p = err_from_is_err_and c.from_residual.result c.from_residual.ensures.1 in
    let before = g.S.Source.state c.args.source.now in
    let mid = g.S.Source.state c.loop-self.source in
    let after = g.S.Source.state c.refill.new.source in
    let reading = c.loop-self.invariant in
    let is : c.from_residual.result ≡ Err c.in_err-refill.field-0.0 = p.1 ∙ ap (λ (why : LineFault). let ending : Result Line LineFault = Err why in ending) p.2 in
    subst (λ (ending : Result Line LineFault). Searched c.args.self.now before after ending c.refill.new.self) (sym is)
    (Searched-fault c.args.self.now c.loop-self.self c.refill.new.self before mid after c.loop-self.self.taken reading.so_far
    refl reading.number c.in_err-refill.field-0.0 c.in_err-refill.ensures.refilled)

pub returns-in_err-refill-clause-counted : goal.returns-in_err-refill-clause-counted
returns-in_err-refill-clause-counted g c =
    let p = err_from_is_err_and c.from_residual.result c.from_residual.ensures.1 in
    let before = g.S.Source.state c.args.source.now in
    let mid = g.S.Source.state c.loop-self.source in
    let after = g.S.Source.state c.refill.new.source in
    let is : c.from_residual.result ≡ Err c.in_err-refill.field-0.0 = p.1 ∙ ap (λ (why : LineFault). let ending : Result Line LineFault = Err why in ending) p.2 in
    subst (λ (ending : Result Line LineFault). CountsReadFault ending before after) (sym is)
    (CountsReadFault-later ℕ Line c.in_err-refill.field-0.0 before mid after c.loop-self.invariant.so_far.faults c.in_err-refill.ensures.counted)

pub returns-then-give_last-clause-searched : goal.returns-then-give_last-clause-searched
returns-then-give_last-clause-searched g c =
    let state = g.S.Source.state in
    Searched-given_last c.args.self.now c.loop-self.self (state c.args.source.now) (state c.loop-self.source) c.loop-self.invariant c.refill.new.self (state c.refill.new.source)
    c.in_ok-refill.field-0 c.in_ok-refill.ensures.refilled c.in_ok-refill.ensures.counted c.give_last.new.self true
    c.if-branch-eq0.true (omega (arith, c.if-seen-gt-LONGEST_LINE.false, ap length c.waiting-seen.ensures))
    (subst (λ some. GivesLast c.refill.new.self some c.give_last.new.self) c.if-give_last.true c.give_last.ensures.given) c.give_last.ensures.taken c.give_last.ensures.ended

pub returns-then-branch-eq0-clause-searched : goal.returns-then-branch-eq0-clause-searched
returns-then-branch-eq0-clause-searched g c =
    let state = g.S.Source.state in
    Searched-given_last c.args.self.now c.loop-self.self (state c.args.source.now) (state c.loop-self.source) c.loop-self.invariant c.refill.new.self (state c.refill.new.source)
    c.in_ok-refill.field-0 c.in_ok-refill.ensures.refilled c.in_ok-refill.ensures.counted c.give_last.new.self false
    c.if-branch-eq0.true (omega (arith, c.if-seen-gt-LONGEST_LINE.false, ap length c.waiting-seen.ensures))
    (subst (λ some. GivesLast c.refill.new.self some c.give_last.new.self) c.if-give_last.false c.give_last.ensures.given) c.give_last.ensures.taken c.give_last.ensures.ended

pub returns-in-Some-clause-searched : goal.returns-in-Some-clause-searched
returns-in-Some-clause-searched g c =
    let state = g.S.Source.state in
    let reading = c.loop-self.invariant in
    let filled = c.in_ok-refill.ensures.refilled in
    let seen : ℕ = length c.waiting-seen.result.now in
    let beyond = after_seen c.args.self.now c.loop-self.self (state c.args.source.now) (state c.loop-self.source) reading c.refill.new.self (state c.refill.new.source) c.in_ok-refill.field-0 filled c.in_ok-refill.ensures.counted
    c.waiting.result.now c.waiting-seen.result.now c.waiting.ensures c.waiting-seen.ensures in
    Searched-read c.args.self.now c.loop-self.self (state c.args.source.now) (state c.loop-self.source) reading c.refill.new.self (state c.refill.new.source) c.in_ok-refill.field-0 filled c.in_ok-refill.ensures.counted
    c.give_whole.new.self c.give_whole.result
    seen c.in-Some.more (ap length c.waiting-seen.ensures) (subst (λ bytes. IsAtLineEnd bytes c.in-Some.more) beyond c.in-Some.ensures.some)
    c.give_whole.ensures.kind c.give_whole.ensures.waiting c.give_whole.ensures.text c.give_whole.ensures.number c.give_whole.ensures.taken c.give_whole.ensures.ended

pub loop-self-preserved : goal.loop-self-preserved
loop-self-preserved g c =
    let state = g.S.Source.state in
    let reading = c.loop-self.invariant in
    let filled = c.in_ok-refill.ensures.refilled in
    let beyond = after_seen c.args.self.now c.loop-self.self (state c.args.source.now) (state c.loop-self.source) reading c.refill.new.self (state c.refill.new.source) c.in_ok-refill.field-0 filled c.in_ok-refill.ensures.counted
    c.waiting.result.now c.waiting-seen.result.now c.waiting.ensures c.waiting-seen.ensures in
    IsReading-more c.args.self.now c.loop-self.self (state c.args.source.now) (state c.loop-self.source) reading c.refill.new.self (state c.refill.new.source) c.in_ok-refill.field-0 filled c.in_ok-refill.ensures.counted
    (subst HasNoLineEnd beyond c.in_default.ensures.none)
