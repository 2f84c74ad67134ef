-- A line that is accepted goes on right, and another one fails as the fault says.
use Rattle.std.proofs.Common.{ℕ, ◌+◌, subst, sym, ap, ◌∙◌}
use Rattle.tfpg_graph.specs.Valid.{IsValid}
use Rattle.tfpg_check.specs.JudgeState.{JudgeState, JudgeRepresents}
use Rattle.tfpg_check.specs.inside.LineSteps.{IsLineJudged}
use Rattle.tfpg_check.proofs.lemmas.going_on.JudgedLines.{line_goes_on, line_is_judged, can_read_still}
use Rattle.tfpg_check.proofs.judge.Judge.take.Goals as goal

pub invariant_of-self : goal.invariant_of-self
invariant_of-self g c =
    let can = c.self.invariant.reading c.in_default.is in
    let numbered = c.requires.next (sym (ap (λ (s : JudgeState). s.fault) c.self.view_is) ∙ c.in_default.is) ∙ ap (λ (s : JudgeState). s.lines + 1) (sym c.self.view_is) in
    record {
      few = c.requires.few;
      ready = λ running. c.in-Ok.ensures.ready;
      reading = λ running.
          can_read_still c.args.line.now c.self.inside.reader c.take_line.new.reader c.self.inside.blocks c.take_line.new.blocks c.self.inside.lines c.args.number c.take_line.result can
          (c.take_line.ensures.judged can.reads can.reader_is (numbered ∙ ap (λ (n : ℕ). n + 1) can.counted)) c.in-Ok.field-0 c.in-Ok.is numbered;
    }

pub returns-in-Ok-clause-judged : goal.returns-in-Ok-clause-judged
returns-in-Ok-clause-judged g c = λ problem reads represents.
    let numbered = c.requires.next represents.running ∙ ap (λ (n : ℕ). n + 1) represents.lines in
    let own = subst (λ (s : JudgeState). JudgeRepresents problem s reads) (sym c.self.view_is) represents in
    let gone = line_goes_on problem reads c.args.line.now
    (record { reader = c.self.inside.reader; blocks = c.self.inside.blocks; lines = c.self.inside.lines; fault = c.self.inside.fault }) own
    (subst IsValid c.graph.ensures c.is_always_valid.ensures.valid) c.take_line.new.reader c.take_line.new.blocks c.take_line.result
    (c.take_line.ensures.judged reads own.reader numbered) c.in-Ok.field-0 c.in-Ok.is c.args.number numbered c.in-Ok.ensures.ready c.self.inside.fault c.in_default.is in
    (gone.read, gone.goes_on)

pub returns-in-Ok-clause-goes_on : goal.returns-in-Ok-clause-goes_on
returns-in-Ok-clause-goes_on g c = λ problem reads represents.
    let numbered = c.requires.next represents.running ∙ ap (λ (n : ℕ). n + 1) represents.lines in
    let own = subst (λ (s : JudgeState). JudgeRepresents problem s reads) (sym c.self.view_is) represents in
    line_goes_on problem reads c.args.line.now
    (record { reader = c.self.inside.reader; blocks = c.self.inside.blocks; lines = c.self.inside.lines; fault = c.self.inside.fault }) own
    (subst IsValid c.graph.ensures c.is_always_valid.ensures.valid) c.take_line.new.reader c.take_line.new.blocks c.take_line.result
    (c.take_line.ensures.judged reads own.reader numbered) c.in-Ok.field-0 c.in-Ok.is c.args.number numbered c.in-Ok.ensures.ready c.self.inside.fault c.in_default.is

pub returns-in-Err-clause-judged : goal.returns-in-Err-clause-judged
returns-in-Err-clause-judged g c = λ problem reads represents.
    let numbered = c.requires.next represents.running ∙ ap (λ (n : ℕ). n + 1) represents.lines in
    let own = subst (λ (s : JudgeState). JudgeRepresents problem s reads) (sym c.self.view_is) represents in
    line_is_judged problem reads c.args.line.now
    (record { reader = c.self.inside.reader; blocks = c.self.inside.blocks; lines = c.self.inside.lines; fault = c.self.inside.fault }) own
    (subst IsValid c.graph.ensures c.is_always_valid.ensures.valid) c.take_line.new.reader c.take_line.new.blocks c.in-Err.fault
    (subst (IsLineJudged reads c.args.line.now c.take_line.new.reader c.self.inside.blocks c.take_line.new.blocks) c.in-Err.is (c.take_line.ensures.judged reads own.reader numbered))
