use Rattle.std.proofs.Common.{◌≡◌, ap, sym, subst, ◌∙◌}
use Rattle.tfpg_evidence.specs.declared.step.Step.{Step}
use Rattle.tfpg_evidence.specs.declared.step.Step.TheVariants.{Cycle, Again}
use Rattle.tfpg_kernel.specs.declared.taken.Taken.{Taken}
use Rattle.tfpg_kernel.specs.CheckerState.{CheckerState}
use Rattle.tfpg_kernel.specs.inside.Paths.{Moves}
use Rattle.tfpg_kernel.proofs.checker.Checker.take_step.Goals as goal

pub returns-then-self-clause-result : goal.returns-then-self-clause-result
returns-then-self-clause-result c = λ earlier steps goes_on represents.
    c.moves_are_results.ensures.refused c.args.graph.now earlier c.args.log.now c.args.self.now steps c.args.step.now c.is_always_ordered.ensures goes_on represents
    (sym (ap (λ (b : CheckerState). b.closed) c.self.view_is) ∙ c.if-self.true)

pub returns-in-Split-clause-result : goal.returns-in-Split-clause-result
returns-in-Split-clause-result c = λ earlier steps goes_on represents.
    c.moves_are_results.ensures.moved c.args.graph.now earlier c.args.log.now c.args.self.now c.split.new.self steps c.args.step.now c.split.result c.is_always_ordered.ensures goes_on
    represents (sym (ap (λ (b : CheckerState). b.closed) c.self.view_is) ∙ c.if-self.false) c.split.ensures.reach
    (subst (λ (step : Step). Moves c.args.graph.now c.args.log.now c.args.self.now step c.split.result c.split.new.self) (sym c.in-Split.is) c.split.ensures.moves)

pub returns-in-Cycle-clause-result : goal.returns-in-Cycle-clause-result
returns-in-Cycle-clause-result c = λ earlier steps goes_on represents.
    let same : Cycle c.as_slice.result.now ≡ c.args.step.now = cc in
    c.moves_are_results.ensures.moved c.args.graph.now earlier c.args.log.now c.args.self.now c.close.new.self steps c.args.step.now c.close.result c.is_always_ordered.ensures goes_on
    represents (sym (ap (λ (b : CheckerState). b.closed) c.self.view_is) ∙ c.if-self.false) c.close.ensures.reach
    (subst (λ (step : Step). Moves c.args.graph.now c.args.log.now c.args.self.now step c.close.result c.close.new.self) same c.close.ensures.moves)

pub returns-in-Again-clause-result : goal.returns-in-Again-clause-result
returns-in-Again-clause-result c = λ earlier steps goes_on represents.
    c.moves_are_results.ensures.moved c.args.graph.now earlier c.args.log.now c.args.self.now c.reuse.new.self steps c.args.step.now c.reuse.result c.is_always_ordered.ensures goes_on
    represents (sym (ap (λ (b : CheckerState). b.closed) c.self.view_is) ∙ c.if-self.false) c.reuse.ensures.reach
    (subst (λ (step : Step). Moves c.args.graph.now c.args.log.now c.args.self.now step c.reuse.result c.reuse.new.self) (sym c.in-Again.is) (c.reuse.ensures.moves c.args.graph.now c.args.log.now))

pub returns-in-Again-clause-unchanged : goal.returns-in-Again-clause-unchanged
returns-in-Again-clause-unchanged c = λ bad same.
    (subst (λ (result : Taken). Moves c.args.graph.now c.args.log.now c.args.self.now Again result c.reuse.new.self) same (c.reuse.ensures.moves c.args.graph.now c.args.log.now)).1
