use Rattle.std.proofs.Common.{List, ℕ, sym, ap, subst}
use Rattle.tfpg_clause.specs.Case.{case_of}
use Rattle.tfpg_kernel.specs.CheckerState.{CheckerState}
use Rattle.tfpg_check.specs.inside.Parts.{IsTakenAs, broken_by}
use Rattle.tfpg_check.proofs.lemmas.judging.StepsTaken.{goes_on_itself, roomier, taken_as}
use Rattle.tfpg_check.proofs.round.steps.take_step.Goals as goal

pub returns-clause-taken : goal.returns-clause-taken
returns-clause-taken c = λ earlier is.
    let graph = c.args.graph.now in
    let log = c.args.log.now in
    let old = c.args.checker.now in
    let middle = c.reserve.new.self in
    let same = c.in_ok-reserve.ensures.same in
    let here = roomier graph log old middle earlier same is in
    let itself = goes_on_itself log in
    let taken =
    taken_as (case_of graph log middle.reach) earlier c.args.step.now c.take.new.self c.take.result (λ bad. c.take.ensures.bad log earlier itself here bad)
    (c.take.ensures.represents log earlier itself here) in
    subst (IsTakenAs (case_of graph log old.reach) earlier c.args.step.now c.take.new.self) (sym c.broken_by.ensures)
    (subst (λ (nodes : List ℕ). IsTakenAs (case_of graph log nodes) earlier c.args.step.now c.take.new.self (broken_by c.take.result)) (ap (λ (s : CheckerState). s.reach) same) taken)
