use Rattle.std.proofs.Common.{List, ap, subst, refl, ◌∙◌}
use Rattle.std.specs.Prelude.{ℕ}
use Rattle.tfpg_kernel.specs.CheckerState.{CheckerState}
use Rattle.tfpg_clause.specs.declared.path.PathSplit.{PathSplit}
use Rattle.tfpg_kernel.specs.Breaks.{CycleBreaks}
use Rattle.tfpg_clause.specs.Case.{case_of}
use Rattle.tfpg_clause.specs.Trees.{stated}
use Rattle.tfpg_clause.specs.Paths.{chosen_on}
use Rattle.tfpg_kernel.proofs.checker.Checker.close.Goals as goal

pub returns-in-Err-clause-moves : goal.returns-in-Err-clause-moves
returns-in-Err-clause-moves c =
    let reach = ap (λ (b : CheckerState). b.reach) c.self.view_is in
    let path = c.deref.ensures.value ∙ ap (λ (b : CheckerState). b.path) c.self.view_is in (
      subst (λ (r : List ℕ). CycleBreaks (stated (case_of c.args.graph.now c.args.log.now r) (chosen_on c.args.self.now.path)) c.args.reasons.now c.in-Err.bad) reach
          (subst (λ (f : List PathSplit). CycleBreaks (stated (case_of c.args.graph.now c.args.log.now c.self.inside.reach) (chosen_on f)) c.args.reasons.now c.in-Err.bad) path c.in-Err.ensures),
      refl,
    )
