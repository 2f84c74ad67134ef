use Rattle.std.proofs.Common.{subst, sym, List, []}
use Rattle.tfpg_clause.specs.Case.{case_of}
use Rattle.tfpg_clause.specs.Paths.{HasPath}
use Rattle.tfpg_clause.specs.declared.path.PathSplit.{PathSplit}
use Rattle.tfpg_kernel.proofs.checker.Checker.new.Goals as goal

pub returns-clause-represents : goal.returns-clause-represents
returns-clause-represents c = λ graph log. record {
  steps_are =
      subst (λ (path : List PathSplit). HasPath (case_of graph log c.args.reach) [] path) (sym c.new.ensures.items)
      (c.a_partial_tree_grows.ensures.begins (case_of graph log c.args.reach));
}
