use Rattle.std.proofs.Common.{subst}
use Rattle.std.specs.Prelude.{slice_get}
use Rattle.tfpg_search.specs.SearchState.{SearchState}
use Rattle.tfpg_search.specs.inside.Leaving.{Leaves}
use Rattle.tfpg_search.proofs.lemmas.leaves.AlternativePushed.{leaves_none}
use Rattle.tfpg_search.proofs.search.Search.leave.Goals as goal

pub returns-then-kept-entered_count-clause-leaf : goal.returns-then-kept-entered_count-clause-leaf
returns-then-kept-entered_count-clause-leaf c =
    subst (λ (s : SearchState). Leaves (slice_get s.entered c.args.kept) s.leaf c.leave.new.self) c.self.view_is c.leave.ensures.leaves

pub returns-else-kept-entered_count-clause-leaf : goal.returns-else-kept-entered_count-clause-leaf
returns-else-kept-entered_count-clause-leaf c =
    leaves_none c.args.self.now.entered c.args.kept c.args.self.now.leaf c.entered_count.result c.entered_count.ensures c.if-kept-entered_count.false
