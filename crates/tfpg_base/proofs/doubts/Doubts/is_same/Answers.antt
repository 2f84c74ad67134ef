use Rattle.std.proofs.Common.{sym, ◌∙◌}
use Rattle.tfpg_base.proofs.lemmas.SetTests.{equal_exactly}
use Rattle.tfpg_base.proofs.doubts.Doubts.is_same.Goals as goal

pub returns-then-len : goal.returns-then-len
returns-then-len c =
    equal_exactly _ c.args.self c.args.other c.len.ensures.set c.len-2.ensures.set (sym c.len.ensures.count ∙ c.if-len.true ∙ c.len-2.ensures.count) c.is_subset.ensures
