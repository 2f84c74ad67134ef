use Rattle.tfpg_base.proofs.doubts.Doubts.is_subset.Goals as goal

pub returns : goal.returns
returns c = rw (← c.self.view_is, ← c.of.view_is) c.is_subset.ensures
