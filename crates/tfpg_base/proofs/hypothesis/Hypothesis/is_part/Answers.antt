use Rattle.tfpg_base.proofs.lemmas.SetTests.{part_by_doubts, no_part_by_set}
use Rattle.tfpg_base.proofs.hypothesis.Hypothesis.is_part.Goals as goal

pub returns-then-is_subset : goal.returns-then-is_subset
returns-then-is_subset c =
    part_by_doubts c.args.self c.args.of (record { set = c.self.inside.set; doubts = c.self.inside.doubts }) (record { set = c.of.inside.set; doubts = c.of.inside.doubts })
    c.self.view_is c.of.view_is c.is_subset.result c.is_subset.ensures c.is_subset-then-is_subset.result c.if-is_subset.true c.is_subset-then-is_subset.ensures

pub returns-else-is_subset : goal.returns-else-is_subset
returns-else-is_subset c =
    no_part_by_set c.args.self c.args.of (record { set = c.self.inside.set; doubts = c.self.inside.doubts }) (record { set = c.of.inside.set; doubts = c.of.inside.doubts })
    c.self.view_is c.of.view_is c.is_subset.result c.is_subset.ensures c.if-is_subset.false
