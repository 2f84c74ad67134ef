use Rattle.std.proofs.Common.{sym}
use Rattle.tfpg_clause.proofs.lemmas.trees.Marks.{no_pick}
use Rattle.tfpg_clause.proofs.path.cite_one.Goals as goal

pub returns-in_default : goal.returns-in_default
returns-in_default c = sym (no_pick c.args.reason c.args.path.now c.in_default.not-Pick)
