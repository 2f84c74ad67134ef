use Rattle.std.proofs.Common.{arith}
use Rattle.tfpg_clause.proofs.lemmas.logs.TimesInRange.{now_in_range}
use Rattle.tfpg_clause.proofs.facts.now.Goals as goal

pub returns-clause-in_range : goal.returns-clause-in_range
returns-clause-in_range c = omega (arith, now_in_range c.args.log.now c.is_always_ordered.ensures, c.now.ensures)
