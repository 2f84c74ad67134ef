use Rattle.std.proofs.Common.{◌+◌, ◌-◌}
use Rattle.tfpg_base.specs.declared.limits.TheConstants.{MAX_BYTES}
use Rattle.tfpg_base.proofs.lemmas.Searches.{IsReading}
use Rattle.tfpg_base.proofs.lines.Lines.read_line.Given as goal

abbrev pub invariant-loop-self : goal.invariant-loop-self
invariant-loop-self g l = IsReading l.fn.self l.self (g.S.Source.state l.fn.source) (g.S.Source.state l.source)

abbrev pub decreases-loop-self : goal.decreases-loop-self
decreases-loop-self g l = MAX_BYTES + 1 - l.self.taken
