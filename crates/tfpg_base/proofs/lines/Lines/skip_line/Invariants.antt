use Rattle.std.proofs.Common.{◌≡◌, ◌<◌, ◌+◌, ◌-◌, length, None}
use Rattle.tfpg_base.specs.declared.limits.TheConstants.{MAX_BYTES}
use Rattle.tfpg_base.proofs.lemmas.Searches.{SoFar}
use Rattle.tfpg_base.proofs.lines.Lines.skip_line.Given as goal

abbrev pub invariant-loop-self : goal.invariant-loop-self
invariant-loop-self g l = record {
  so_far : SoFar l.fn.self (g.S.Source.state l.fn.source) (g.S.Source.state l.source) l.self.taken;
  some : 0 < length l.self.waiting;
  number : l.self.number ≡ l.fn.self.number;
  ended : l.self.ended ≡ None;
}

abbrev pub decreases-loop-self : goal.decreases-loop-self
decreases-loop-self g l = MAX_BYTES + 1 - l.self.taken
