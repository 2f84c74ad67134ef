-- The numbers of the lines so far.
use Rattle.std.proofs.Common.{◌≡◌, map, take}
use Rattle.tfpg_report.specs.declared.read_round.RankedLine.{RankedLine}
use Rattle.tfpg_check.proofs.kept_flags.numbers_of.Given as goal

abbrev pub invariant-loop-r : goal.invariant-loop-r
invariant-loop-r l = l.numbers.items ≡ map (λ (r : RankedLine). r.number) (take l.r-index l.ranked)
