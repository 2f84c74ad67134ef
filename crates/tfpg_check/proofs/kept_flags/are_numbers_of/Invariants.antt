-- The numbers so far are those of the lines so far.
use Rattle.std.proofs.Common.{◌≡◌, map, take}
use Rattle.tfpg_report.specs.declared.read_round.RankedLine.{RankedLine}
use Rattle.tfpg_check.proofs.kept_flags.are_numbers_of.Given as goal

abbrev pub invariant-loop-index : goal.invariant-loop-index
invariant-loop-index l = take l.index l.numbers ≡ map (λ (r : RankedLine). r.number) (take l.index l.ranked)
