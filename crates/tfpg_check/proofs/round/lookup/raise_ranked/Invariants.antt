-- The flags of the lines so far are up, besides those that were.
use Rattle.std.proofs.Common.{◌≡◌, ◌<◌, ℕ, length, take, eqb}
use Rattle.std.specs.Prelude.{◌||◌}
use Rattle.std.specs.List.{list_any}
use Rattle.tfpg_report.specs.declared.read_round.RankedLine.{RankedLine}
use Rattle.tfpg_check.specs.inside.Lookups.{flag_at}
use Rattle.tfpg_check.proofs.round.lookup.raise_ranked.Given as goal

abbrev pub invariant-loop-r : goal.invariant-loop-r
invariant-loop-r l =
    (number : ℕ) → number < length l.initial.flags → flag_at l.flags number ≡ (flag_at l.initial.flags number || list_any (λ (r : RankedLine). eqb r.number number) (take l.r-index l.ranked))
