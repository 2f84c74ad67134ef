-- The counts of the findings so far.
use Rattle.std.proofs.Common.{◌≡◌, take}
use Rattle.tfpg_hyp.specs.Rounds.{counts_of}
use Rattle.tfpg_engine.proofs.counts.counts_of.Given as goal

abbrev pub invariant-loop-finding : goal.invariant-loop-finding
invariant-loop-finding l = l.counts ≡ counts_of (take l.finding-index l.findings)
