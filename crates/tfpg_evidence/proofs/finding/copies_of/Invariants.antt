-- The copies so far.
use Rattle.std.proofs.Common.{◌≡◌, take}
use Rattle.tfpg_evidence.proofs.finding.copies_of.Given as goal

abbrev pub invariant-loop-finding : goal.invariant-loop-finding
invariant-loop-finding l = l.copies.items ≡ take l.finding-index l.findings
