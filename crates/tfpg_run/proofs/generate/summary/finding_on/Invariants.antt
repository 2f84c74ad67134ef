use Rattle.std.proofs.Common.{◌≢◌, ℕ, ◌<◌, get_or}
use Rattle.tfpg_evidence.specs.declared.finding.Finding.{Finding}
use Rattle.tfpg_evidence.specs.Findings.{hypothesis_of}
use Rattle.tfpg_run.proofs.generate.summary.finding_on.Given as goal

-- no finding so far is on the hypothesis
abbrev pub invariant-loop-finding : goal.invariant-loop-finding
invariant-loop-finding l = (k : ℕ) (d : Finding) → k < l.finding-index → hypothesis_of (get_or l.findings k d) ≢ l.hypothesis
