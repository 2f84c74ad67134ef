use Rattle.std.proofs.Common.{ap, ◌∙◌, arith}
use Rattle.tfpg_evidence.specs.Findings.{hypothesis_of}
use Rattle.tfpg_run.proofs.generate.summary.finding_on.Goals as goal

pub unreachable-requires : goal.unreachable-requires
unreachable-requires c =
    let there = c.requires in
    c.loop-finding.invariant there.0 there.1 (omega (arith, there.2, c.loop-finding-test.false)) (ap hypothesis_of there.3 ∙ there.4)
