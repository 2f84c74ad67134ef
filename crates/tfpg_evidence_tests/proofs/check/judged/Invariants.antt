use Rattle.std.specs.Prelude.{◌≡◌, None}
use Rattle.tfpg_evidence_tests.proofs.check.judged.Given as goal

abbrev pub invariant-loop-index : goal.invariant-loop-index
invariant-loop-index l = (l.judge.fault ≡ None) × (l.judge.lines ≡ l.index)
