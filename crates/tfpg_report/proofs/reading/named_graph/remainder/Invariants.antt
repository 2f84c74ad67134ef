use Rattle.std.proofs.Common.{◌<◌}
use Rattle.tfpg_report.proofs.reading.named_graph.remainder.Given as goal

abbrev pub invariant-loop-byte : goal.invariant-loop-byte
invariant-loop-byte l = l.remainder < 1024
