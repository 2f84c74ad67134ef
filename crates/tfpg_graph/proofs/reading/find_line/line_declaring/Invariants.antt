use Rattle.std.proofs.Common.{◌≡◌, ◌≤◌, length, take, count_by}
use Rattle.tfpg_base.specs.Lines.{parts_of}
use Rattle.tfpg_graph.specs.Faults.{says}
use Rattle.tfpg_graph.specs.inside.reading.StatementSeen.{test_of}
use Rattle.tfpg_graph.proofs.reading.find_line.line_declaring.Given as goal

abbrev pub invariant-loop-line : goal.invariant-loop-line
invariant-loop-line l = record {
  numbered : l.line_number ≡ length l.yielded;
  few : l.declared ≤ l.number;
  counted : l.declared ≡ count_by (says l.version (test_of l.declaring)) (take (length l.yielded) (parts_of l.text));
}
