use Rattle.std.proofs.Common.{◌≡◌, ◌≤◌, ◌*◌, count_ones, take}
use Rattle.std.specs.List.{sum_by}
use Rattle.tfpg_base.proofs.node_numbers.NodeNumbers.len.Given as goal

abbrev pub invariant-loop-word : goal.invariant-loop-word
invariant-loop-word l = record {
  count : l.count ≡ sum_by count_ones (take l.word-index l.word-items);
  few : l.count ≤ 64 * l.word-index;
}
