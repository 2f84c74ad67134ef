use Rattle.std.proofs.Common.{◌≡◌, ℕ, ◌<◌, get_or}
use Rattle.tfpg_base.proofs.node_numbers.NodeNumbers.split_first.Given as goal

-- the words so far have no bit
abbrev pub invariant-loop-number : goal.invariant-loop-number
invariant-loop-number l = (k : ℕ) → k < l.number → get_or l.self-inside.words k 0 ≡ 0
