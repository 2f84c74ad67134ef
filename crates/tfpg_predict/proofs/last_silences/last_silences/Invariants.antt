use Rattle.std.proofs.Common.{◌≡◌, map}
use Rattle.std.specs.List.{range_with_len}
use Rattle.tfpg_predict.specs.inside.KeptEvents.{last_silence}
use Rattle.tfpg_predict.proofs.last_silences.last_silences.Given as goal

abbrev pub invariant-loop-node : goal.invariant-loop-node
invariant-loop-node l = l.last.items ≡ map (last_silence l.graph l.log) (range_with_len 0 l.node)
