use Rattle.std.proofs.Common.{◌≡◌, ◌++◌}
use Rattle.tfpg_predict.specs.inside.KeptEvents.{silences_upto}
use Rattle.tfpg_predict.proofs.kept.keep_silences.Given as goal

-- the silences of the nodes so far
abbrev pub invariant-loop-node : goal.invariant-loop-node
invariant-loop-node l = l.into.items ≡ l.fn.into.items ++ silences_upto l.last l.number l.time l.node
