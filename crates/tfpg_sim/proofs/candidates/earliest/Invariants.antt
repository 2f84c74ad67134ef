use Rattle.tfpg_sim.specs.inside.Settling.{IsEarliestBelow}
use Rattle.tfpg_sim.proofs.candidates.earliest.Given as goal

-- the least of the candidates so far
abbrev pub invariant-loop-node : goal.invariant-loop-node
invariant-loop-node l = IsEarliestBelow l.candidates l.node l.best
