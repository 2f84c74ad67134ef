use Rattle.std.proofs.Common.{◌≡◌, ◌++◌, List, ℕ, length}
use Rattle.tfpg_base.specs.Outside.{Puts}
use Rattle.tfpg_streams.proofs.output.write_all.Given as goal

-- a front of the piece is written, the rest is left, and nothing has failed
abbrev pub invariant-loop-rest : goal.invariant-loop-rest
invariant-loop-rest g l = record {
  front : List ℕ;
  parts : l.fn.piece ≡ front ++ l.rest;
  puts : Puts (g.K.Sink.state l.fn.out) (g.K.Sink.state l.out) front;
  no_fault : (g.K.Sink.state l.out).faults ≡ (g.K.Sink.state l.fn.out).faults;
}

abbrev pub decreases-loop-rest : goal.decreases-loop-rest
decreases-loop-rest g l = length l.rest
