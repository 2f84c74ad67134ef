use Rattle.std.specs.Io.KnownBytes.{Keeps}
use Rattle.tfpg.proofs.real.tries.write_uncut.Given as goal

-- a write that was cut off wrote nothing
abbrev pub invariant-loop : goal.invariant-loop
invariant-loop g l = Keeps (g.W.Write.contents l.initial.writer) (g.W.Write.contents l.writer)
