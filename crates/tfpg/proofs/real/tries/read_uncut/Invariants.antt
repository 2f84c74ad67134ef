use Rattle.std.specs.Io.KnownBytes.{Keeps}
use Rattle.tfpg.proofs.real.tries.read_uncut.Given as goal

-- a read that was cut off took nothing
abbrev pub invariant-loop : goal.invariant-loop
invariant-loop g l = Keeps (g.R.Read.remaining l.initial.reader) (g.R.Read.remaining l.reader)
