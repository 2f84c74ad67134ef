use Rattle.std.proofs.Common.{◌≤◌, length}
use Rattle.std.specs.Vec.{vec_capacity}
use Rattle.std.specs.Io.KnownBytes.{Consumes}
use Rattle.tfpg_base.specs.declared.limits.TheConstants.{LONGEST_FILE}
use Rattle.tfpg.proofs.real.file_shelf.read_whole.Given as goal

-- what was read so far is no longer than a file may be, and is what the reader has given; the room has not shrunk
abbrev pub invariant-loop : goal.invariant-loop
invariant-loop g l = record {
  small : length l.into.items ≤ LONGEST_FILE;
  room : vec_capacity l.fn.into ≤ vec_capacity l.into;
  given : Consumes (g.R.Read.remaining l.initial.reader) (g.R.Read.remaining l.reader) l.into.items;
}
