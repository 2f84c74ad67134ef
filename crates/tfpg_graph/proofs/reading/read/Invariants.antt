use Rattle.std.proofs.Common.{◌≡◌, length, map}
use Rattle.tfpg_graph.specs.inside.reading.Turns.{ReaderRepresents}
use Rattle.tfpg_graph.proofs.reading.read.Given as goal

-- what is read represents the lines so far
abbrev pub invariant-loop-line : goal.invariant-loop-line
invariant-loop-line l = record {
  stands : ReaderRepresents l.reader (map (λ line. line.now) l.yielded);
  counted : l.line_count ≡ length l.yielded;
}
