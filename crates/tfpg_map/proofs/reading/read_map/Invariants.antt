use Rattle.std.proofs.Common.{◌-◌, ◌+◌}
use Rattle.tfpg_base.specs.declared.limits.TheConstants.{MAX_BYTES}
use Rattle.tfpg_map.specs.inside.Reading.{IsReadingMap, map_reading_at}
use Rattle.tfpg_map.proofs.reading.read_map.Given as goal

-- the lines so far are read
abbrev pub invariant-loop-lines : goal.invariant-loop-lines
invariant-loop-lines g l = IsReadingMap l.graph (g.S.Source.state l.fn.input) (map_reading_at (g.S.Source.state l.input) l.lines l.reader)

-- there are no more lines than bytes that are taken, but for a last one
abbrev pub decreases-loop-lines : goal.decreases-loop-lines
decreases-loop-lines g l = MAX_BYTES + 2 - l.lines.number
