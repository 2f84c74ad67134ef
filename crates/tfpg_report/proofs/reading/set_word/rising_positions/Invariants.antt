use Rattle.std.proofs.Common.{map, drop}
use Rattle.tfpg_graph.specs.Graph.{failure_word}
use Rattle.tfpg_report.specs.inside.ReadMembers.{IsPosition}
use Rattle.tfpg_report.proofs.lemmas.reading.RisingMembers.{IsReadTo}
use Rattle.tfpg_report.proofs.reading.set_word.rising_positions.Given as goal

abbrev pub invariant-loop-name : goal.invariant-loop-name
invariant-loop-name l =
    IsReadTo (failure_word l.graph) (IsPosition l.graph) (map (λ name. name.now) l.names) l.set l.least
    (map (λ name. name.now) (drop l.name-index l.names))
