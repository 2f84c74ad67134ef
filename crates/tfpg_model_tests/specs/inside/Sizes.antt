-- The graph that reports are tested with.
use Rattle.tfpg_graph.specs.Graph.{Sizes}

-- two failure modes, each with an edge to one alarm
abbrev pub small : Sizes
small = record { nodes = 3; edges = 2; failures = 2 }
