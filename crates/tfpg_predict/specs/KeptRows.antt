-- A small graph, for the worked rows of what is kept: F leads to A within 3 milliseconds, and to E after 9.
use Rattle.std.specs.Prelude.{[], ◌∷◌, Some, codes}
use Rattle.tfpg_graph.specs.declared.kind.Kind.TheVariants.{Failure, Or}
use Rattle.tfpg_graph.specs.Graph.{Tfpg, lag_up_to}

-- the nodes are F, A and E; A and E are monitored with lag 0
abbrev pub two_alarms : Tfpg
two_alarms = record {
  nodes = record { name = codes "F"; kind = Failure 1 } ∷ record { name = codes "A"; kind = Or (Some (lag_up_to 0)) }
      ∷ record { name = codes "E"; kind = Or (Some (lag_up_to 0)) } ∷ [];
  edges = record { source = 0; target = 1; tmin = 1; tmax = Some 3; modes = 1 } ∷ record { source = 0; target = 2; tmin = 9; tmax = Some 9; modes = 1 } ∷ [];
  modes = codes "N" ∷ [];
}
