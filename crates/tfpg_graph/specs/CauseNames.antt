-- The names of what is wrong with a graph.
use Rattle.std.specs.Prelude.{ℕ, List, codes}
use Rattle.tfpg_graph.specs.declared.cause.GraphCause.{GraphCause}
use Rattle.tfpg_graph.specs.declared.cause.GraphCause.TheVariants as graph

-- the name of what is wrong with a graph
abbrev pub graph_cause_name : GraphCause → List ℕ
graph_cause_name graph.BadHeader = codes "BadHeader"
graph_cause_name graph.BadLine = codes "BadLine"
graph_cause_name graph.BadName = codes "BadName"
graph_cause_name graph.DuplicateName = codes "DuplicateName"
graph_cause_name graph.UnknownName = codes "UnknownName"
graph_cause_name graph.BadNumber = codes "BadNumber"
graph_cause_name graph.NumberTooLarge = codes "NumberTooLarge"
graph_cause_name graph.MinOverMax = codes "MinOverMax"
graph_cause_name graph.EdgeIntoFailure = codes "EdgeIntoFailure"
graph_cause_name graph.SelfEdge = codes "SelfEdge"
graph_cause_name graph.DuplicateEdge = codes "DuplicateEdge"
graph_cause_name graph.NoModes = codes "NoModes"
graph_cause_name graph.NoIncoming = codes "NoIncoming"
graph_cause_name graph.ZeroCycle = codes "ZeroCycle"
graph_cause_name graph.TooManyNodes = codes "TooManyNodes"
graph_cause_name graph.TooManyFailures = codes "TooManyFailures"
graph_cause_name graph.TooManyEdges = codes "TooManyEdges"
graph_cause_name graph.TooManyModes = codes "TooManyModes"
graph_cause_name graph.TooManyIncoming = codes "TooManyIncoming"
graph_cause_name graph.MissingEnd = codes "MissingEnd"
graph_cause_name graph.AfterEnd = codes "AfterEnd"
