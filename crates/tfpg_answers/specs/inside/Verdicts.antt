-- What the code knows of a verdict when it writes its line.
use Rattle.std.specs.Prelude.{◌<◌, length}
use Rattle.tfpg_graph.specs.Graph.{Tfpg}
use Rattle.tfpg_trace.specs.declared.verdict.Verdict.{Verdict}
use Rattle.tfpg_trace.specs.declared.verdict.Verdict.TheVariants as verdict

-- a verdict names a node of the graph, where it names one
abbrev pub NamesNode : Tfpg → Verdict → Type 0
NamesNode graph verdict.Yes = Unit {0}
NamesNode graph (verdict.Late node time) = node < length graph.nodes
NamesNode graph (verdict.Stranger node time) = node < length graph.nodes
NamesNode graph (verdict.May node time) = node < length graph.nodes
NamesNode graph (verdict.Must node time) = node < length graph.nodes
NamesNode graph (verdict.Alarm node time) = node < length graph.nodes
NamesNode graph (verdict.Silence node time) = node < length graph.nodes
