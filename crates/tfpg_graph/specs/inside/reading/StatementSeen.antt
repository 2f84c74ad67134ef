-- What the code reads of a line, seen as the definition of causes says it.
use Rattle.std.specs.Prelude.{Bool, Option, Some, None}
use Rattle.tfpg_graph.specs.declared.reading.statement.Statement.{Statement}
use Rattle.tfpg_graph.specs.declared.reading.statement.Statement.TheVariants as code
use Rattle.tfpg_graph.specs.declared.reading.statement.LagWords.{LagWords}
use Rattle.tfpg_graph.specs.declared.reading.statement.NodeWords.{NodeWords}
use Rattle.tfpg_graph.specs.declared.reading.statement.NodeWords.TheVariants as words
use Rattle.tfpg_graph.specs.declared.reading.statement.EdgeWords.{EdgeWords}
use Rattle.tfpg_graph.specs.declared.reading.find_line.Declaring.{Declaring}
use Rattle.tfpg_graph.specs.declared.reading.find_line.Declaring.TheVariants as declaring
use Rattle.tfpg_graph.specs.Statements.{FailureWords, OrWords, AndWords, DeclaresMode, DeclaresNode, DeclaresEdge, Ends, declares_node, declares_edge}
use Rattle.tfpg_graph.specs.Statements as definition

-- the words for a lag, where there are any
abbrev pub lag_seen : Option LagWords → Option definition.LagWords
lag_seen None = None
lag_seen (Some lag) = Some (record { least = lag.least.now; most = lag.most.now })

-- the words that say what a node is
abbrev pub node_words_of : NodeWords → definition.NodeWords
node_words_of (words.Failure rarity) = FailureWords rarity.now
node_words_of (words.Or lag) = OrWords (lag_seen lag)
node_words_of (words.And lag) = AndWords (lag_seen lag)

-- the words of an edge's line
abbrev pub edge_said : EdgeWords → definition.Statement
edge_said edge = DeclaresEdge edge.source.now edge.target.now edge.tmin.now edge.tmax.now edge.modes.now

-- what a line says
abbrev pub statement_seen : Statement → definition.Statement
statement_seen (code.Mode name) = DeclaresMode name.now
statement_seen (code.Node name words) = DeclaresNode name.now (node_words_of words)
statement_seen (code.Edge words) = edge_said words
statement_seen code.End = Ends

-- the statements that are counted
abbrev pub test_of : Declaring → definition.Statement → Bool
test_of declaring.Node = declares_node
test_of declaring.Edge = declares_edge
