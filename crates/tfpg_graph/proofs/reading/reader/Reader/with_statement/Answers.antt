use Rattle.tfpg_graph.proofs.reading.reader.Reader.with_statement.Goals as goal

pub returns-in-Mode : goal.returns-in-Mode
returns-in-Mode c = rw c.in-Mode.is c.with_mode.ensures

pub returns-in-Node : goal.returns-in-Node
returns-in-Node c = rw c.in-Node.is c.with_node.ensures

pub returns-in-Edge : goal.returns-in-Edge
returns-in-Edge c = rw c.in-Edge.is c.with_edge.ensures
