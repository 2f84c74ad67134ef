use Rattle.tfpg_graph.specs.Graph.{sizes_of}
use Rattle.tfpg_evidence_tests.proofs.panel.tell_two.Goals as goal

pub tell-requires : goal.tell-requires
tell-requires g c = c.round_numbered.ensures (sizes_of c.args.graph.now)

pub tell-requires-2 : goal.tell-requires-2
tell-requires-2 g c = c.round_numbered-2.ensures (sizes_of c.args.graph.now)
