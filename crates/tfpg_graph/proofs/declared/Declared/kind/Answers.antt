use Rattle.tfpg_graph.proofs.lemmas.declaring.Named.{kind_at-values}
use Rattle.tfpg_graph.proofs.declared.Declared.kind.Goals as goal

pub returns : goal.returns
returns c = rw (← c.self.view_is) (kind_at-values c.self.inside c.args.node _ c.index.ensures)
