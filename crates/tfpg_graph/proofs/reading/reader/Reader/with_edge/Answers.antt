use Rattle.std.proofs.Common.{Ok, sym, ap, ◌∙◌}
use Rattle.std.proofs.lemmas.Result.{err_from_is_err_and}
use Rattle.tfpg_graph.specs.declared.edge.Edge.{Edge}
use Rattle.tfpg_graph.specs.declared.reading.reader.ReadingStage.TheVariants.{Declarations}
use Rattle.tfpg_graph.specs.declared.version.Version.{Version}
use Rattle.tfpg_graph.specs.Graph.{Tfpg}
use Rattle.tfpg_graph.specs.inside.declaring.Indexes.{with_edge}
use Rattle.tfpg_graph.specs.declared.reading.reader.Reader.{Reader}
use Rattle.tfpg_graph.proofs.lemmas.reading.causes.Judged.{cause_or_value-caused, cause_or_value-valued}
use Rattle.tfpg_graph.proofs.reading.reader.Reader.with_edge.Goals as goal

pub returns-in_err-edge : goal.returns-in_err-edge
returns-in_err-edge c =
    let p = err_from_is_err_and c.from_residual-in_err-edge.result c.from_residual-in_err-edge.ensures.1 in
    rw (p.1, p.2) (cause_or_value-caused _ _ c.in_err-edge.field-0.0 c.in_err-edge.ensures.first)

-- the progress with this graph
abbrev with_graph : Version → Tfpg → Reader
with_graph version graph = record { part = Declarations; version = version; declared = graph }

pub returns : goal.returns
returns c =
    cause_or_value-valued (λ (edge : Edge). with_graph c.args.self.version (with_edge c.args.self.declared edge)) _ _ c.in_ok-edge.edge c.in_ok-edge.ensures.first.0 c.in_ok-edge.ensures.first.1
    ∙ ap (λ graph. Ok (with_graph c.args.self.version graph)) (sym c.in_ok-declared.ensures)
