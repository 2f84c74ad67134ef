use Rattle.std.proofs.Common.{Ok, sym, ap, ◌∙◌}
use Rattle.std.proofs.lemmas.Result.{err_from_is_err_and}
use Rattle.tfpg_graph.specs.declared.kind.Kind.{Kind}
use Rattle.tfpg_graph.specs.declared.reading.reader.ReadingStage.TheVariants.{Declarations}
use Rattle.tfpg_graph.specs.declared.version.Version.{Version}
use Rattle.tfpg_graph.specs.Graph.{Tfpg}
use Rattle.tfpg_graph.specs.inside.declaring.Indexes.{with_node}
use Rattle.tfpg_graph.specs.declared.reading.reader.Reader.{Reader}
use Rattle.tfpg_graph.proofs.lemmas.reading.causes.Judged.{cause_or_value-caused, cause_or_value-valued}
use Rattle.tfpg_graph.proofs.reading.reader.Reader.with_node.Goals as goal

pub returns-in_err-kind : goal.returns-in_err-kind
returns-in_err-kind c =
    let p = err_from_is_err_and c.from_residual.result c.from_residual.ensures.1 in
    rw (p.1, p.2) (cause_or_value-caused _ _ c.in_err-kind.field-0.0 c.in_err-kind.ensures.first)

-- the progress with this graph
abbrev with_graph : Version → Tfpg → Reader
with_graph version graph = record { part = Declarations; version = version; declared = graph }

pub returns : goal.returns
returns c =
    cause_or_value-valued (λ (kind : Kind). with_graph c.args.self.version (with_node c.args.self.declared c.args.name.now kind)) _ _ c.in_ok-kind.kind c.in_ok-kind.ensures.first.0 c.in_ok-kind.ensures.first.1
    ∙ ap (λ graph. Ok (with_graph c.args.self.version graph)) (sym c.in_ok-declared.ensures)
