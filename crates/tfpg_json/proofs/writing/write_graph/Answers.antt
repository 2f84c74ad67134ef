use Rattle.std.proofs.Common.{[], ◌∷◌, ◌++◌, ap, ◌∙◌, append_assoc}
use Rattle.serde_json.specs.Written.{compact_text}
use Rattle.tfpg_json.specs.GraphData.{graph_data}
use Rattle.tfpg_json.proofs.lemmas.TokensWritten.{text_written}
use Rattle.tfpg_json.proofs.writing.write_graph.Goals as goal

pub returns : goal.returns
returns c =
    let old = c.args.into.now.items in
    let value = graph_data c.args.graph.now in
    c.in_ok-push.ensures.items
    ∙ ap (λ bytes. bytes ++ 10 ∷ [])
    (text_written old value c.writer_after-writer.result c.append_graph-written.new.into _ c.writer_after-writer.ensures.before c.writer_after-writer.ensures.tokens
    c.in_ok-written.ensures.before c.into_inner.ensures.items c.in_ok-written.ensures.ok)
    ∙ append_assoc old (compact_text value) (10 ∷ [])
