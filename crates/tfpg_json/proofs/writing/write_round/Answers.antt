use Rattle.tfpg_json.specs.RoundData.{round_data}
use Rattle.tfpg_json.proofs.lemmas.TokensWritten.{text_appended}
use Rattle.tfpg_json.proofs.writing.write_round.Goals as goal

pub returns : goal.returns
returns c =
    text_appended c.args.into.now.items (round_data c.args.graph.now c.args.round.now) c.writer_after-writer.result c.append_round-written.new.into _
    c.writer_after-writer.ensures.before c.writer_after-writer.ensures.tokens c.append_round-written.ensures.before c.into_inner.ensures.items
    c.append_round-written.result c.append_round-written.ensures.ok
