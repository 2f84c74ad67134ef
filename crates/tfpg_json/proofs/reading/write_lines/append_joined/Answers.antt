use Rattle.tfpg_json.proofs.lemmas.LinesSaid.{joined_goes_on}
use Rattle.tfpg_json.proofs.reading.write_lines.append_joined.Goals as goal

pub loop-index-preserved : goal.loop-index-preserved
loop-index-preserved c =
    joined_goes_on (λ name. name.now) c.args.names.now c.loop-index.index _ _ _ _ c.loop-index-test.true c.loop-index.invariant c.in_ok-append_part.ensures
