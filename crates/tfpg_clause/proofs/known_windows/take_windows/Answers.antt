use Rattle.std.proofs.Common.{◌<◌, length, length-set, get_or, ◌∙◌, arith}
use Rattle.tfpg_clause.proofs.lemmas.first_violated.WindowsKnown.{is_over, more_known, more_windows}
use Rattle.tfpg_clause.proofs.known_windows.take_windows.Goals as goal

pub loop-index-preserved : goal.loop-index-preserved
loop-index-preserved c =
    let graph = c.args.site.now.graph.now in
    let log = c.args.site.now.log.now in
    let index = c.loop-index.index in
    let within : index < length c.loop-index.known = omega (arith, c.loop-index-test.true, c.requires.room, c.loop-index.invariant.same) in
    record {
      taken =
          more_windows graph log c.args.site.now.span c.args.site.now.horizon c.args.edges.now c.loop-index.known index c.window_over.result within c.window_over.ensures.value c.loop-index.invariant.taken;
      known = more_known graph log c.args.site.now.horizon c.args.edges.now c.loop-index.known index c.window_over.result within
          (is_over graph log
          (get_or c.args.edges.now index 0) c.args.site.now.span c.args.site.now.horizon c.window_over.result c.window_over.ensures.value)
          c.loop-index.invariant.known;
      same = length-set c.loop-index.known index c.window_over.result ∙ c.loop-index.invariant.same;
    }
