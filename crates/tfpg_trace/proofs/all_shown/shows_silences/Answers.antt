use Rattle.std.proofs.lemmas.Bool.{ltb-true, lt-ltb}
use Rattle.tfpg_trace.proofs.lemmas.ShownByNode.{silences_shown, active_after}
use Rattle.tfpg_trace.proofs.all_shown.shows_silences.Goals as goal

pub returns-in-Some-quiet_longest : goal.returns-in-Some-quiet_longest
returns-in-Some-quiet_longest c = (
  λ later. silences_shown c.args.graph.now c.args.log.now c.args.trace.now c.args.node c.in-Some.start c.in-Some-quiet_longest.until c.in-Some.ensures
      c.in-Some-quiet_longest.ensures (ltb-true c.in-Some-quiet_longest.until c.in-Some.start later),
  λ shows. lt-ltb c.in-Some-quiet_longest.until c.in-Some.start
      (active_after c.args.graph.now c.args.log.now c.args.trace.now c.args.node c.in-Some.start c.in-Some-quiet_longest.until c.in-Some.ensures
      c.in-Some-quiet_longest.ensures shows),
)
