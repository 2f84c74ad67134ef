use Rattle.std.proofs.Common.{refl, inr}
use Rattle.tfpg_trace.proofs.lemmas.Sweeps.{sweep_shown, silence_not_shown}
use Rattle.tfpg_trace.proofs.shows.not_shown.Goals as goal

pub returns-in-Some : goal.returns-in-Some
returns-in-Some c =
    inr (
      c.in-Some.node,
      c.in-Some.time,
      refl,
      silence_not_shown c.args.graph.now c.args.log.now c.args.trace.now c.args.number c.args.event c.in-Some.node c.in-Some.time c.requires.at c.in-Some.ensures,
    )

pub returns-in-None : goal.returns-in-None
returns-in-None c =
    sweep_shown c.args.graph.now c.args.log.now c.args.trace.now c.args.number c.args.event c.in-Sweep.time c.requires.at c.in-Sweep.is c.in-None.ensures
