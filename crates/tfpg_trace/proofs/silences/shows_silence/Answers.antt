use Rattle.std.proofs.Common.{not, refl, sym, ap, ◌∙◌}
use Rattle.std.proofs.lemmas.Bool.{not-true, false_from_ne_true, iff_false}
use Rattle.tfpg_log.proofs.lemmas.events.ShownByLookUp.{shows_silence_by_instant, shows_silence_until, shows_silence_unheard}
use Rattle.tfpg_trace.proofs.silences.shows_silence.Goals as goal

pub returns-in-Some : goal.returns-in-Some
returns-in-Some c =
    let said = sym c.inactive_until.ensures ∙ c.in-Some.is in (
      λ quiet. shows_silence_until c.args.graph.now c.args.log.now c.args.trace.now c.args.node c.args.time c.in-Some.until said
          (iff_false c.is_active.ensures (not-true c.is_active.result quiet)),
      λ shows. ap not (false_from_ne_true c.is_active.result (λ active.
          shows_silence_by_instant c.args.graph.now c.args.log.now c.args.trace.now c.args.node c.args.time shows c.in-Some.until said
          (c.is_active.ensures.0 active))),
    )

pub returns-in-None : goal.returns-in-None
returns-in-None c = (
  λ _. shows_silence_unheard c.args.graph.now c.args.log.now c.args.trace.now c.args.node c.args.time
      (sym c.inactive_until.ensures ∙ c.in-None.is),
  λ _. refl,
)
