use Rattle.std.proofs.Common.{sym, subst, ◌∙◌}
use Rattle.std.proofs.lemmas.Option.{same_Some}
use Rattle.tfpg_log.specs.Explains.{ShowsSilence}
use Rattle.tfpg_trace.proofs.silences.not_quiet_time.Goals as goal

pub returns-then-shows_silence : goal.returns-then-shows_silence
returns-then-shows_silence c = λ time hidden.
    hidden.not_shown
    (subst (ShowsSilence c.args.graph.now c.args.log.now c.args.trace.now c.args.node)
    (same_Some c.in_ok-time.time time (sym (sym c.silence_at.ensures ∙ c.in_ok-time.was) ∙ hidden.silent))
    (c.shows_silence.ensures.0 c.if-shows_silence.true))
