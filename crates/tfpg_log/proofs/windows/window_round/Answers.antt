use Rattle.std.proofs.Common.{◌≡◌, false, ◌∙◌}
use Rattle.tfpg_log.specs.inside.ActiveModes.{has_mode}
use Rattle.tfpg_log.proofs.lemmas.changes.WindowStarts.{none_without_span, none_in_other_mode, no_beginning, window_walked}
use Rattle.tfpg_log.proofs.windows.window_round.Goals as goal

pub returns-in_err-span : goal.returns-in_err-span
returns-in_err-span c log spans by_now =
    c.from_residual.ensures
    ∙ none_without_span log c.args.changes.now spans c.args.modes.now c.args.number c.args.horizon by_now c.in_err-span.ensures

pub returns-then-not-has : goal.returns-then-not-has
returns-then-not-has c log spans by_now =
    let other : has_mode c.args.modes.now c.in_ok-span.span.mode ≡ false = cc in
    none_in_other_mode log c.args.changes.now spans c.args.modes.now c.args.number c.args.horizon c.in_ok-span.span by_now c.in_ok-span.ensures other

pub returns-in_err-lo : goal.returns-in_err-lo
returns-in_err-lo c log spans by_now =
    absurd
    (no_beginning log c.args.changes.now spans c.args.modes.now c.args.number c.args.horizon c.in_ok-span.span by_now c.in_ok-span.ensures
    c.run_start-first.result c.run_end-last.result c.run_start-first.ensures c.run_end-last.ensures c.in_err-lo.ensures)

pub returns : goal.returns
returns c log spans by_now =
    window_walked log c.args.changes.now spans c.args.modes.now c.args.number c.args.horizon c.in_ok-span.span by_now c.in_ok-span.ensures
    c.run_start-first.result c.run_end-last.result c.run_start-first.ensures c.run_end-last.ensures c.in_ok-lo.lo c.end_of_span-hi.result
    c.in_ok-lo.ensures c.end_of_span-hi.ensures
