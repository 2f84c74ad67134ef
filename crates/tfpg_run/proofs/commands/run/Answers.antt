use Rattle.std.proofs.Common.{sym, ◌∙◌}
use Rattle.std.specs.Prelude.{map, string_bytes}
use Rattle.tfpg_words.specs.Plans.{meaning_of}
use Rattle.tfpg_run.proofs.lemmas.PlannedNumbers.{within_limits}
use Rattle.tfpg_run.proofs.lemmas.Stops.{runs_within}
use Rattle.tfpg_run.proofs.commands.run.Goals as goal

pub perform-requires : goal.perform-requires
perform-requires g c =
    within_limits (record {
      diagnose = c.numbers_are_within_their_limits.ensures.diagnose;
      generate = c.numbers_are_within_their_limits.ensures.generate;
      ask = c.numbers_are_within_their_limits.ensures.ask;
      fleet = c.numbers_are_within_their_limits.ensures.fleet;
      predict = c.numbers_are_within_their_limits.ensures.predict;
    }) (map string_bytes c.args.words.now) (meaning_of c.in-Ok.planned.command) c.in-Ok.ensures

pub returns-in-Ok-clause-work : goal.returns-in-Ok-clause-work
returns-in-Ok-clause-work g c meant e done =
    runs_within meant (meaning_of c.in-Ok.planned.command) _ _ c.args.work.now c.perform.new.work (sym e ∙ c.in-Ok.ensures) (c.perform.ensures.work (sym c.end_of.ensures ∙ done))
