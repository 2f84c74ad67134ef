use Rattle.std.proofs.Common.{get_or, ◌∙◌}
use Rattle.std.proofs.lemmas.Option.{slice_get-get_or}
use Rattle.tfpg_whatif.proofs.lemmas.Asked.{asked_same, found_next}
use Rattle.tfpg_whatif.proofs.outcomes.outcomes_at.Goals as goal

pub outcome_of-requires-clause-log : goal.outcome_of-requires-clause-log
outcome_of-requires-clause-log g c = asked_same c.args.asking.now c.args.log.now c.loop-number.log c.loop-number.invariant.0 c.requires.log

pub loop-number-preserved : goal.loop-number-preserved
loop-number-preserved g c = (
  c.outcome_of.ensures.events ∙ c.loop-number.invariant.0,
  found_next c.args.asking.now c.args.log.now c.loop-number.log c.as_slice-number-items.result.now c.loop-number.outcomes.items c.push.new.self.items c.loop-number.number-index
      (get_or c.as_slice-number-items.result.now c.loop-number.number-index 0) c.in_ok-outcome.outcome c.loop-number.invariant.0 c.as_slice-number-items.ensures
      (slice_get-get_or c.as_slice-number-items.result.now c.loop-number.number-index 0 c.loop-number-test.true) c.loop-number.invariant.1 c.in_ok-push.ensures.items c.in_ok-outcome.ensures.found,
)
