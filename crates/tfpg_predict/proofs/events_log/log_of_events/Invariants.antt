use Rattle.std.proofs.Common.{◌≡◌, take}
use Rattle.tfpg_log.specs.Log.{IsLogOf}
use Rattle.tfpg_log.specs.LogOfLines.{log_of_events}
use Rattle.tfpg_predict.proofs.events_log.log_of_events.Given as goal

abbrev pub invariant-loop-event : goal.invariant-loop-event
invariant-loop-event l = record {
  log_is : l.log ≡ log_of_events (take l.event-index l.events);
  of : IsLogOf l.graph l.log;
}
