use Rattle.std.proofs.Common.{◌≡◌, ◌++◌, take}
use Rattle.std.specs.List.{flat_map}
use Rattle.tfpg_log.specs.EventLines.{event_line}
use Rattle.tfpg_sim.proofs.log_lines.append_events.Given as goal

-- the texts of the items so far stand after the old bytes
abbrev pub invariant-loop-event : goal.invariant-loop-event
invariant-loop-event l = l.into.items ≡ l.fn.into.items ++ flat_map (event_line l.graph) (take l.event-index l.events)
