-- The findings so far, that their calls are within their limits and all counted, and that the events stay.
use Rattle.std.proofs.Common.{◌≡◌, ◌+◌}
use Rattle.std.specs.Prelude.{sum_by}
use Rattle.tfpg_engine.specs.EngineState.{calls_of_slot}
use Rattle.tfpg_engine.specs.inside.Inquiries.{inquiry_of}
use Rattle.tfpg_engine.specs.inside.NewFindings.{AreFirstFindings}
use Rattle.tfpg_engine.specs.inside.SlotWork.{AreSlotsWithin}
use Rattle.tfpg_engine.proofs.findings.new_findings.Given as goal

abbrev pub invariant-loop-number : goal.invariant-loop-number
invariant-loop-number g l = (l.log.events ≡ l.initial.log.events)
    × AreFirstFindings (inquiry_of l.inquiry l.initial.log) l.table l.initial.slots l.slots l.findings.items l.number
    × AreSlotsWithin (inquiry_of l.inquiry l.initial.log) l.table l.initial.slots l.findings.items l.initial.work l.work
    × (sum_by calls_of_slot l.slots + l.initial.work ≡ sum_by calls_of_slot l.initial.slots + l.work)
