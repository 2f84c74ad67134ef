-- What the last event shows at once.
use Rattle.std.specs.Prelude.{◌≡◌, ℕ, List, [], ◌∷◌, Contains, Some, slice_get}
use Rattle.tfpg_base.specs.declared.activation.Activation.{Activation}
use Rattle.tfpg_graph.specs.Graph.{Tfpg}
use Rattle.tfpg_log.specs.declared.event.Event.{Event}
use Rattle.tfpg_log.specs.declared.event.Event.TheVariants.{Alarm, Silent, Sweep, Tick, Mode}
use Rattle.tfpg_log.specs.declared.interval.Interval.{Interval}
use Rattle.tfpg_log.specs.Log.{Logbook, alarm_interval, now_of, time_of_event}
use Rattle.tfpg_log.specs.Explains.{Explains, ShowsAlarm, ShowsSilence}
use Rattle.tfpg_evidence.specs.declared.reason.Reason.TheVariants.{Unreached, Upto}
use Rattle.tfpg_evidence.specs.declared.step.Step.{Step}
use Rattle.tfpg_evidence.specs.declared.step.Step.TheVariants.{Cycle}
use Rattle.tfpg_whatif.specs.declared.asking.LastEvent.{LastEvent}
use Rattle.tfpg_whatif.specs.declared.outcome.Outcome.TheVariants.{Fits}

-- A trace that is known of the hypothesis at an index explains the log before the event, which is at now.
abbrev pub ExplainsBefore : Tfpg → Logbook → List ℕ → LastEvent → ℕ → Type 0
ExplainsBefore graph earlier set last index =
    (trace : List Activation) → slice_get last.before.now index ≡ Some (Fits trace)
    → Explains graph earlier set trace × (time_of_event last.event ≡ now_of earlier)

-- The event is a silence or an alarm, and the trace shows it.
abbrev pub ShowsAnswer : Tfpg → Logbook → List Activation → Event → Type 0
ShowsAnswer graph log trace (Alarm time node) = ShowsAlarm graph log trace node time
ShowsAnswer graph log trace (Silent time node) = ShowsSilence graph log trace node time
ShowsAnswer graph log trace (Sweep time) = ⊥
ShowsAnswer graph log trace (Tick time) = ⊥
ShowsAnswer graph log trace (Mode time mode) = ⊥

-- The trace is known of the hypothesis at an index, and shows the event.
pub record IsKept (graph : Tfpg) (log : Logbook) (last : LastEvent) (index : ℕ) (trace : List Activation) : Type 0 where
  pub known : slice_get last.before.now index ≡ Some (Fits trace)
  pub shown : ShowsAnswer graph log trace last.event

-- The node is not reached, and this is the last instant that an alarm of it at this time leaves.
pub record IsLatestUnreached (graph : Tfpg) (log : Logbook) (reach : List ℕ) (node time latest : ℕ) : Type 0 where
  pub outside : Contains reach node → ⊥
  pub interval : Interval
  pub left : alarm_interval graph log node time ≡ Some interval
  pub latest_is : latest ≡ interval.latest

-- One cycle: the node is not reached, so it is not active by the horizon; and the alarm of the event says that it is.
abbrev pub unreached_steps : ℕ → ℕ → ℕ → List Step
unreached_steps node horizon event = Cycle (Unreached node horizon ∷ Upto event ∷ []) ∷ []
