-- What an engine keeps between events.
use Rattle.std.specs.Prelude.{◌≡◌, ◌≤◌, List, [], length, false, Some, slice_get}
use Rattle.tfpg_base.specs.Hypothesis.{Hypothesis}
use Rattle.tfpg_graph.specs.Graph.{Tfpg}
use Rattle.tfpg_log.specs.Log.{Logbook, IsLogOf}
use Rattle.tfpg_clause.specs.Case.{Case}
use Rattle.tfpg_clause.specs.Trees.{Judged}
use Rattle.tfpg_hyp.specs.Hypotheses.{Hypotheses, Row, IsRowOf, IsTableOf}
use Rattle.tfpg_hyp.specs.Views.{case_for}
use Rattle.tfpg_engine.specs.declared.engine.Engine.TheInside.{Inside}
use Rattle.tfpg_engine.specs.declared.slot.Slot.{Slot}
use Rattle.tfpg_engine.specs.EngineState.{EngineState, SlotRepresents}

-- what contracts see of an engine
abbrev pub engine_state_of : Inside → EngineState
engine_state_of e =
    record {
      graph = e.graph;
      log = e.log;
      terms = e.terms;
      table = e.table;
      slots = e.slots.items;
      ended = e.ended;
    }

-- What is kept of a hypothesis represents some steps.
abbrev pub CanGoOn : Case → Hypothesis → Slot → Type 0
CanGoOn case hypothesis slot = (steps : List Judged) × SlotRepresents case hypothesis slot steps

-- Each slot can go on.
abbrev pub AllCanGoOn : Tfpg → Logbook → Hypotheses → List Slot → Type 0
AllCanGoOn graph log table slots =
    (row : Row) (slot : Slot) → IsRowOf table row → slice_get slots row.number ≡ Some slot →
    CanGoOn (case_for graph log row.hypothesis row.reach) row.hypothesis slot

-- The table is that of the graph, the log ignores no monitor, there is a slot for each hypothesis, and while the engine runs each
-- slot can go on.
pub record IsEngine (engine : EngineState) : Type 0 where
  pub table : IsTableOf engine.graph engine.terms engine.table
  pub of : IsLogOf engine.graph engine.log
  pub ignores_none : engine.log.ignored ≡ []
  pub budget : 1 ≤ engine.terms.budget
  pub one_each : length engine.slots ≡ length engine.table.hypotheses
  pub slots : engine.ended ≡ false → AllCanGoOn engine.graph engine.log engine.table engine.slots
