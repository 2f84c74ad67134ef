-- How the faults of the layers below become those of fetching, of the work of a command and of a run.
use Rattle.std.specs.Prelude.{◌≡◌, ℕ, List}
use Rattle.tfpg_base.specs.Outside.{ShelfState, Rose, NotesName}
use Rattle.tfpg_base.specs.declared.outside.ShelfFault.{ShelfFault}
use Rattle.tfpg_base.specs.declared.outside.ShelfFault.TheVariants as shelf
use Rattle.tfpg_graph.specs.declared.cause.GraphRefusal.{GraphRefusal}
use Rattle.tfpg_graph.specs.declared.cause.GraphRefusal.TheVariants as refusal
use Rattle.tfpg_graph.specs.Faults.{IsFirstFault}
use Rattle.tfpg_words.specs.declared.plan_fault.PlanFault.{PlanFault}
use Rattle.tfpg_words.specs.declared.plan_fault.PlanFault.TheVariants as plan
use Rattle.tfpg_hyp.specs.declared.table.TableFault.{TableFault}
use Rattle.tfpg_hyp.specs.declared.table.TableFault.TheVariants as table
use Rattle.tfpg_run.specs.declared.fault.FetchFault.{FetchFault}
use Rattle.tfpg_run.specs.declared.fault.FetchFault.TheVariants as fetch
use Rattle.tfpg_run.specs.Fetch.{IsFetchFaultBy, IsTooLong}
use Rattle.tfpg_sim.specs.declared.fault.SimFault.{SimFault}
use Rattle.tfpg_sim.specs.declared.fault.SimFault.TheVariants as sim
use Rattle.tfpg_check.specs.declared.cause.CheckCause.TheVariants.{BadScript}
use Rattle.tfpg_run.specs.declared.end.End.{End}
use Rattle.tfpg_run.specs.declared.end.End.TheVariants as ends

-- the fault of fetching that a fault of the shelf is
abbrev pub fetch_fault_of_shelf : ShelfFault → FetchFault
fetch_fault_of_shelf shelf.Failed = fetch.Failed
fetch_fault_of_shelf shelf.TooLong = fetch.TooLong
fetch_fault_of_shelf shelf.NoMemory = fetch.NoMemory

-- the fault of fetching that a refusal of the reader of graphs is
abbrev pub fetch_fault_of_refusal : GraphRefusal → FetchFault
fetch_fault_of_refusal (refusal.Fault fault) = fetch.Graph fault
fetch_fault_of_refusal refusal.NoMemory = fetch.NoMemory

-- the end of a run that has no table of hypotheses
abbrev pub end_of_table_fault : TableFault → End
end_of_table_fault (table.TooMany count) = ends.TooManyHypotheses count
end_of_table_fault table.NoMemory = ends.NoMemory

-- the end of a run that has no plan
abbrev pub end_of_plan_fault : PlanFault → End
end_of_plan_fault (plan.Usage cause) = ends.Usage cause
end_of_plan_fault plan.NoMemory = ends.NoMemory

-- the end of a run whose script was not simulated
abbrev pub end_of_sim_fault : SimFault → End
end_of_sim_fault (sim.BadScript line) = ends.NotAccepted line BadScript
end_of_sim_fault sim.NoMemory = ends.NoMemory

-- Why the file of this name was not fetched: the shelf was asked for it, and failed; or it was asked and did not fail, and the file has
-- more than 2^24 bytes; or memory ran out, and it was not asked.
abbrev pub IsFileFault : ShelfState → ShelfState → List ℕ → ShelfFault → Type 0
IsFileFault before now name shelf.Failed = Rose before.faults now.faults × NotesName before now name
IsFileFault before now name shelf.TooLong = IsTooLong before name × (now.faults ≡ before.faults) × NotesName before now name
IsFileFault before now name shelf.NoMemory = (now.faults ≡ before.faults) × (now.asked ≡ before.asked)

-- Why there is no graph that is read as a graph text, or no text of the other files.
abbrev pub IsFetchFault : List ℕ → List (List ℕ) → ShelfState → ShelfState → FetchFault → Type 0
IsFetchFault = IsFetchFaultBy IsFirstFault
