-- The ends that the faults of a run, and the results of the work of each command, lead to.
use Rattle.std.specs.Prelude.{◌≡◌, Result, Ok, Err}
use Rattle.tfpg_run.specs.declared.fault.FetchFault.{FetchFault}
use Rattle.tfpg_run.specs.declared.fault.FetchFault.TheVariants as fetch
use Rattle.tfpg_streams.specs.declared.fault.StreamFault.{StreamFault}
use Rattle.tfpg_streams.specs.declared.fault.StreamFault.TheVariants as streams
use Rattle.tfpg_base.specs.declared.line.LineFault.{LineFault}
use Rattle.tfpg_base.specs.declared.line.LineFault.TheVariants as lines
use Rattle.tfpg_map.specs.declared.map.NoMap.{NoMap}
use Rattle.tfpg_map.specs.declared.map.NoMap.TheVariants as maps
use Rattle.tfpg_diagnose.specs.declared.fault.CheckFault.{CheckFault}
use Rattle.tfpg_diagnose.specs.declared.fault.CheckFault.TheVariants as check
use Rattle.tfpg_streams.specs.declared.fault.OutputFault.{OutputFault}
use Rattle.tfpg_streams.specs.declared.fault.OutputFault.TheVariants as output
use Rattle.tfpg_answers.specs.declared.predict.probing.ProbeFault.{ProbeFault}
use Rattle.tfpg_answers.specs.declared.predict.probing.ProbeFault.TheVariants as probe
use Rattle.tfpg_graph.specs.declared.cause.GraphCause.TheVariants as graph
use Rattle.tfpg_words.specs.declared.usage_cause.UsageCause.TheVariants.{UnknownNode}
use Rattle.tfpg_check.specs.declared.cause.CheckCause.TheVariants.{BadMap}
use Rattle.tfpg_run.specs.declared.end.End.{End}
use Rattle.tfpg_run.specs.declared.end.End.TheVariants as ends

-- the end of a run that has no graph
abbrev pub end_of_fetch_fault : FetchFault → End
end_of_fetch_fault fetch.Failed = ends.ReadFault
end_of_fetch_fault fetch.TooLong = ends.TooMuchInput
end_of_fetch_fault (fetch.Graph fault) = ends.Graph fault.line fault.cause
end_of_fetch_fault fetch.NoMemory = ends.NoMemory

-- the end of a run whose streams failed
abbrev pub end_of_stream_fault : StreamFault → End
end_of_stream_fault streams.ReadFault = ends.ReadFault
end_of_stream_fault streams.WriteFault = ends.WriteFault
end_of_stream_fault streams.TooMuchInput = ends.TooMuchInput
end_of_stream_fault streams.NoMemory = ends.NoMemory

-- the end of a run whose input was not read to its end
abbrev pub end_of_line_fault : LineFault → End
end_of_line_fault lines.ReadFault = ends.ReadFault
end_of_line_fault lines.TooMuchInput = ends.TooMuchInput

-- the end of a run whose input gives no map
abbrev pub end_of_no_map : NoMap → End
end_of_no_map (maps.Refused line) = ends.NotAccepted line BadMap
end_of_no_map (maps.Lines fault) = end_of_line_fault fault
end_of_no_map maps.NoMemory = ends.NoMemory

-- the end of a run whose report was not accepted
abbrev pub end_of_check_fault : CheckFault → End
end_of_check_fault (check.NotAccepted line cause) = ends.NotAccepted line cause
end_of_check_fault (check.TooMany count) = ends.TooManyHypotheses count
end_of_check_fault (check.Lines fault) = end_of_line_fault fault
end_of_check_fault check.NoMemory = ends.NoMemory

-- the end of a run whose text was not written
abbrev pub end_of_output_fault : OutputFault → End
end_of_output_fault output.WriteFault = ends.WriteFault
end_of_output_fault output.NoMemory = ends.NoMemory

-- the end of a run whose node takes no probe
abbrev pub end_of_probe_fault : ProbeFault → End
end_of_probe_fault probe.TooManyNodes = ends.Graph 0 graph.TooManyNodes
end_of_probe_fault probe.TooManyEdges = ends.Graph 0 graph.TooManyEdges
end_of_probe_fault probe.UnknownNode = ends.Usage UnknownNode

-- the end of a run whose work has this result, by the ends that its faults lead to
abbrev pub end_of_result : {E : Type 0} → (E → End) → Result (Unit {0}) E → End
end_of_result end_of (Ok done) = ends.Done
end_of_result end_of (Err fault) = end_of fault

-- The work has a result of which this holds, and the run ends as the result says.
pub record EndsBy {E : Type 0} (Works : Result (Unit {0}) E → Type 0) (end_of : E → End) (end : End) : Type 0 where
  pub result : Result (Unit {0}) E
  pub works : Works result
  pub end_is : end ≡ end_of_result end_of result

-- The run stops by a fault of which this holds, with the end that it leads to, and what is named here is as it was.
pub record StopsBy {F X : Type 0} (IsFault : F → Type 0) (end_of : F → End) (before now : X) (end : End) : Type 0 where
  pub fault : F
  pub is_fault : IsFault fault
  pub end_is : end ≡ end_of fault
  pub untouched : now ≡ before
