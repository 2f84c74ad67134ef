-- How the faults of the layers below become those of the streams.
use Rattle.tfpg_base.specs.declared.line.LineFault.{LineFault}
use Rattle.tfpg_base.specs.declared.line.LineFault.TheVariants as lines
use Rattle.tfpg_streams.specs.declared.fault.StreamFault.{StreamFault}
use Rattle.tfpg_streams.specs.declared.fault.StreamFault.TheVariants as streams
use Rattle.tfpg_streams.specs.declared.fault.OutputFault.{OutputFault}
use Rattle.tfpg_streams.specs.declared.fault.OutputFault.TheVariants as output

-- the fault of the streams that a fault of the reader of lines is
abbrev pub stream_fault_of_lines : LineFault → StreamFault
stream_fault_of_lines lines.ReadFault = streams.ReadFault
stream_fault_of_lines lines.TooMuchInput = streams.TooMuchInput

-- the fault of the streams that a fault of the output is
abbrev pub stream_fault_of_output : OutputFault → StreamFault
stream_fault_of_output output.WriteFault = streams.WriteFault
stream_fault_of_output output.NoMemory = streams.NoMemory
