-- What a diagnosis works on: the input, the output and the desk of panels.
use Rattle.tfpg_base.specs.Outside.{SourceState, SinkState}
use Rattle.tfpg_panel.specs.Desk.{DeskState}
use Rattle.tfpg_streams.specs.Streams.{Streams, streams}

-- What a diagnosis works on besides the shelf: the input, the output and the desk.
pub record Watched : Type 0 where
  pub input : SourceState
  pub output : SinkState
  pub desk : DeskState

-- these three
abbrev pub watched : SourceState → SinkState → DeskState → Watched
watched input output desk = record { input = input; output = output; desk = desk }

-- the input and the output of them
abbrev pub streams_in : Watched → Streams
streams_in at = streams at.input at.output
