-- What a run works on: all of the outside, at one moment.
use Rattle.tfpg_base.specs.Outside.{SourceState, SinkState, ShelfState}
use Rattle.tfpg_panel.specs.Desk.{DeskState}
use Rattle.tfpg_streams.specs.Streams.{Streams, streams}
use Rattle.tfpg_diagnose.specs.Watched.{Watched, watched}

-- the states of the shelf, the input, the output and the desk
pub record World : Type 0 where
  pub shelf : ShelfState
  pub input : SourceState
  pub output : SinkState
  pub desk : DeskState

-- the world with these states
abbrev pub world : ShelfState → SourceState → SinkState → DeskState → World
world shelf input output desk = record { shelf = shelf; input = input; output = output; desk = desk }

-- the input and the output of a world
abbrev pub streams_of : World → Streams
streams_of at = streams at.input at.output

-- all of a world but its shelf
abbrev pub watched_of : World → Watched
watched_of at = watched at.input at.output at.desk
