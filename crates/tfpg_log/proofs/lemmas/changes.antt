-- The spans and windows by the changes of mode that begin them, as the code keeps them.
pub mod ModeChanges
pub mod SpanChanges
pub mod SpanStarts
pub mod WindowStarts
pub mod ModesInto
