-- The lines of a script: what they say, their order, and what is read of them.
pub mod EntryLines
pub mod ScriptLines
pub mod ScriptOrder
pub mod ReadLines
pub mod ReadScripts
pub mod SpelledScripts
