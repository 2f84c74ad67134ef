-- The reasons of the system of a leaf.
pub mod stated_system
-- The facts of a log.
pub mod facts
-- Steps that lead on, and what they come to for all steps before.
pub mod steps
-- The picks of a path, and what moves do to the system.
pub mod leaves
-- Calls of a search.
pub mod calls
-- Bounds that are set, and the calls that set them.
pub mod work
-- The budget that is always enough.
pub mod budget
-- The one latest solution at a leaf, and the clause that it violates first.
pub mod solutions
