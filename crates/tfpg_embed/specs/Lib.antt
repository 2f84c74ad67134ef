-- The numbers of causes, answers, and the room of the caller.
pub mod Causes
pub mod Answers
pub mod Rooms
-- What the calls over whole texts come to.
pub mod TextCalls
-- What a handle of a session owns, and what the calls of a session come to.
pub mod Holding
pub mod Sessions
-- What the calls come to that ask a session, its numbers, those of a ranked hypothesis, and names.
pub mod Asked
pub mod Results
pub mod Ranking
pub mod Names
-- The line of an event that is given by numbers, and what comes of it.
pub mod EventLines
pub mod Events
