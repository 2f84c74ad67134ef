-- A box of an open session, the answers of the calls of a session, the bits and times of a ranked hypothesis, names, and the laws.
pub mod BoxedSession
pub mod SessionCalls
pub mod MadeTexts
pub mod Masks
pub mod NamesOfGraph
pub mod OneCause
pub mod TextOfLines
