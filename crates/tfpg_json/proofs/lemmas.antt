-- Names as texts, lists that are read, and tokens that are written.
pub mod NameTexts
pub mod DataLists
pub mod TokensWritten
pub mod ListsRead
pub mod Refused
pub mod LinesSaid
pub mod StoodFor
pub mod read_back
pub mod ReadAgain
