-- How the faults of the layers below become those of judging, the blocks of lines, and a diagnosis and a judging under way.
pub mod Faults
pub mod LineBlocks
pub mod UnderWay
pub mod Telling
pub mod JudgingUnderWay
pub mod texts
