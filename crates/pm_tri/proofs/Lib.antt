pub mod BackCounts
pub mod ClosingLaws
mod CountsRead
pub mod Prefixes
pub mod HighCorners
pub mod Meetings
pub mod BitTrees
pub mod CountReading
pub mod NodeTurns
pub mod OneReason
pub mod SomeReason
mod PlantScans
pub mod Replants
pub mod RunCorners
pub mod RunLevels
pub mod RunStarts
pub mod RunTurns
pub mod SideCounts
pub mod StemCounts
pub mod StemLetters
pub mod StemReading
pub mod TriBounds
pub mod Triangulations
pub mod Unique
mod Walk
pub mod WholeTree
