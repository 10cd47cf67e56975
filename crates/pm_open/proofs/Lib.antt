mod EvenDegrees
mod Folded
pub mod KeptByOpening
mod Letters
mod OneOpening
mod Opened
mod OpenedWalk
mod PlaceKinds
pub mod SomeOpening
mod Spelled
mod SpelledNodes
mod SpelledPairs
mod TreeLevels
mod TreeWalk
pub mod UniqueOpening
mod UniqueWalk
mod WalkLoop
