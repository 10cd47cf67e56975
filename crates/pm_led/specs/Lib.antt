pub mod Heads
pub mod LedLaws
pub mod Orientation
pub mod TurnedEdge
pub mod Walked
