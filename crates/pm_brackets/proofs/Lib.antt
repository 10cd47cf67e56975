pub mod Bracketed
pub mod Dyck
mod Filling
pub mod Least
pub mod LetterCounts
pub mod LetterTurns
pub mod Levels
mod LowTurns
pub mod Lows
pub mod Nesting
pub mod NodeWalk
pub mod OpenBrackets
pub mod OwnLetters
mod Pairing
pub mod PlantedAt
pub mod Reading
pub mod Replants
pub mod RingPlaces
pub mod Rings
pub mod Stack
pub mod Tally
pub mod Turns
